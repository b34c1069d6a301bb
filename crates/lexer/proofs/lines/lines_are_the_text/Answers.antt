use Rattle.lexer.proofs.LineLaw.{lines-stand, only-lines}
use Rattle.lexer.proofs.lines.lines_are_the_text.Goals as goal

pub returns : goal.returns
returns c = record { made = lines-stand; only = only-lines }
