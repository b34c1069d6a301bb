use Rattle.fompaqi.proofs.Showing.{shown-same}
use Rattle.fompaqi.proofs.shown.short_lines_are_shown_whole.Goals as goal

pub returns : goal.returns
returns c = shown-same
