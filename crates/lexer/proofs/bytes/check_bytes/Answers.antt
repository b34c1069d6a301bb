use Rattle.std.proofs.Common.{sym, ◌∙◌, rules, tests}
use Rattle.std.proofs.lemmas.Iterator.{YieldsList-from_slice}
use Rattle.std.proofs.lemmas.Iterator.Search.{all_from_yields_List}
use Rattle.lexer.specs.Bytes.{printable}
use Rattle.lexer.proofs.bytes.check_bytes.Goals as goal

pub returns-then-all : goal.returns-then-all
returns-then-all c =
    sym (all_from_yields_List printable _ _ _ c.all.ensures.ran (YieldsList-from_slice c.args.line.part.bytes.now cc) (λ x b q k. search (rules, tests)))
    ∙ c.if-all.true
