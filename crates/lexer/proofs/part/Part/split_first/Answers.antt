use Rattle.std.proofs.Common.{[], ◌∷◌}
use Rattle.lexer.proofs.Standing.{stand-parts}
use Rattle.lexer.proofs.part.Part.split_first.Goals as goal

pub returns-clause-places : goal.returns-clause-places
returns-clause-places c =
    stand-parts c.args.self (c.in_ok-first.first.now ∷ []) c.in_ok-first.bytes.now _ c.in_ok-first.ensures.cases.0 c.saturating_add-at.ensures
