use Rattle.lexer.proofs.Cuts.{cut_at}
use Rattle.lexer.proofs.Standing.{stand-parts}
use Rattle.lexer.proofs.part.Part.cut.Goals as goal

pub returns-clause-places : goal.returns-clause-places
returns-clause-places c =
    let s = c.split_at.ensures in
    stand-parts c.args.self c.split_at.result.0.now c.split_at.result.1.now _ (cut_at _ _ c.find.ensures s.front s.back).is c.saturating_add-at.ensures
