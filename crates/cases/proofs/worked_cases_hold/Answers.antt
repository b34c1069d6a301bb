use Rattle.std.proofs.Common.{None, refl, inr, arith}
use Rattle.tables.specs.Runs.{after}
use Rattle.rules.specs.Semantics.{lowest, related}
use Rattle.cases.proofs.worked_cases_hold.Goals as goal

pub returns : goal.returns
unfolding after lowest related
returns c = (
  (refl, refl),
  (
    (refl, refl),
    (
      (refl, refl),
      (
        (refl, refl),
        (
          inr (omega arith, inr (record { before = None; sound = tt; all = refl; lacks = refl; told = refl })),
          tt,
        ),
      ),
    ),
  ),
)
