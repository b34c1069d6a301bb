-- The laws of lists of requests are theorems.
use Rattle.tables.proofs.Running.{pending-lasts, run-folds}
use Rattle.tables.proofs.table.runs_keep_their_laws.Goals as goal

pub returns-clause-folded : goal.returns-clause-folded
returns-clause-folded c = run-folds

pub returns-clause-pending : goal.returns-clause-pending
returns-clause-pending c = pending-lasts
