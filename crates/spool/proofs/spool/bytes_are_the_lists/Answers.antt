use Rattle.spool.proofs.Exactness.{exact-layout}
use Rattle.spool.proofs.spool.bytes_are_the_lists.Goals as goal

pub returns : goal.returns
returns c = exact-layout
