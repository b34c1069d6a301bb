use Rattle.protocol.proofs.Plays.{determined}
use Rattle.protocol.proofs.laws.outcomes_are_determined.Goals as goal

pub returns : goal.returns
returns c = determined
