use Rattle.text.proofs.Single.{exact, single}
use Rattle.text.proofs.builder.read.Goals as goal

pub returns-clause-exact : goal.returns-clause-exact
returns-clause-exact c = exact c.args.text.now c.build.result c.build.ensures

pub returns-clause-single : goal.returns-clause-single
returns-clause-single c = single c.args.text.now c.build.result c.build.ensures
