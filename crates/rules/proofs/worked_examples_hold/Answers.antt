use Rattle.rules.proofs.Examples.{worked_examples}
use Rattle.rules.proofs.worked_examples_hold.Goals as goal

pub returns : goal.returns
returns g c = worked_examples _
