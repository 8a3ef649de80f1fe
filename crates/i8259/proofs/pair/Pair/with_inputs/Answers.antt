use Rattle.std.proofs.Common.{rules}
use Rattle.i8259.proofs.Standing.{lines_stand}
use Rattle.i8259.proofs.pair.Pair.with_inputs.Goals as goal

pub returns : goal.returns
returns c = lines_stand c.args.lines c.with_inputs.result c.with_inputs-2.result (search rules) (search rules) (search rules)
