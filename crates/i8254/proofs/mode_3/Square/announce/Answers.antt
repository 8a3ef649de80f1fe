use Rattle.std.proofs.Common.{arith}
use Rattle.i8254_laws.specs.Mode3.{square_announces}
use Rattle.i8254.proofs.mode_3.Square.announce.Goals as goal

pub returns : goal.returns
returns c =
    let self = c.args.self in
    rw c.from.ensures (square_announces self.period.ticks self.left self.value self.high (omega arith) (omega arith))
