use Rattle.std.proofs.Common.{◌∙◌, sym, arith}
use Rattle.i8254_laws.specs.Mode3.{square_within, square_past}
use Rattle.i8254.proofs.mode_3.Square.after.Goals as goal

pub returns-then-left-n : goal.returns-then-left-n
returns-then-left-n c =
    let self = c.args.self in
    let begun = rw c.from-left.ensures at c.begun.ensures in
    begun ∙ sym (square_past c.args.n self.period.ticks self.left self.value self.high (omega arith) (omega arith))

pub returns : goal.returns
returns c =
    let self = c.args.self in
    rw (c.less.ensures, c.from-left.ensures) (sym (square_within c.args.n self.period.ticks self.left self.value self.high (omega arith) (omega arith)))
