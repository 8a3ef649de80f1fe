use Rattle.std.proofs.Common.{not, ◌∙◌, arith}
use Rattle.i8254_laws.specs.Mode3.{half_begins, square_turned}
use Rattle.i8254.proofs.mode_3.Square.turned.Goals as goal

pub returns : goal.returns
returns c =
    let self = c.args.self in
    let n = self.period.ticks in
    λ k announced. c.part_of_half.ensures ∙ half_begins n (not self.high) ∙ square_turned n self.left self.value self.high (omega arith) (omega arith) k announced
