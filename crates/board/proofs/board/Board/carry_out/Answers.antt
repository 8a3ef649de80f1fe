use Rattle.std.proofs.Common.{arith}
use Rattle.board.proofs.Called.{few_pending}
use Rattle.board.proofs.board.Board.carry_out.Goals as goal

pub overflow_add-edges : goal.overflow_add-edges
overflow_add-edges g c = omega (arith, few_pending g.F.Slots.states c.args.self.now, c.in-Some.ensures.0.few)
