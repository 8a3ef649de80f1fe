use Rattle.std.proofs.Common.{arith}
use Rattle.board.proofs.Called.{few_pending}
use Rattle.board.proofs.board.Board.arrive.Goals as goal

pub overflow_add-result : goal.overflow_add-result
overflow_add-result g c = omega (arith, c.jump-edges.ensures.jumps.few, c.carry_out.ensures.few, few_pending g.F.Slots.states c.args.self.now)
