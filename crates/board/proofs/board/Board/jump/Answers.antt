use Rattle.std.proofs.Common.{arith}
use Rattle.board.proofs.Called.{kept_same}
use Rattle.board.proofs.Progressing.{jumped_quietly, settled}
use Rattle.board.proofs.board.Board.jump.Goals as goal

pub returns-then-self-k-clause-jumps : goal.returns-then-self-k-clause-jumps
returns-then-self-k-clause-jumps g c =
    let board = c.args.self.now in
    let moved = c.jump_quietly.ensures in
    jumped_quietly g.F.Slots.states g.F.Slots.fitting c.args.k board c.jump_quietly.new.self (settled board) (board.quiet c.args.k (omega (arith, c.if-self-k.true)))
    moved.moved (kept_same _ _ moved.queue)
