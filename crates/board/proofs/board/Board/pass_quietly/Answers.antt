use Rattle.std.proofs.Common.{arith}
use Rattle.board.proofs.Progressing.{passed_quietly, settled}
use Rattle.board.proofs.board.Board.pass_quietly.Goals as goal

pub returns : goal.returns
returns g c =
    let board = c.args.self.now in
    let moved = c.jump_quietly.ensures in
    let free = c.until_write.ensures in
    passed_quietly g.F.Slots.states g.F.Slots.fitting c.args.n board c.jump_quietly.new.self (settled board)
    (λ j soon. board.quiet j (omega arith)) (λ i low high. free.idle i low (omega arith)) moved.moved moved.queue
