use Rattle.std.proofs.Common.{◌+◌, ◌≤◌, arith}
use Rattle.agenda.specs.Waiting.{waiting}
use Rattle.board.specs.Deadlines.{comes_before}
use Rattle.board.proofs.Stillness.{first_after}
use Rattle.board.proofs.board.deadlines.Deadlines.next.Goals as goal

pub returns-clause-ahead : goal.returns-clause-ahead
returns-clause-ahead g c =
    let within : c.args.now + 1 ≤ c.args.known = omega arith in
    let after = first_after (c.args.now + 1) c.args.known (waiting comes_before c.renew.new.self.agenda) within c.renew.ensures.ahead in
    omega (arith, after, c.first_tick.ensures.nearest)
