use Rattle.std.proofs.Common.{arith}
use Rattle.agenda.specs.Waiting.{waiting}
use Rattle.agenda.proofs.Leading.{held_leads}
use Rattle.board.specs.Deadlines.{comes_before, in_order}
use Rattle.board.proofs.Stillness.{none_before_first}
use Rattle.board.proofs.board.deadlines.Deadlines.first_tick.Goals as goal

pub returns-in-Some-clause-none : goal.returns-in-Some-clause-none
returns-in-Some-clause-none c =
    let agenda = c.args.self.now.agenda in
    none_before_first _ (waiting comes_before agenda) c.in-Some.deadline (held_leads in_order agenda.nodes.now agenda.len) c.in-Some.ensures (omega arith)
