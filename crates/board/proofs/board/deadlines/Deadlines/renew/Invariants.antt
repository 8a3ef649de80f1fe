use Rattle.std.proofs.Common.{ℕ, ◌+◌, ◌≤◌}
use Rattle.agenda.specs.Waiting.{waiting}
use Rattle.rules.specs.Device.{horizon}
use Rattle.board.specs.Deadlines.{comes_before, Watched}
use Rattle.board.proofs.Stillness.{come}
use Rattle.board.proofs.board.deadlines.Deadlines.renew.Given as goal

abbrev pub invariant-loop-deadline : goal.invariant-loop-deadline
invariant-loop-deadline g l =
    (n ahead : ℕ) → ahead ≤ horizon + 1
    → Watched g.F.Slots.fitting n ahead l.now (waiting comes_before l.initial.self.agenda) (g.F.Slots.states l.slots)
    → Watched g.F.Slots.fitting n ahead l.now (waiting comes_before l.self.agenda) (g.F.Slots.states l.slots)

abbrev pub decreases-loop-deadline : goal.decreases-loop-deadline
decreases-loop-deadline g l = come l.now (waiting comes_before l.self.agenda)
