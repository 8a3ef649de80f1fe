use Rattle.std.proofs.Common.{ℕ, ◌-◌, ◌<◌, ◌≤◌}
use Rattle.agenda.specs.Waiting.{waiting}
use Rattle.board_laws.specs.Jump.{Idle}
use Rattle.board.specs.Deadlines.{comes_before, Watched}
use Rattle.board.specs.Steps.{Progress, ticking}
use Rattle.board.specs.View.{view}
use Rattle.board.proofs.board.Board.run_stretch.Given as goal

abbrev pub invariant-loop-deadlines : goal.invariant-loop-deadlines
invariant-loop-deadlines g l =
    let s = g.F.Slots.states in
    let f = g.F.Slots.fitting in
    let left = l.end - l.self.time in
    record {
      passed : Progress s f (ticking f l.ticks) (ticking f left) (l.ticks - left) l.edges l.initial.self l.self;
      begun : l.initial.self.time ≤ l.self.time;
      more : l.self.time < l.end;
      idle : Idle f (left - 1) (view s l.self);
      watched : (n : ℕ) → n < 4 → Watched f n (l.known - l.self.time) l.self.time (waiting comes_before l.deadlines.agenda) (s l.self.ports.slots);
    }

abbrev pub decreases-loop-deadlines : goal.decreases-loop-deadlines
decreases-loop-deadlines g l = l.end - l.self.time
