use Rattle.std.proofs.Common.{◌≡◌, ℕ, ◌+◌, ◌<◌, ◌≤◌, length}
use Rattle.agenda.specs.Waiting.{waiting}
use Rattle.rules.specs.Device.{horizon}
use Rattle.board.specs.Deadlines.{comes_before, Watched}
use Rattle.board.proofs.board.deadlines.Deadlines.new.Given as goal

abbrev pub invariant-loop-slot : goal.invariant-loop-slot
invariant-loop-slot g l =
    record {
      four : length l.deadlines.agenda.nodes.now ≡ 4;
      few : length (waiting comes_before l.deadlines.agenda) ≤ l.slot-index;
      watched : (n ahead : ℕ) → n < l.slot-index → ahead ≤ horizon + 1 → Watched g.F.Slots.fitting n ahead l.now (waiting comes_before l.deadlines.agenda) (g.F.Slots.states l.slots);
    }
