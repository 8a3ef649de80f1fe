use Rattle.std.proofs.Common.{◌-◌, ◌≤◌}
use Rattle.board.specs.Steps.{Progress, ticking}
use Rattle.board.proofs.board.Board.run.Given as goal

abbrev pub invariant-loop-left : goal.invariant-loop-left
invariant-loop-left g l =
    record {
      passed : Progress g.F.Slots.states g.F.Slots.fitting (ticking g.F.Slots.fitting l.ticks) (ticking g.F.Slots.fitting l.left) (l.ticks - l.left) l.edges l.initial.self l.self;
      fewer : l.left ≤ l.ticks;
    }

abbrev pub decreases-loop-left : goal.decreases-loop-left
decreases-loop-left g l = l.left
