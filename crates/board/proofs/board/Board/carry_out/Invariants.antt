use Rattle.std.proofs.Common.{length}
use Rattle.board.specs.Steps.{Progress, due}
use Rattle.board.specs.View.{view}
use Rattle.board.proofs.board.Board.carry_out.Given as goal

abbrev pub invariant-loop-more : goal.invariant-loop-more
invariant-loop-more g l = Progress g.F.Slots.states g.F.Slots.fitting (due g.F.Slots.fitting) (due g.F.Slots.fitting) 0 l.edges l.initial.self l.self

abbrev pub decreases-loop-more : goal.decreases-loop-more
decreases-loop-more g l = length (view g.F.Slots.states l.self).pending
