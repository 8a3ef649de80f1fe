use Rattle.std.proofs.Common.{length, ◌-◌}
use Rattle.agenda.proofs.Sifts.{Sinking}
use Rattle.agenda.proofs.heap.sink.Given as goal

abbrev pub invariant-loop-at : goal.invariant-loop-at
invariant-loop-at g l = Sinking g.E.Entry.before l.sinking (length l.initial.nodes) l.initial.nodes l.nodes l.at

abbrev pub decreases-loop-at : goal.decreases-loop-at
decreases-loop-at g l = length l.initial.nodes - l.at
