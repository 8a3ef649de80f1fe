use Rattle.std.proofs.Common.{length}
use Rattle.agenda.proofs.Sifts.{Rising}
use Rattle.agenda.proofs.heap.raise.Given as goal

abbrev pub invariant-loop-at : goal.invariant-loop-at
invariant-loop-at g l = Rising g.E.Entry.before l.rising (length l.initial.nodes) l.initial.nodes l.nodes l.at

abbrev pub decreases-loop-at : goal.decreases-loop-at
decreases-loop-at g l = l.at
