use Rattle.std.proofs.Common.{length, arith}
use Rattle.agenda.proofs.Sifts.{rise_begins, rise_steps}
use Rattle.agenda.proofs.heap.raise.Goals as goal

pub loop-at-init : goal.loop-at-init
loop-at-init g c = rise_begins g.met.E.Entry.order c.args.rising (length c.args.nodes.now) c.args.nodes.now c.requires.room (omega arith) c.requires.heap

pub loop-at-preserved : goal.loop-at-preserved
loop-at-preserved g c =
    let l = c.loop-at in
    let above = c.index-nodes-parent in
    rise_steps g.met.E.Entry.order c.args.rising (length c.args.nodes.now) c.args.nodes.now l.nodes l.at _ above.result (omega arith) (omega arith) (omega arith) above.is c.if-not-precedes.ensures l.invariant
