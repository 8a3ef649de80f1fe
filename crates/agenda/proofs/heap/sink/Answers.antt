use Rattle.std.proofs.Common.{length, arith}
use Rattle.agenda.proofs.Sifts.{sink_begins, sink_steps}
use Rattle.agenda.proofs.heap.sink.Goals as goal

pub loop-at-init : goal.loop-at-init
loop-at-init g c = sink_begins g.met.E.Entry.order c.args.sinking (length c.args.nodes.now) c.args.nodes.now c.requires.some (omega arith) c.requires.heap

pub loop-at-preserved : goal.loop-at-preserved
loop-at-preserved g c =
    let l = c.loop-at in
    let child = c.earliest_child-child in
    let below = c.index-nodes-child in
    sink_steps g.met.E.Entry.order c.args.sinking (length c.args.nodes.now) c.args.nodes.now l.nodes l.at child.result below.result l.auto.nodes child.ensures.child.0 child.ensures.child.1 child.ensures.child.2 child.ensures.earliest below.is c.if-not-precedes.ensures l.invariant
