-- Where the right child is there, whether it comes first is a number, 0 or 1.
use Rattle.std.proofs.Common.{◌≡◌, ◌∙◌, ◌+◌, ◌*◌, sym, arith}
use Rattle.std.proofs.lemmas.Bool.Decides.{nat_tests}
use Rattle.agenda.proofs.Sifts.{first_of_two, left_alone}
use Rattle.agenda.proofs.heap.earliest_child.Goals as goal
use Rattle.agenda.proofs.heap.earliest_child.Goals.{then-right-nodes, else-right-nodes}

-- src/heap.rt:52:1
pub returns-clause-earliest : goal.returns-clause-earliest
returns-clause-earliest g c = elim c.if-right-nodes.branch [
  | then-right-nodes w ↦ λ k a b f.
      let precedes = sym w.precedes-right_first.ensures ∙ sym w.right_first-is in
      rw c.from.ensures (first_of_two g.met.E.Entry.order c.args.nodes.now c.args.at k _ _ _ w.if-right-nodes.true w.index-nodes-right.is w.index-nodes-left.is precedes a b)
  | else-right-nodes w ↦ λ k a b f.
      let alone = w.if-right-nodes.false in
      let is = w.right_first-is in
      let counts = c.from.ensures in
      let left : c.args.at * 2 + 1 + c.from.result ≡ c.args.at * 2 + 1 = grind (arith, nat_tests) in
      rw left (left_alone g.met.E.Entry.order c.args.nodes.now c.args.at k (omega arith) a b f)
]
