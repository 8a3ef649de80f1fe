use Rattle.std.proofs.Common.{◌≡◌, min, ◌∷◌, length, refl, sym, ap, ◌∙◌, ap₂, arith, rules, tests, add-zero}
use Rattle.agenda.specs.Waiting.{waiting}
use Rattle.board_laws.specs.Jump.{carry_none, counted}
use Rattle.rules.specs.Board.{precedes, after_write_at, hand, levels, edges_between, with_pending}
use Rattle.agenda.specs.Nodes.{usable}
use Rattle.board.specs.Placing.{placed}
use Rattle.board.specs.View.{view}
use Rattle.board.proofs.Called.{kept_same, with_bag}
use Rattle.board.proofs.Carrying.{first_due, first_due-found, none_due, due_first, taken_first, carried_one, placed-hand}
use Rattle.board.proofs.board.Board.carry_next.Goals as goal

pub returns-in_err-write : goal.returns-in_err-write
returns-in_err-write g c =
    let f = g.F.Slots.fitting in
    let s = g.F.Slots.states in
    let board = c.args.self.now in
    let b = view s board in
    let found : c.filter.result ≡ first_due b.time b.pending = first_due-found b.time b.pending c.first.result c.filter.result c.first.ensures c.filter.ensures (λ w t k. search (rules, tests)) in
    let none = none_due b.time b.pending (sym found ∙ c.in_err-write.was) in
    rw c.from_residual.ensures (
      refl,
      record {
        same = λ e. carry_none f b.pending b e none ∙ ap (counted f b) (sym (add-zero e));
        few = omega arith;
        nodes = kept_same _ _ refl;
      },
    )

pub returns : goal.returns
returns g c =
    let f = g.F.Slots.fitting in
    let w = c.in_ok-write.write in
    let old = c.args.self.now.queue in
    let new = c.take.new.self in
    let b = view g.F.Slots.states c.args.self.now in
    let found : c.filter.result ≡ first_due b.time b.pending = first_due-found b.time b.pending c.first.result c.filter.result c.first.ensures c.filter.ensures (λ w t k. search (rules, tests)) in
    let first = due_first b.time w b.pending (sym found ∙ c.in_ok-write.was) in
    let ws = waiting precedes new in
    let bag : b.pending ≡ w ∷ ws = taken_first w b.pending ws c.take.result _ first.0 c.take.ensures.taken in
    let nodes = usable new.nodes.now in
    let written : placed g.F.Slots.states c.write.new.self b.time ws nodes ≡ after_write_at f (Rattle.rules.specs.Board.target f w.port) w.byte (with_pending ws b) =
    c.write.ensures.ports b.time nodes ws
    ∙ ap₂ (λ t n. after_write_at f t w.byte (with_bag b ws n)) c.target-target.ensures (ap (min 4096) c.take.ensures.kept.number) in
    let handed = c.hand_over.ensures in
    let shorter : length b.pending ≡ length (w ∷ ws) = ap length bag in (
      record {
        same =
            carried_one f b (placed g.F.Slots.states c.hand_over.new.self b.time ws nodes) w ws c.hand_over.result bag first.1
            (placed-hand g.F.Slots.states f c.write.new.self c.hand_over.new.self b.time nodes ws handed.slots handed.handed_over handed.pair ∙ ap (hand f) written)
            (handed.edges ∙ ap (λ x. edges_between x.handed (levels f x)) written);
        few = omega (arith, handed.few, shorter);
        nodes = c.take.ensures.kept;
      },
      omega (arith, shorter),
    )
