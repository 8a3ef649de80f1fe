use Rattle.std.proofs.Common.{◌≡◌, ◌+◌, suc, false, not, take, get_or, sym, refl, ap, ap₂, ◌∙◌, add-one, arith}
use Rattle.std.proofs.lemmas.List.{take_all}
use Rattle.std.specs.Bool.{beq}
use Rattle.rules.specs.I8259.{bit}
use Rattle.rules.specs.Board.{edges_between, lines}
use Rattle.board.specs.Wiring.{with_line}
use Rattle.board.proofs.Wiring.{word, word_wired, word_next, edges_next, one_at_most}
use Rattle.board.proofs.board.handing.gather.Goals as goal

pub loop-slot-init : goal.loop-slot-init
unfolding edges_between
loop-slot-init c = record { on_lines = refl; counted = refl; few = omega arith }

pub overflow_add-edges : goal.overflow_add-edges
overflow_add-edges c =
    let i = c.loop-slot.slot in
    let one = one_at_most (not (beq (get_or c.args.handed.now i false) (get_or c.args.levels.now i false))) in
    omega (arith, c.loop-slot.invariant.few, one, c.from-edges.ensures, c.loop-slot-test.true)

pub loop-slot-preserved : goal.loop-slot-preserved
loop-slot-preserved c =
    let i = c.loop-slot.slot in
    let handed = c.args.handed.now in
    let levels = c.args.levels.now in
    let known = c.loop-slot.invariant in
    let one = one_at_most (not (beq (get_or handed i false) (get_or levels i false))) in
    let next : i + 1 ≡ suc i = add-one i in
    record {
      on_lines =
          c.with_line-lines.ensures ∙ ap (λ found. with_line found (get_or lines i 0) (get_or levels i false)) known.on_lines
          ∙ word_next levels c.told-levels i c.loop-slot-test.true;
      counted =
          ap₂ (λ m n. m + n) known.counted c.from-edges.ensures
          ∙ edges_next i handed levels (omega (arith, c.told-handed, c.loop-slot-test.true)) (omega (arith, c.told-levels, c.loop-slot-test.true))
          ∙ ap (λ n. edges_between (take n handed) (take n levels)) (sym next);
      few = omega (arith, known.few, one, c.from-edges.ensures);
    }

pub returns-clause-lines : goal.returns-clause-lines
returns-clause-lines c = λ l h.
    let levels = c.args.levels.now in
    let all : c.loop-slot.slot ≡ 4 = omega arith in
    ap (λ n. bit n l) (c.loop-slot.invariant.on_lines ∙ ap word (take_all c.loop-slot.slot levels (omega (arith, c.told-levels))))
    ∙ word_wired levels c.told-levels l h

pub returns-clause-edges : goal.returns-clause-edges
returns-clause-edges c =
    let handed = c.args.handed.now in
    let levels = c.args.levels.now in
    let all : c.loop-slot.slot ≡ 4 = omega arith in
    c.loop-slot.invariant.counted
    ∙ ap₂ edges_between (take_all c.loop-slot.slot handed (omega (arith, c.told-handed))) (take_all c.loop-slot.slot levels (omega (arith, c.told-levels)))

pub returns-clause-few : goal.returns-clause-few
returns-clause-few c = omega (arith, c.loop-slot.invariant.few)
