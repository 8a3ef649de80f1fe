use Rattle.std.proofs.Common.{◌≡◌, ℕ, ◌+◌, ◌-◌, ◌<◌, ◌≤◌, sym, ap, subst, refl, rules, arith}
use Rattle.agenda.specs.Waiting.{waiting}
use Rattle.rules.specs.Board.{Board, hand}
use Rattle.board_laws.specs.Jump.{NoneDue, later}
use Rattle.rules.specs.Device.{horizon}
use Rattle.slots.specs.Slots.{States}
use Rattle.board.specs.Deadlines.{comes_before, Watched}
use Rattle.board.specs.View.{view}
use Rattle.board.specs.Steps.{Progress, Arrives, arriving, due, ticking}
use Rattle.board.proofs.Called.{few_pending}
use Rattle.board.proofs.Progressing.{progress_both, jumped, jump_arrives, handed_alone, settled, ran_out}
use Rattle.board.proofs.Stillness.{later_watched, still_before}
use Rattle.board.proofs.board.Board.run_stretch.Goals as goal

pub returns-then-end-self : goal.returns-then-end-self
returns-then-end-self g c =
    let s = g.F.Slots.states in
    let f = g.F.Slots.fitting in
    let board = c.args.self.now in
    let n = c.args.ticks in
    ran_out s f n (n - n) 1 c.arrive.result board c.arrive.new.self (omega arith) c.requires.some
    (jumped s f n n board c.arrive.new.self c.arrive.result c.requires.some (omega arith) (settled board) (λ j soon. board.quiet j (omega (arith, c.requires.some))) c.requires.idle c.arrive.ensures)

pub loop-deadlines-init : goal.loop-deadlines-init
loop-deadlines-init g c =
    let board = c.args.self.now in
    let all : board.time + c.args.ticks - board.time ≡ c.args.ticks = omega arith in
    record {
      passed = rw all (search rules);
      begun = omega arith;
      more = omega (arith, c.requires.some);
      idle = rw all c.requires.idle;
      watched = λ n few. c.deadlines-deadlines.ensures n _ few (omega arith);
    }

pub next-change-requires-clause-time : goal.next-change-requires-clause-time
next-change-requires-clause-time g c = omega (arith, c.loop-deadlines.invariant.more, c.requires.time)

pub next-change-requires-clause-some : goal.next-change-requires-clause-some
next-change-requires-clause-some g c = omega (arith, c.loop-deadlines.invariant.more, c.requires.near)

pub invariant_of-self : goal.invariant_of-self
invariant_of-self g c =
    let s = g.F.Slots.states in
    let f = g.F.Slots.fitting in
    let before = c.loop-deadlines.self in
    let known = c.loop-deadlines.invariant in
    let ahead = c.args.self.now.time + horizon + 1 - before.time in
    let found = c.next-change.ensures in
    record {
      handed_over = before.handed_over;
      driven = before.driven;
      quiet = still_before f ahead before.time c.next-change.result (waiting comes_before c.next-change.new.self.agenda) (s before.ports.slots) found.ahead (omega (arith, found.most))
          (λ n few. found.watched n ahead (omega (arith, known.begun)) (known.watched n few)) found.none;
    }

pub overflow_sub-end : goal.overflow_sub-end
overflow_sub-end g c = omega (arith, c.loop-deadlines.invariant.more)

pub arrive-requires-then-end-change-clause-near : goal.arrive-requires-then-end-change-clause-near
arrive-requires-then-end-change-clause-near g c = omega (arith, c.loop-deadlines.invariant.begun, c.requires.near)

pub arrive-requires-then-end-change-clause-time : goal.arrive-requires-then-end-change-clause-time
arrive-requires-then-end-change-clause-time g c = omega (arith, c.loop-deadlines.invariant.more, c.requires.time)

pub overflow_add-result : goal.overflow_add-result
overflow_add-result g c = omega (arith, c.loop-deadlines.invariant.passed.few, c.arrive-then-end-change.ensures.few, few_pending g.F.Slots.states c.args.self.now)

pub jump-edges-requires-clause-near : goal.jump-edges-requires-clause-near
jump-edges-requires-clause-near g c = omega (arith, c.loop-deadlines.invariant.begun, c.requires.near)

pub overflow_add-edges : goal.overflow_add-edges
overflow_add-edges g c = omega (arith, c.loop-deadlines.invariant.passed.few, c.jump-edges.ensures.jumps.few, few_pending g.F.Slots.states c.args.self.now)

pub loop-deadlines-smaller : goal.loop-deadlines-smaller
loop-deadlines-smaller g c = omega (arith, c.jump-edges.ensures.time, c.next-change.ensures.ahead)

pub returns-then-end-change : goal.returns-then-end-change
returns-then-end-change g c =
    let s = g.F.Slots.states in
    let f = g.F.Slots.fitting in
    let start = c.args.self.now in
    let before = c.loop-deadlines.self in
    let after = c.arrive-then-end-change.new.self in
    let edges = c.arrive-then-end-change.result in
    let known = c.loop-deadlines.invariant in
    let found = c.next-change.ensures in
    let left = start.time + c.args.ticks - before.time in
    let ahead = start.time + horizon + 1 - before.time in
    let still = still_before f ahead before.time c.next-change.result (waiting comes_before c.next-change.new.self.agenda) (s before.ports.slots) found.ahead (omega (arith, found.most))
    (λ n few. found.watched n ahead (omega (arith, known.begun)) (known.watched n few)) found.none in
    let arrived : Arrives s f left edges before after = record { same = c.arrive-then-end-change.ensures.same; few = c.arrive-then-end-change.ensures.few; nodes = c.arrive-then-end-change.ensures.nodes } in
    let some : 1 ≤ left = omega (arith, known.more) in
    let last : Progress s f (ticking f left) (ticking f (left - left)) 1 edges before after =
    jumped s f left left before after edges some (omega arith) (settled before) (λ j soon. still j (omega (arith, some))) known.idle arrived in
    ran_out s f c.args.ticks (left - left) (c.args.ticks - left + 1) (c.loop-deadlines.edges + edges) start after (omega arith) (omega (arith, known.begun, some))
    (progress_both s f (c.args.ticks - left) 1 c.loop-deadlines.edges edges start before after _ _ known.passed last (omega arith) refl)

-- The slots of a board.
abbrev slots_of : {A B C D : Type 0} → Board A B C D → States A B C D
slots_of b = record { slot_0 = b.slot_0; slot_1 = b.slot_1; slot_2 = b.slot_2; slot_3 = b.slot_3 }

pub loop-deadlines-preserved : goal.loop-deadlines-preserved
loop-deadlines-preserved g c =
    let s = g.F.Slots.states in
    let f = g.F.Slots.fitting in
    let start = c.args.self.now in
    let before = c.loop-deadlines.self in
    let after = c.jump-edges.new.self in
    let edges = c.jump-edges.result in
    let known = c.loop-deadlines.invariant in
    let found = c.next-change.ensures in
    let jump = c.jump-edges.ensures in
    let end = start.time + c.args.ticks in
    let left = end - before.time in
    let ahead = start.time + horizon + 1 - before.time in
    let k = c.next-change.result - before.time in
    let ds = waiting comes_before c.next-change.new.self.agenda in
    let now = s before.ports.slots in
    let watched : (n : ℕ) → n < 4 → Watched f n ahead before.time ds now = λ n few. found.watched n ahead (omega (arith, known.begun)) (known.watched n few) in
    let still = still_before f ahead before.time c.next-change.result ds now found.ahead (omega (arith, found.most)) watched found.none in
    let some : 1 ≤ k = omega (arith, found.ahead) in
    let less : k < left = omega (arith, found.ahead) in
    let free : NoneDue (before.time + k) (view s before).pending = known.idle k some (omega (arith, less)) in
    let jumps : Progress s f (arriving f k) (due f) 1 edges before after = record { same = jump.jumps.same; few = jump.jumps.few; nodes = jump.jumps.nodes } in
    let arrived : Arrives s f k edges before after = jump_arrives s f k before after edges free jump.time jump.queue jumps in
    let next : Progress s f (ticking f left) (ticking f (left - k)) 1 edges before after =
    jumped s f k left before after edges some (omega (arith, less)) (settled before) (λ j soon. still j (omega (arith, some))) (λ i low high. known.idle i low (omega (arith, less))) arrived in
    let alone : view s after ≡ hand f (later f k (view s before)) = handed_alone s f k before after edges free arrived in
    let rest : left - k ≡ end - after.time = omega (arith, jump.time) in
    record {
      passed = subst (λ m. Progress s f (ticking f c.args.ticks) (ticking f m) (c.args.ticks - m) (c.loop-deadlines.edges + edges) start after) rest
          (progress_both s f (c.args.ticks - left) 1 c.loop-deadlines.edges edges start before after _ _ known.passed next (omega (arith, known.begun, less)) refl);
      begun = omega (arith, known.begun, jump.time);
      more = omega (arith, less, jump.time);
      idle = λ i low high.
          let due_later = known.idle (k + i) (omega arith) (omega (arith, jump.time)) in
          let bag = ap (λ b. b.pending) (sym alone) in
          subst (NoneDue (after.time + i)) bag (subst (λ t. NoneDue t (view s before).pending) (omega (arith, jump.time)) due_later);
      watched = λ n few.
          let on = later_watched f n k ahead before.time ds now (s after.ports.slots) (omega (arith, found.most)) (λ _. ap slots_of alone) (watched n few) in
          let to_end : ahead - k ≡ start.time + horizon + 1 - (before.time + k) = omega arith in
          subst (λ t. Watched f n (start.time + horizon + 1 - t) t ds (s after.ports.slots)) (sym jump.time) (subst (λ m. Watched f n m (before.time + k) ds (s after.ports.slots)) to_end on);
    }
