use Rattle.std.proofs.Common.{◌≡◌, ℕ, zero, suc, ◌<◌, List, [], ◌∷◌, get_or, refl, ◌∙◌, arith}
use Rattle.agenda.specs.Waiting.{waiting}
use Rattle.slots.specs.Slots.{slot_number}
use Rattle.slots.specs.declared.fitted.Slot.{Slot}
use Rattle.slots.specs.declared.fitted.Slot.TheVariants.{Zero, One, Two, Three}
use Rattle.board.specs.Deadlines.{comes_before}
use Rattle.board.proofs.Called.{waiting_len}
use Rattle.board.proofs.Stillness.{next_watched, few_announced}
use Rattle.board.proofs.board.deadlines.Deadlines.new.Goals as goal

abbrev slots : List Slot
slots = Zero ∷ One ∷ Two ∷ Three ∷ []

-- Slots are taken in the order of their numbers.
numbered : (i : ℕ) → i < 4 → slot_number (get_or slots i Zero) ≡ i
numbered zero few = refl
numbered (suc zero) few = refl
numbered (suc (suc zero)) few = refl
numbered (suc (suc (suc zero))) few = refl
numbered (suc (suc (suc (suc i)))) few = absurd (omega arith)

pub announce-requires-clause-room : goal.announce-requires-clause-room
announce-requires-clause-room g c = omega (arith, waiting_len c.loop-slot.deadlines.agenda, c.loop-slot.invariant.few, c.loop-slot.invariant.four, c.loop-slot-test.true)

pub loop-slot-preserved : goal.loop-slot-preserved
loop-slot-preserved g c =
    let i = c.loop-slot.slot-index in
    let slot = get_or slots i Zero in
    let told = c.announce.ensures.announced in
    let old = waiting comes_before c.loop-slot.deadlines.agenda in
    let new = waiting comes_before c.announce.new.self.agenda in
    let known = c.loop-slot.invariant in
    record {
      four = c.announce.ensures.nodes ∙ known.four;
      few = omega (arith, known.few, few_announced g.F.Slots.fitting c.args.now slot told.0 old new told.2);
      watched = λ n ahead fewer near. next_watched g.F.Slots.fitting i n ahead c.args.now slot told.0 old new (g.F.Slots.states c.args.slots.now) (numbered i c.loop-slot-test.true) fewer near told.1 told.2 (λ less. known.watched n ahead less near);
    }

pub returns : goal.returns
returns g c =
    let all : c.loop-slot.slot-index ≡ 4 = omega arith in
    record { watched = λ n ahead few near. c.loop-slot.invariant.watched n ahead (omega arith) near }
