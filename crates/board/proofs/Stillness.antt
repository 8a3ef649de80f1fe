-- What the deadlines tell of the ticks ahead.
use Rattle.std.proofs.Common.{◌≡◌, ℕ, ◌+◌, ◌-◌, ◌<◌, ◌≤◌, Bool, true, false, cond, leb, List, [], ◌∷◌, length, get_or, Some, None, Option, refl, sym, ap, ◌∙◌, subst, inl, inr, le-leb, arith}
use Rattle.std.proofs.lemmas.Bool.{cases_Bool, cases_eq, lt-leb}
use Rattle.std.proofs.lemmas.Bool.Decides.{nat_tests}
use Rattle.agenda.specs.Waiting.{first_of}
use Rattle.agenda.proofs.Leading.{FirstLeads, NonePrecedes}
use Rattle.rules.specs.Ascending.{insert}
use Rattle.rules.specs.Device.{horizon}
use Rattle.rules.specs.Board.{Fitting}
use Rattle.rules.specs.TickLaws.{ticks_add}
use Rattle.slots.specs.Slots.{States, slot_number, levels_of, ticked, Still, AllStill, Foretold}
use Rattle.slots.specs.declared.fitted.Slot.{Slot}
use Rattle.agenda.proofs.Bag.{length_insert}
use Rattle.board.specs.Deadlines.{comes_before, first_tick, NoneBefore, at_tick, with_announced, Watched}
use Rattle.board.specs.declared.board.deadlines.Deadline.{Deadline}

-- Four levels that are the same one by one are the same.
pub all_still : {S0 S1 S2 S3 : Type 0} (f : Fitting S0 S1 S2 S3) (s t : States S0 S1 S2 S3)
    → ((n : ℕ) → n < 4 → get_or (levels_of f s) n false ≡ get_or (levels_of f t) n false) → levels_of f s ≡ levels_of f t
all_still f s t each =
    λ i. each 0 (omega arith) i ∷ each 1 (omega arith) i ∷ each 2 (omega arith) i ∷ each 3 (omega arith) i ∷ []

-- What lies before a tick, of one more deadline and of the others.
none_of_insert : (n t : ℕ) (d : Deadline) (ds : List Deadline) → NoneBefore n t (insert comes_before d ds) → NoneBefore n t (d ∷ ds)
unfolding insert
none_of_insert n t d [] none = none
none_of_insert n t d (x ∷ ds) none = elim (cases_Bool (comes_before x d)) [
  | inl p ↦
      let split : NoneBefore n t (x ∷ insert comes_before d ds) = rw p at none in
      let rest = none_of_insert n t d ds split.1 in
      (rest.0, (split.0, rest.1))
  | inr p ↦ rw p at none
]

none_of_announced : (n t now : ℕ) (slot : Slot) (announced : Option ℕ) (ds : List Deadline) → NoneBefore n t (with_announced now slot announced ds) → NoneBefore n t ds
none_of_announced n t now slot None ds none = none
none_of_announced n t now slot (Some k) ds none = (none_of_insert n t (at_tick (now + k) slot) ds none).1

-- No deadline lies before the first one.
none_precedes : (t : ℕ) (d : Deadline) (ds : List Deadline) → NonePrecedes comes_before d ds → t ≤ d.tick → (n : ℕ) → NoneBefore n t ds
none_precedes t d [] none early n = tt
none_precedes t d (x ∷ ds) none early n = ((λ _. tick_order x d t none.0 early), none_precedes t d ds none.1 early n)
  where
    tick_order : (x d : Deadline) (t : ℕ) → comes_before x d ≡ false → t ≤ d.tick → t ≤ x.tick
    tick_order x d t later early = grind (arith, nat_tests)

pub none_before_first : (t : ℕ) (ds : List Deadline) (d : Deadline) → FirstLeads comes_before ds → Some d ≡ first_of ds → t ≤ d.tick → (n : ℕ) → NoneBefore n t ds
none_before_first t [] d leads is early n = tt
none_before_first t (x ∷ ds) d leads is early n = let same : d ≡ x = cc in let at : t ≤ x.tick = subst (λ y. t ≤ y.tick) same early in ((λ _. at), none_precedes t x ds leads at n)

-- The first is not before what none is before.
pub first_after : (t known : ℕ) (ds : List Deadline) → t ≤ known → ((n : ℕ) → NoneBefore n t ds) → t ≤ first_tick known ds
first_after t known [] within none = within
first_after t known (d ∷ ds) within none = let at : t ≤ d.tick = (none (slot_number d.slot)).0 refl in omega arith

-- How many deadlines have come.
abbrev pub come : ℕ → List Deadline → ℕ
come now [] = 0
come now (d ∷ ds) = cond (leb d.tick now) 1 0 + come now ds

come_insert : (now : ℕ) (d : Deadline) (ds : List Deadline) → come now (insert comes_before d ds) ≡ come now (d ∷ ds)
unfolding insert
come_insert now d [] = refl
come_insert now d (x ∷ ds) = either (insert comes_before d ds) (come_insert now d ds) (comes_before x d)
  where
    either : (rest : List Deadline) → come now rest ≡ come now (d ∷ ds) → (b : Bool) → come now (cond b (x ∷ rest) (d ∷ x ∷ ds)) ≡ come now (d ∷ x ∷ ds)
    either rest more true = omega (arith, more)
    either rest more false = refl

module _ {S0 S1 S2 S3 : Type 0} (f : Fitting S0 S1 S2 S3) where
  -- A slot that has announced has no deadline that has come.
  come_announced : (now n : ℕ) (slot : Slot) (announced : Option ℕ) (ds : List Deadline) (s : States S0 S1 S2 S3) → Foretold f n announced s
      → come now (with_announced now slot announced ds) ≡ come now ds
  come_announced now n slot None ds s told = refl
  come_announced now n slot (Some k) ds s told =
      let ahead : leb (now + k) now ≡ false = lt-leb (now + k) now (omega (arith, told.0)) in
      let none : ◌≡◌ {A = ℕ} (cond (leb (now + k) now) 1 0) 0 = rw ahead in
      omega (arith, none, come_insert now (at_tick (now + k) slot) ds)

  pub renewed_fewer : (now : ℕ) (d : Deadline) (announced : Option ℕ) (old ds new : List Deadline) (s : States S0 S1 S2 S3) → d.tick ≤ now → Foretold f (slot_number d.slot) announced s
      → old ≡ d ∷ ds → new ≡ with_announced now d.slot announced ds → come now new < come now old
  renewed_fewer now d announced old ds new s due told was is =
      let one : ◌≡◌ {A = ℕ} (cond (leb d.tick now) 1 0) 1 = rw (le-leb d.tick now due) in
      omega (arith, one, ap (come now) was, ap (come now) is, come_announced now (slot_number d.slot) d.slot announced ds s told)

  still_less : (n k m : ℕ) (s : States S0 S1 S2 S3) → k ≤ m → Still f n m s → Still f n k s
  still_less n k m s fewer still = λ j early. still j (omega arith)

  -- The slot that has announced is watched, and the others are as before.
  announced_watched : (now ahead : ℕ) (slot : Slot) (announced : Option ℕ) (ds : List Deadline) (s : States S0 S1 S2 S3) → ahead ≤ horizon + 1 → Foretold f (slot_number slot) announced s
      → Watched f (slot_number slot) ahead now (with_announced now slot announced ds) s
  announced_watched now ahead slot None ds s near told = λ k within none. still_less (slot_number slot) k (horizon + 1) s (omega arith) told
  announced_watched now ahead slot (Some a) ds s near told = λ k within none.
      let before : now + k ≤ now + a = (none_of_insert (slot_number slot) (now + k) (at_tick (now + a) slot) ds none).0 refl in
      still_less (slot_number slot) k a s (omega arith) told.2

  -- An announcement of another slot changes nothing for slot n.
  pub other_watched : (n ahead now : ℕ) (slot : Slot) (announced : Option ℕ) (ds : List Deadline) (s : States S0 S1 S2 S3) → Watched f n ahead now ds s → Watched f n ahead now (with_announced now slot announced ds) s
  other_watched n ahead now slot announced ds s watched = λ k within none. watched k within (none_of_announced n (now + k) now slot announced ds none)

  pub renewed_watched : (n ahead now : ℕ) (d : Deadline) (announced : Option ℕ) (old ds new : List Deadline) (s : States S0 S1 S2 S3) → ahead ≤ horizon + 1 → Foretold f (slot_number d.slot) announced s
      → old ≡ d ∷ ds → new ≡ with_announced now d.slot announced ds → Watched f n ahead now old s → Watched f n ahead now new s
  renewed_watched n ahead now d announced old ds new s near told was is watched = subst (λ l. Watched f n ahead now l s) (sym is) (elim (cases_eq n (slot_number d.slot)) [
    | inl same ↦ subst (λ m. Watched f m ahead now (with_announced now d.slot announced ds) s) (sym same) (announced_watched now ahead d.slot announced ds s near told)
    | inr other ↦ other_watched n ahead now d.slot announced ds s (λ k within none. watched k within (subst (NoneBefore n (now + k)) (sym was) ((λ same. absurd (other (sym same))), none)))
  ])

  -- Of the first slots that are watched there is one more, when the next one has announced.
  pub next_watched : (i n ahead now : ℕ) (slot : Slot) (announced : Option ℕ) (old new : List Deadline) (s : States S0 S1 S2 S3) → slot_number slot ≡ i → n < i + 1 → ahead ≤ horizon + 1 → Foretold f (slot_number slot) announced s
      → new ≡ with_announced now slot announced old → (n < i → Watched f n ahead now old s) → Watched f n ahead now new s
  next_watched i n ahead now slot announced old new s is few near told grown watched = subst (λ l. Watched f n ahead now l s) (sym grown) (elim (cases_eq n (slot_number slot)) [
    | inl same ↦ subst (λ m. Watched f m ahead now (with_announced now slot announced old) s) (sym same) (announced_watched now ahead slot announced old s near told)
    | inr other ↦ other_watched n ahead now slot announced old s (watched (before_it n i (slot_number slot) is few other))
  ])
    where
      before_it : (n i j : ℕ) → j ≡ i → n < i + 1 → (n ≡ j → ⊥) → n < i
      before_it n i j is few other = elim (cases_eq n i) [
        | inl same ↦ absurd (other (same ∙ sym is))
        | inr differ ↦ omega arith
      ]

  -- An announcement takes one node at most.
  pub few_announced : (now : ℕ) (slot : Slot) (announced : Option ℕ) (ds new : List Deadline) → new ≡ with_announced now slot announced ds → length new ≤ length ds + 1
  few_announced now slot None ds new is = omega (arith, ap length is)
  few_announced now slot (Some k) ds new is = omega (arith, ap length is, length_insert comes_before (at_tick (now + k) slot) ds)

  ticked_add : (k j : ℕ) (s : States S0 S1 S2 S3) → ticked f (k + j) s ≡ ticked f j (ticked f k s)
  ticked_add k j s = λ i. record {
    slot_0 = ticks_add f.kind_0 k j s.slot_0 i;
    slot_1 = ticks_add f.kind_1 k j s.slot_1 i;
    slot_2 = ticks_add f.kind_2 k j s.slot_2 i;
    slot_3 = ticks_add f.kind_3 k j s.slot_3 i;
  }

  still_later : (n k m : ℕ) (s : States S0 S1 S2 S3) → Still f n (k + m) s → Still f n m (ticked f k s)
  still_later n k m s still = λ j early.
      sym (ap (λ t. get_or (levels_of f t) n false) (ticked_add k j s)) ∙ still (k + j) (omega arith) ∙ sym (still k (omega arith))

  -- Slots that were only ticked are watched as before, if there are ticks left.
  pub later_watched : (n k ahead now : ℕ) (ds : List Deadline) (s t : States S0 S1 S2 S3) → k ≤ ahead → (k < ahead → t ≡ ticked f k s)
      → Watched f n ahead now ds s → Watched f n (ahead - k) (now + k) ds t
  later_watched n k ahead now ds s t within moved watched = λ m less none j early.
      let from : t ≡ ticked f k s = moved (omega arith) in
      let free : NoneBefore n (now + (k + m)) ds = subst (λ x. NoneBefore n x ds) (omega arith) none in
      let still : Still f n m t = subst (Still f n m) (sym from) (still_later n k m s (watched (k + m) (omega arith) free)) in
      still j early

  -- Where every slot is watched, no level changes before a tick that no deadline comes before.
  pub still_before : (ahead now first : ℕ) (ds : List Deadline) (s : States S0 S1 S2 S3) → now < first → first ≤ now + ahead
      → ((n : ℕ) → n < 4 → Watched f n ahead now ds s) → ((n : ℕ) → NoneBefore n first ds) → AllStill f (first - now) s
  still_before ahead now first ds s soon within watched none = λ j early.
      all_still f (ticked f j s) s (λ n few. watched n few (first - now) (omega arith) (subst (λ t. NoneBefore n t ds) (omega arith) (none n)) j early)

  -- Levels that do not change before a tick do not change on what is left of the way to it.
  pub still_on : (k now first : ℕ) (s : States S0 S1 S2 S3) → AllStill f (first - now) s → AllStill f (first - (now + k)) (ticked f k s)
  still_on k now first s still = λ j early. sym (ap (levels_of f) (ticked_add k j s)) ∙ still (k + j) (omega arith) ∙ sym (still k (omega arith))
