-- The deadlines of the slots: in which order they come, and what they tell of the ticks ahead.
use Rattle.std.specs.Prelude.{◌≡◌, ℕ, ◌+◌, ◌≤◌, min, Bool, true, false, ◌&&◌, ◌||◌, List, [], ◌∷◌, Some, None, Option, ◌==◌, nat_lt}
use Rattle.std.proofs.Common.{rules}
use Rattle.agenda.specs.Order.{IsStrictTotalOrder}
use Rattle.rules.specs.Ascending.{insert}
use Rattle.rules.specs.Board.{Fitting}
use Rattle.slots.specs.Slots.{States, slot_number, Still}
use Rattle.slots.specs.declared.fitted.Slot.{Slot}
use Rattle.board.specs.declared.board.deadlines.Deadline.{Deadline}

-- By tick, then by slot.
abbrev pub comes_before : Deadline → Deadline → Bool
comes_before x y =
    nat_lt x.tick y.tick
    || (x.tick == y.tick && nat_lt (slot_number x.slot) (slot_number y.slot))

-- The order of pairs of numbers has no ties and no rounds.
pairs_transitive : (a b c i j k : ℕ) → (nat_lt a b || (a == b && nat_lt i j)) ≡ true → (nat_lt b c || (b == c && nat_lt j k)) ≡ true → (nat_lt a c || (a == c && nat_lt i k)) ≡ true
pairs_transitive = search rules

comes_transitive : (x y z : Deadline) → comes_before x y ≡ true → comes_before y z ≡ true → comes_before x z ≡ true
comes_transitive x y z = pairs_transitive x.tick y.tick z.tick (slot_number x.slot) (slot_number y.slot) (slot_number z.slot)

comes_irreflexive : (x : Deadline) → comes_before x x ≡ false
comes_irreflexive = search rules

comes_total : (x y : Deadline) → comes_before x y ≡ false → comes_before y x ≡ false → x ≡ y
comes_total = search rules

pub in_order : IsStrictTotalOrder comes_before
in_order = record { irreflexive = comes_irreflexive; transitive = comes_transitive; total = comes_total }

-- No deadline of slot n lies before tick t.
abbrev pub NoneBefore : ℕ → ℕ → List Deadline → Type 0
NoneBefore n t [] = Unit {0}
NoneBefore n t (d ∷ ds) = (slot_number d.slot ≡ n → t ≤ d.tick) × NoneBefore n t ds

-- Taking the first deadline, if it has come: otherwise none is left that has.
abbrev pub TakesDue : ℕ → Option Deadline → List Deadline → List Deadline → Type 0
TakesDue now None old new = (new ≡ old) × ((n : ℕ) → NoneBefore n (now + 1) new)
TakesDue now (Some d) old new = (d.tick ≤ now) × (old ≡ d ∷ new)

-- The tick of the first deadline, at most `known`.
abbrev pub first_tick : ℕ → List Deadline → ℕ
first_tick known [] = known
first_tick known (d ∷ ds) = min known d.tick

abbrev pub at_tick : ℕ → Slot → Deadline
at_tick tick slot = record { tick = tick; slot = slot }

-- The deadlines with that of a slot which has announced for how many ticks its level stays.
abbrev pub with_announced : ℕ → Slot → Option ℕ → List Deadline → List Deadline
with_announced now slot None ds = ds
with_announced now slot (Some k) ds = insert comes_before (at_tick (now + k) slot) ds

-- Slot n shows its present level on the ticks before its first deadline, of those up to `ahead` ticks ahead.
abbrev pub Watched : {S0 S1 S2 S3 : Type 0} → Fitting S0 S1 S2 S3 → ℕ → ℕ → ℕ → List Deadline → States S0 S1 S2 S3 → Type 0
Watched f n ahead now ds s = (k : ℕ) → k ≤ ahead → NoneBefore n (now + k) ds → Still f n k s
