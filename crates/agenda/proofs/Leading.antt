-- No entry of an ascending list precedes its first.
use Rattle.std.proofs.Common.{◌≡◌, ℕ, Bool, false, List, [], ◌∷◌, inl, inr, take}
use Rattle.std.proofs.lemmas.Bool.{cases_Bool}
use Rattle.rules.specs.Ascending.{insert, ascending}
use Rattle.agenda.specs.Nodes.{held}
use Rattle.agenda.specs.Order.{IsStrictTotalOrder}
use Rattle.agenda.proofs.Order.{one_way, chain}

module _ {E : Type 0} (before : E → E → Bool) where
  -- None of the entries precedes x.
  abbrev pub NonePrecedes : E → List E → Type 0
  NonePrecedes x [] = Unit {0}
  NonePrecedes x (y ∷ ys) = (before y x ≡ false) × NonePrecedes x ys

  -- None precedes the first.
  abbrev pub FirstLeads : List E → Type 0
  FirstLeads [] = Unit {0}
  FirstLeads (x ∷ xs) = NonePrecedes x xs

module _ {E : Type 0} {before : E → E → Bool} (o : IsStrictTotalOrder before) where
  one_more : (x y : E) (ys : List E) → before y x ≡ false → NonePrecedes before x ys → NonePrecedes before x (insert before y ys)
  unfolding insert
  one_more x y [] h none = (h, tt)
  one_more x y (z ∷ ys) h none = elim (cases_Bool (before z y)) [
    | inl p ↦ rw p (none.0, one_more x y ys h none.1)
    | inr p ↦ rw p (h, none)
  ]

  -- what precedes none of the entries, and is preceded by none
  earlier : (x y : E) (ys : List E) → before y x ≡ false → NonePrecedes before y ys → NonePrecedes before x ys
  earlier x y [] h none = tt
  earlier x y (z ∷ ys) h none = (chain o h none.0, earlier x y ys h none.1)

  leads_insert : (x : E) (ys : List E) → FirstLeads before ys → FirstLeads before (insert before x ys)
  unfolding insert
  leads_insert x [] leads = tt
  leads_insert x (y ∷ ys) leads = elim (cases_Bool (before y x)) [
    | inl p ↦ rw p (one_more y x ys (one_way o p) leads)
    | inr p ↦ rw p (p, earlier x y ys p leads)
  ]

  leads_ascending : (xs : List E) → FirstLeads before (ascending before xs)
  unfolding ascending
  leads_ascending [] = tt
  leads_ascending (x ∷ xs) = leads_insert x (ascending before xs) (leads_ascending xs)

  pub held_leads : (xs : List E) (n : ℕ) → FirstLeads before (held before xs n)
  unfolding held
  held_leads xs n = leads_ascending (take n xs)
