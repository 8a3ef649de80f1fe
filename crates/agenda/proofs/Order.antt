-- What follows of a total order.
use Rattle.std.proofs.Common.{◌≡◌, Bool, true, false, sym, subst, inl, inr}
use Rattle.std.proofs.lemmas.Bool.{both_ways, cases_Bool}
use Rattle.agenda.specs.Order.{IsStrictTotalOrder}

module _ {E : Type 0} {before : E → E → Bool} (o : IsStrictTotalOrder before) where
  -- of two entries one alone precedes
  pub one_way : {x y : E} → before x y ≡ true → before y x ≡ false
  one_way {x} {y} h = elim (cases_Bool (before y x)) [ inl t ↦ absurd (both_ways (before x x) (o.irreflexive x) (o.transitive x y x h t)) | inr f ↦ f ]

  -- y is no earlier than x, and z no earlier than y: z is no earlier than x
  pub chain : {x y z : E} → before y x ≡ false → before z y ≡ false → before z x ≡ false
  chain {x} {y} {z} h k = elim (cases_Bool (before z x)) [
    | inl t ↦ elim (cases_Bool (before x y)) [
      | inl u ↦ absurd (both_ways (before z y) k (o.transitive z x y t u))
      | inr f ↦ subst (λ w. before z w ≡ false) (sym (o.total x y f h)) k
    ]
    | inr f ↦ f
  ]

  -- y is no earlier than x, and precedes z: so does x
  pub strict : {x y z : E} → before y x ≡ false → before y z ≡ true → before x z ≡ true
  strict {x} {y} {z} h k = elim (cases_Bool (before x z)) [ inl t ↦ t | inr f ↦ absurd (both_ways (before y z) (chain f h) k) ]

  -- equal entries do not precede
  pub apart : {x y : E} → x ≡ y → before x y ≡ true → ⊥
  apart {x} {y} e h = both_ways (before x y) (subst (λ w. before x w ≡ false) e (o.irreflexive x)) h
