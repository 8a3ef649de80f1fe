-- The ascending list of a list, by insertions: their order does not matter, and one can be taken back.
use Rattle.std.proofs.Common.{◌≡◌, ℕ, zero, suc, ◌<◌, Bool, false, List, [], ◌∷◌, ◌++◌, length, get_or, set, sym, refl, ap, ◌∙◌, subst, inl, inr, arith, length-set, get_or-set_other, get_or-set_same, set-set}
use Rattle.rules.specs.Ascending.{insert, ascending}
use Rattle.std.proofs.lemmas.Bool.{cases_Bool, cases_eq}
use Rattle.agenda.specs.Order.{IsStrictTotalOrder}
use Rattle.agenda.proofs.Order.{one_way, strict, apart}

module _ {E : Type 0} (before : E → E → Bool) where
  pub length_insert : (x : E) (l : List E) → length (insert before x l) ≡ suc (length l)
  unfolding insert
  length_insert x [] = refl
  length_insert x (y ∷ l) = elim (cases_Bool (before y x)) [ inl p ↦ simp (p, length_insert x l) | inr p ↦ simp p ]

  pub length_ascending : (l : List E) → length (ascending before l) ≡ length l
  unfolding ascending
  length_ascending [] = refl
  length_ascending (x ∷ l) = length_insert x (ascending before l) ∙ ap suc (length_ascending l)

module _ {E : Type 0} {before : E → E → Bool} (o : IsStrictTotalOrder before) where
  -- two entries go in in either order
  same_comm : {x y : E} (l : List E) → x ≡ y → insert before x (insert before y l) ≡ insert before y (insert before x l)
  same_comm {x} {y} l e = subst (λ w. insert before x (insert before w l) ≡ insert before w (insert before x l)) e refl

  pub insert_comm : (x y : E) (l : List E) → insert before x (insert before y l) ≡ insert before y (insert before x l)
  unfolding insert
  insert_comm x y [] = elim (cases_Bool (before y x)) [
    | inl p ↦ simp (p, one_way o p)
    | inr p ↦ elim (cases_Bool (before x y)) [ inl q ↦ simp (p, q) | inr q ↦ same_comm [] (o.total x y q p) ]
  ]
  insert_comm x y (z ∷ l) = elim (cases_Bool (before z y)) [
    | inl p ↦ elim (cases_Bool (before z x)) [
      | inl q ↦ simp (p, q, insert_comm x y l)
      | inr q ↦ simp (p, q, strict o q p)
    ]
    | inr p ↦ elim (cases_Bool (before z x)) [
      | inl q ↦ simp (p, q, strict o p q)
      | inr q ↦ elim (cases_Bool (before y x)) [
        | inl r ↦ simp (p, q, r, one_way o r)
        | inr r ↦ elim (cases_Bool (before x y)) [ inl s ↦ simp (p, q, r, s) | inr s ↦ same_comm (z ∷ l) (o.total x y s r) ]
      ]
    ]
  ]

  -- what was inserted can be taken back
  pub insert_cancel : (x : E) (a b : List E) → insert before x a ≡ insert before x b → a ≡ b
  unfolding insert
  insert_cancel x [] [] h = refl
  insert_cancel x [] (z ∷ b) h = elim (cases_Bool (before z x)) [
    | inl q ↦ let k = simp q at h in let e : z ≡ x = cc in absurd (apart o e q)
    | inr q ↦ let k = simp q at h in cc
  ]
  insert_cancel x (y ∷ a) [] h = elim (cases_Bool (before y x)) [
    | inl p ↦ let k = simp p at h in let e : y ≡ x = cc in absurd (apart o e p)
    | inr p ↦ let k = simp p at h in cc
  ]
  insert_cancel x (y ∷ a) (z ∷ b) h = elim (cases_Bool (before y x)) [
    | inl p ↦ elim (cases_Bool (before z x)) [
      | inl q ↦
          let k = simp (p, q) at h in
          let t : insert before x a ≡ insert before x b = cc in
          let u = insert_cancel x a b t in
          cc
      | inr q ↦ let k = simp (p, q) at h in let e : y ≡ x = cc in absurd (apart o e p)
    ]
    | inr p ↦ elim (cases_Bool (before z x)) [
      | inl q ↦ let k = simp (p, q) at h in let e : z ≡ x = cc in absurd (apart o e q)
      | inr q ↦ let k = simp (p, q) at h in cc
    ]
  ]

  -- one more at the end is one more inserted
  pub ascending_push : (l : List E) (x : E) → ascending before (l ++ x ∷ []) ≡ insert before x (ascending before l)
  unfolding ascending
  ascending_push [] x = refl
  ascending_push (y ∷ l) x = ap (insert before y) (ascending_push l x) ∙ insert_comm y x (ascending before l)

  -- v written over an entry: with v inserted before, and that entry after, the two lists hold the same
  exchange : (l : List E) (i : ℕ) (v d : E) → i < length l → insert before v (ascending before l) ≡ insert before (get_or l i d) (ascending before (set l i v))
  unfolding ascending
  exchange [] i v d h = absurd (omega arith)
  exchange (x ∷ l) zero v d h = insert_comm v x (ascending before l)
  exchange (x ∷ l) (suc i) v d h =
      insert_comm v x (ascending before l) ∙ ap (insert before x) (exchange l i v d (omega arith)) ∙ insert_comm x (get_or l i d) (ascending before (set l i v))

  -- a copy of the entry at j leaves j as it is
  reads : (l : List E) (i j : ℕ) (d : E) → j < length l → get_or (set l i (get_or l j d)) j d ≡ get_or l j d
  reads l i j d h = elim (cases_eq j i) [
    | inl e ↦ rw (sym e) (get_or-set_same l j (get_or l j d) d h)
    | inr n ↦ get_or-set_other l i j (get_or l j d) d n
  ]

  -- the entry at j moves to i and leaves its place to v: the list holds what it holds with v at i
  pub ascending_move : (l : List E) (i j : ℕ) (v d : E) → i < length l → j < length l → ascending before (set (set l i (get_or l j d)) j v) ≡ ascending before (set l i v)
  ascending_move l i j v d hi hj =
      let w = get_or l j d in
      let m = set l i w in
      let there = exchange m j v d (simp length-set hj) in
      let back = exchange (set l i v) i w d (simp length-set hi) in
      let r = reads l i j d hj in
      let s = get_or-set_same l i v d hi in
      let t = set-set l i v w in
      let both : insert before w (ascending before (set m j v)) ≡ insert before w (ascending before (set l i v)) = cc in
      insert_cancel w (ascending before (set m j v)) (ascending before (set l i v)) both

  -- what no entry precedes stands first
  pub least_first : (x : E) (l : List E) → ((k : ℕ) (d : E) → k < length l → before (get_or l k d) x ≡ false) → insert before x (ascending before l) ≡ x ∷ ascending before l
  unfolding insert ascending
  least_first x [] h = refl
  least_first x (y ∷ l) h =
      let ih = least_first x l (λ k d p. h (suc k) d (omega arith)) in
      let c = insert_comm x y (ascending before l) in
      c ∙ ap (insert before y) ih ∙ elim (cases_Bool (before x y)) [
        | inl p ↦ simp p
        | inr p ↦ simp p (subst (λ w. w ∷ x ∷ ascending before l ≡ x ∷ insert before w (ascending before l)) (o.total x y p (h 0 x (omega arith))) (ap (λ m. x ∷ m) (sym ih)))
      ]
