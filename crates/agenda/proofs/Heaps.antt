-- Heap order, and what a heap holds.
use Rattle.std.proofs.Common.{◌≡◌, ℕ, zero, suc, ◌+◌, ◌-◌, ◌*◌, ◌/◌, ◌<◌, ◌≤◌, Bool, true, false, leb, List, [], ◌∷◌, length, get_or, take, drop, set, sym, refl, ap, ◌∙◌, inl, inr, arith, length-take, length-take-le, get_or-take, take-suc, length-append, length-drop, ap₂, ◌&&◌, ◌++◌, Some, slice_get, rules}
use Rattle.std.proofs.lemmas.Grind.{common_steps}
use Rattle.rules.specs.Ascending.{insert, ascending}
use Rattle.std.proofs.lemmas.Bool.{cases_eq, leb-true, le-leb, and_parts, and_from, not-true, not_from_false}
use Rattle.std.proofs.lemmas.List.{get_or_default, take-take}
use Rattle.std.proofs.lemmas.Slice.{drop-append-drop}
use Rattle.std.proofs.Math.Seq.{take-append_seam, take-length}
use Rattle.agenda.specs.Nodes.{usable, held, no_earlier, heaped, sound}
use Rattle.agenda.specs.Waiting.{first_of}
use Rattle.agenda.specs.Order.{IsStrictTotalOrder}
use Rattle.agenda.proofs.Order.{chain}
use Rattle.agenda.proofs.Bag.{length_ascending, ascending_push, least_first}

-- with its first n written anew, a list is as long as it was
pub number_joined : {E : Type 0} (xs ys : List E) (n : ℕ) → length ys ≡ n → n ≤ length xs → length (ys ++ drop n xs) ≡ length xs
number_joined xs ys n all le = omega (arith, length-append ys (drop n xs), length-drop n xs)

-- heap order at each node i and child k of it
abbrev pub Heap : {E : Type 0} → (E → E → Bool) → List E → ℕ → Type 0
Heap {E} before xs n = (i k : ℕ) (d : E) → i * 2 + 1 ≤ k → k ≤ i * 2 + 2 → k < n → before (get_or xs k d) (get_or xs i d) ≡ false

module _ {E : Type 0} (before : E → E → Bool) where
  -- what `no-earlier` says of two nodes, at any default
  pub told : (xs : List E) (i j : ℕ) (d : E) → i < length xs → j < length xs → no_earlier before xs i j ≡ true → before (get_or xs i d) (get_or xs j d) ≡ false
  unfolding no_earlier
  told [] i j d hi hj h = absurd (omega arith)
  told (x ∷ xs) i j d hi hj h = rw (get_or_default (x ∷ xs) i d x hi, get_or_default (x ∷ xs) j d x hj) (not-true _ h)

  -- and what shows it
  pub tells : (xs : List E) (i j : ℕ) → ((d : E) → before (get_or xs i d) (get_or xs j d) ≡ false) → no_earlier before xs i j ≡ true
  unfolding no_earlier
  tells [] i j h = refl
  tells (x ∷ xs) i j h = not_from_false _ (h x)

  -- heap order as a test gives it at each branch
  pub heap_of : (xs : List E) (n : ℕ) → n ≤ length xs → heaped before xs n ≡ true → Heap before xs n
  unfolding heaped
  heap_of xs zero le h = λ i k d a b f. absurd (omega arith)
  heap_of xs (suc n) le h = λ i k d a b f.
      let both = and_parts (heaped before xs n) (no_earlier before xs n ((n - 1) / 2)) h in
      elim (cases_eq k n) [
        | inl e ↦ let p : i ≡ (n - 1) / 2 = omega arith in rw (e, p) (told xs n ((n - 1) / 2) d (omega arith) (omega arith) both.1)
        | inr ne ↦ heap_of xs n (omega arith) both.0 i k d a b (omega arith)
      ]

  no_earlier_take : (xs : List E) (m i j : ℕ) → i < m → j < m → no_earlier before (take m xs) i j ≡ no_earlier before xs i j
  unfolding no_earlier
  no_earlier_take xs zero i j hi hj = absurd (omega arith)
  no_earlier_take [] (suc m) i j hi hj = refl
  no_earlier_take (x ∷ t) (suc m) i j hi hj = rw (get_or-take (suc m) (x ∷ t) i x hi, get_or-take (suc m) (x ∷ t) j x hj) refl

  -- the first m nodes by themselves
  pub heaped_take : (xs : List E) (m n : ℕ) → n ≤ m → heaped before (take m xs) n ≡ heaped before xs n
  unfolding heaped
  heaped_take xs m zero le = refl
  heaped_take xs m (suc n) le = ap₂ (λ a b. a && b) (heaped_take xs m n (omega arith)) (no_earlier_take xs m n ((n - 1) / 2) (omega arith) (omega arith))

  pub held_take : (xs : List E) (m n : ℕ) → n ≤ m → held before (take m xs) n ≡ held before xs n
  unfolding held
  held_take xs m n le = ap (ascending before) (take-take n m xs le)

  -- nodes with others after them
  pub heaped_joined : (ys zs : List E) (n : ℕ) → length ys ≡ n → heaped before ys (length ys) ≡ true → heaped before (ys ++ zs) n ≡ true
  heaped_joined ys zs n all heap =
      sym (heaped_take (ys ++ zs) (length ys) n (omega arith)) ∙ ap (λ l. heaped before l n) (take-append_seam ys zs) ∙ ap (heaped before ys) (sym all) ∙ heap

  pub held_joined : (ys zs : List E) (n : ℕ) → length ys ≡ n → held before (ys ++ zs) n ≡ held before ys (length ys)
  held_joined ys zs n all =
      sym (held_take (ys ++ zs) (length ys) n (omega arith)) ∙ ap (λ l. held before l n) (take-append_seam ys zs) ∙ ap (held before ys) (sym all)

  pub length_held : (xs : List E) (n : ℕ) → n ≤ length xs → length (held before xs n) ≡ n
  unfolding held
  length_held xs n h = length_ascending before (take n xs) ∙ length-take-le n xs h

  pub sound_within : (xs : List E) (n : ℕ) → sound before xs n ≡ true → n ≤ usable xs
  unfolding sound
  sound_within xs n h = leb-true n (usable xs) (and_parts (leb n (usable xs)) (heaped before xs n) h).0

  pub sound_heaped : (xs : List E) (n : ℕ) → sound before xs n ≡ true → heaped before xs n ≡ true
  unfolding sound
  sound_heaped xs n h = (and_parts (leb n (usable xs)) (heaped before xs n) h).1

  pub sound_from : (xs : List E) (n : ℕ) → n ≤ usable xs → heaped before xs n ≡ true → sound before xs n ≡ true
  unfolding sound
  sound_from xs n le h = and_from _ _ (le-leb n (usable xs) le) h

  pub sound_empty : (xs : List E) → sound before xs 0 ≡ true
  unfolding heaped
  sound_empty xs = sound_from xs 0 (omega arith) refl

  pub held_empty : (xs : List E) → held before xs 0 ≡ []
  unfolding held ascending
  held_empty xs = refl

  pub heap_shorter : (xs : List E) (m n : ℕ) → m ≤ n → Heap before xs n → Heap before xs m
  heap_shorter xs m n le h = λ i k d a b f. h i k d a b (omega arith)

  -- where an entry comes first, there is one
  pub some_held : (xs : List E) (n : ℕ) (x : E) → first_of (held before xs n) ≡ Some x → 1 ≤ n
  unfolding held ascending
  some_held xs zero x first = absurd (search rules)
  some_held xs (suc m) x first = omega arith

module _ {E : Type 0} {before : E → E → Bool} (o : IsStrictTotalOrder before) where
  -- heap order at each branch passes the test
  pub heaped_of : (xs : List E) (n : ℕ) → Heap before xs n → heaped before xs n ≡ true
  unfolding heaped
  heaped_of xs zero h = refl
  heaped_of xs (suc n) h = and_from _ _ (heaped_of xs n (heap_shorter before xs n (suc n) (omega arith) h)) (tells before xs n ((n - 1) / 2) (λ d. elim (cases_eq n 0) [
    | inl e ↦ rw e (o.irreflexive (get_or xs 0 d))
    | inr ne ↦ h ((n - 1) / 2) n d (omega arith) (omega arith) (omega arith)
  ]))

  pub heaped_shorter : (xs : List E) (m n : ℕ) → m ≤ n → n ≤ length xs → heaped before xs n ≡ true → heaped before xs m ≡ true
  heaped_shorter xs m n le long h = heaped_of xs m (heap_shorter before xs m n le (heap_of before xs n long h))

  -- nothing precedes the root
  root : (xs : List E) (n : ℕ) (d : E) → Heap before xs n → (fuel k : ℕ) → k ≤ fuel → k < n → before (get_or xs k d) (get_or xs 0 d) ≡ false
  root xs n d h zero k a b = let e : k ≡ 0 = omega arith in rw e (o.irreflexive (get_or xs 0 d))
  root xs n d h (suc fuel) k a b = elim (cases_eq k 0) [
    | inl e ↦ rw e (o.irreflexive (get_or xs 0 d))
    | inr u ↦ chain o (root xs n d h fuel ((k - 1) / 2) (omega arith) (omega arith)) (h ((k - 1) / 2) k d (omega arith) (omega arith) b)
  ]

  -- the root is the first of what is held
  pub held_root : (xs : List E) (m : ℕ) (d : E) → m < length xs → heaped before xs (suc m) ≡ true → held before xs (suc m) ≡ get_or xs 0 d ∷ held before (drop 1 xs) m
  unfolding held ascending
  held_root [] m d long heap = absurd (omega arith)
  held_root (x ∷ t) m d long heap = least_first o x (take m t)
      (λ k e f.
      let lt : k < m = omega (arith, length-take m t) in
      rw (get_or-take m t k e lt) (root (x ∷ t) (suc m) e (heap_of before (x ∷ t) (suc m) (omega arith) heap) (suc k) (suc k) (omega arith) (omega arith)))

  -- with the last in the root's place, the first m nodes hold what the m nodes after the root held
  pub held_last : (xs : List E) (m : ℕ) (v : E) → 0 < m → m < length xs → v ≡ get_or xs m v → held before (set (take m xs) 0 v) (length (take m xs)) ≡ held before (drop 1 xs) m
  unfolding held ascending
  held_last [] m v pos long is = absurd (omega arith)
  held_last (x ∷ t) zero v pos long is = absurd (omega arith)
  held_last (x ∷ t) (suc m) v pos long is =
      let pushed = ap (ascending before) (take-suc t m v (omega arith)) ∙ ascending_push o (take m t) (get_or t m v) in
      ap (λ l. insert before v (ascending before l)) (take-length (take m t)) ∙ ap (λ w. insert before w (ascending before (take m t))) is ∙ sym pushed

  -- the first of what is held stands at the root
  pub first_of_held : (xs : List E) (n : ℕ) → sound before xs n ≡ true → first_of (held before xs n) ≡ slice_get (take n xs) 0
  unfolding held ascending
  first_of_held xs zero h = refl
  first_of_held [] (suc m) h = let within = sound_within before [] (suc m) h in absurd (omega arith)
  first_of_held (x ∷ t) (suc m) h =
      let within = sound_within before (x ∷ t) (suc m) h in
      ap first_of (held_root (x ∷ t) m x (omega arith) (sound_heaped before (x ∷ t) (suc m) h))

  -- where x comes first, it stands at the root, and the nodes after the root hold the others
  pub held_first : (xs : List E) (n : ℕ) (x : E) → sound before xs n ≡ true → first_of (held before xs n) ≡ Some x → held before xs n ≡ x ∷ held before (drop 1 xs) (n - 1)
  unfolding held ascending
  held_first xs zero x h first = absurd (search rules)
  held_first xs (suc m) x h first =
      let within = sound_within before xs (suc m) h in
      let all = held_root xs m x (omega arith) (sound_heaped before xs (suc m) h) in
      let is_x : get_or xs 0 x ≡ x = grind (arith, common_steps) in
      let left : suc m - 1 ≡ m = omega arith in
      rw left (all ∙ ap (λ y. y ∷ held before (drop 1 xs) m) is_x)

  pub sound_shorter : (xs : List E) (m n : ℕ) → m ≤ n → sound before xs n ≡ true → sound before xs m ≡ true
  sound_shorter xs m n le h =
      let within = sound_within before xs n h in
      sound_from before xs m (omega arith) (heaped_shorter xs m n le (omega arith) (sound_heaped before xs n h))

-- what an agenda's methods have of its heap
pub ruleset agenda_facts = (sound_within, sound_heaped, sound_from, sound_empty, held_empty, length_held, some_held, length-take-le, number_joined, drop-append-drop, heaped_take, held_take, heaped_joined, held_joined, first_of_held, held_first, held_last)
