-- What each step of the two sifts keeps.
use Rattle.std.proofs.Common.{◌≡◌, ℕ, ◌+◌, ◌-◌, ◌*◌, ◌/◌, ◌<◌, ◌≤◌, Bool, true, false, List, [], ◌∷◌, ◌++◌, length, get_or, length-set, take, set, sym, refl, ap, ◌∙◌, subst, inl, inr, arith, length-take-le, get_or-set_other, get_or-take, get_or-set_same}
use Rattle.std.proofs.Math.Seq.{take-set-lt}
use Rattle.rules.specs.Ascending.{insert, ascending}
use Rattle.std.proofs.lemmas.Bool.{cases_eq, cases_lt}
use Rattle.std.proofs.lemmas.List.{take_more_set, get_or_read}
use Rattle.agenda.specs.Nodes.{held, no_earlier, heaped, Earliest}
use Rattle.agenda.specs.Order.{IsStrictTotalOrder}
use mir.Val.{bool_byte}
use Rattle.agenda.proofs.Order.{one_way, chain}
use Rattle.agenda.proofs.Bag.{ascending_push, ascending_move}
use Rattle.agenda.proofs.Heaps.{Heap, told, tells, heap_of, heaped_of, heap_shorter}

module _ {E : Type 0} (before : E → E → Bool) where
  -- v written at j: v is no earlier than j's parent, no child of j is earlier than v, and the rest is in order
  heap_set : (xs : List E) (j n : ℕ) (v : E) → j < length xs → ((i : ℕ) (d : E) → i * 2 + 1 ≤ j → j ≤ i * 2 + 2 → before v (get_or xs i d) ≡ false) → ((k : ℕ) (d : E) → j * 2 + 1 ≤ k → k ≤ j * 2 + 2 → k < n → before (get_or xs k d) v ≡ false) → ((i k : ℕ) (d : E) → i * 2 + 1 ≤ k → k ≤ i * 2 + 2 → k < n → (k ≡ j → ⊥) → before (get_or xs k d) (get_or xs i d) ≡ false) → Heap before (set xs j v) n
  heap_set xs j n v long over under rest = λ i k d a b f. elim (cases_eq k j) [
    | inl e ↦
        let p = get_or-set_same xs j v d long in
        let q = get_or-set_other xs j i v d (omega arith) in
        rw (e, p, q) (over i d (omega arith) (omega arith))
    | inr ne ↦
        let q = get_or-set_other xs j k v d ne in
        elim (cases_eq i j) [
          | inl e ↦ let p = get_or-set_same xs j v d long in rw (e, p, q) (under k d (omega arith) (omega arith) f)
          | inr m ↦ let p = get_or-set_other xs j i v d m in rw (p, q) (rest i k d a b f ne)
        ]
  ]

  -- the way up of `entry`, which began at the last of the n nodes of xs: node `at` of ys waits for it
  pub record Rising (entry : E) (n : ℕ) (xs ys : List E) (at : ℕ) : Type 0 where
    pub bound : at < n
    pub kept : Heap before ys (n - 1)
    pub moved : at + 1 < n → Heap before ys n
    pub early : at + 1 < n → (d : E) → before entry (get_or ys at d) ≡ true
    pub same : held before (set ys at entry) n ≡ insert before entry (held before xs (n - 1))

  -- the way down of `entry` among the n nodes of xs, from the root: node `at` of ys waits for it
  pub record Sinking (entry : E) (n : ℕ) (xs ys : List E) (at : ℕ) : Type 0 where
    pub bound : at < n
    pub heap : Heap before ys n
    pub late : 0 < at → (d : E) → before (get_or ys at d) entry ≡ true
    pub same : held before (set ys at entry) n ≡ held before (set xs 0 entry) n

module _ {E : Type 0} {before : E → E → Bool} (o : IsStrictTotalOrder before) where
  -- the left child comes first where it is the only one
  pub left_alone : (xs : List E) (i k : ℕ) → length xs ≤ i * 2 + 2 → i * 2 + 1 ≤ k → k ≤ i * 2 + 2 → k < length xs → no_earlier before xs k (i * 2 + 1) ≡ true
  left_alone xs i k alone a b f = let e : k ≡ i * 2 + 1 = omega arith in tells before xs k (i * 2 + 1) (λ d. rw e (o.irreflexive (get_or xs (i * 2 + 1) d)))

  -- of two children, x at c comes first if y at s does not precede it
  of_two : (xs : List E) (i c s k : ℕ) (x y : E) → c < length xs → s < length xs → x ≡ get_or xs c x → y ≡ get_or xs s y → before y x ≡ false → i * 2 + 1 ≤ k → k ≤ i * 2 + 2 → c + s ≡ i * 4 + 3 → i * 2 + 1 ≤ c → c ≤ i * 2 + 2 → no_earlier before xs k c ≡ true
  of_two xs i c s k x y hc hs is_x is_y h a b both from to = tells before xs k c (λ d. elim (cases_eq k c) [
    | inl e ↦ rw e (o.irreflexive (get_or xs c d))
    | inr ne ↦ let e : k ≡ s = omega arith in rw (e, ← get_or_read xs c x hc is_x d, ← get_or_read xs s y hs is_y d) h
  ])

  left_first : (xs : List E) (i r k : ℕ) (x y : E) → r < length xs → r ≡ i * 2 + 1 + 1 → x ≡ get_or xs r x → y ≡ get_or xs (i * 2 + 1) y → before x y ≡ false → i * 2 + 1 ≤ k → k ≤ i * 2 + 2 → no_earlier before xs k (i * 2 + 1) ≡ true
  left_first xs i r k x y long right is_x is_y h a b = of_two xs i (i * 2 + 1) r k y x (omega arith) long is_y is_x h a b (omega arith) (omega arith) (omega arith)

  right_first : (xs : List E) (i r k : ℕ) (x y : E) → r < length xs → r ≡ i * 2 + 1 + 1 → x ≡ get_or xs r x → y ≡ get_or xs (i * 2 + 1) y → before x y ≡ true → i * 2 + 1 ≤ k → k ≤ i * 2 + 2 → no_earlier before xs k r ≡ true
  right_first xs i r k x y long right is_x is_y h a b = of_two xs i r (i * 2 + 1) k x y long (omega arith) is_x is_y (one_way o h) a b (omega arith) (omega arith) (omega arith)

  -- the number of the child that comes first, where there are two
  pub first_of_two : (xs : List E) (i k : ℕ) (x y : E) (right : Bool) → i * 2 + 1 + 1 < length xs → x ≡ get_or xs (i * 2 + 1 + 1) x → y ≡ get_or xs (i * 2 + 1) y → before x y ≡ right → i * 2 + 1 ≤ k → k ≤ i * 2 + 2 → no_earlier before xs k (i * 2 + 1 + bool_byte right) ≡ true
  first_of_two xs i k x y true long is_x is_y h a b = right_first xs i (i * 2 + 1 + 1) k x y long refl is_x is_y h a b
  first_of_two xs i k x y false long is_x is_y h a b = subst (λ c. no_earlier before xs k c ≡ true) (omega arith) (left_first xs i (i * 2 + 1 + 1) k x y long refl is_x is_y h a b)

  -- an entry moves from node j to node i, and v is to follow at j: what is held stays
  held_move : (xs : List E) (i j n : ℕ) (v w d : E) → i < n → j < n → n ≤ length xs → w ≡ get_or xs j d → held before (set (set xs i w) j v) n ≡ held before (set xs i v) n
  unfolding held
  held_move xs i j n v w d hi hj long is =
      let a = take-set-lt n (set xs i w) j v hj in
      let b = take-set-lt n xs i w hi in
      let c = take-set-lt n xs i v hi in
      let r = get_or-take n xs j d hj in
      let m = ascending_move o (take n xs) i j v d (rw (length-take-le n xs long) hi) (rw (length-take-le n xs long) hj) in
      cc

  pub rise_begins : (entry : E) (n : ℕ) (xs : List E) → 0 < n → n ≤ length xs → heaped before xs (n - 1) ≡ true → Rising before entry n xs xs (n - 1)
  unfolding held
  rise_begins entry n xs some long heap =
      let next : n - 1 + 1 ≡ n = omega arith in
      let pushed : take n (set xs (n - 1) entry) ≡ take (n - 1) xs ++ entry ∷ [] = subst (λ m. take m (set xs (n - 1) entry) ≡ take (n - 1) xs ++ entry ∷ []) next (take_more_set xs (n - 1) entry (omega arith)) in
      record {
        bound = omega arith;
        kept = heap_of before xs (n - 1) (omega arith) heap;
        moved = λ lt. absurd (omega arith);
        early = λ lt. absurd (omega arith);
        same = ap (ascending before) pushed ∙ ascending_push o (take (n - 1) xs) entry;
      }

  -- a node and its children, once the entry that waited for the node has risen above it
  above_children : (entry : E) (n : ℕ) (xs ys : List E) (at i k : ℕ) (d : E) → Rising before entry n xs ys at → i * 2 + 1 ≤ k → k ≤ i * 2 + 2 → k < n → (k ≡ at → ⊥) → before (get_or ys k d) (get_or ys i d) ≡ false
  above_children entry n xs ys at i k d was a b f ne = elim (cases_lt k (n - 1)) [ inl lt ↦ was.kept i k d a b lt | inr ge ↦ let bound = was.bound in was.moved (omega arith) i k d a b f ]

  pub rise_steps : (entry : E) (n : ℕ) (xs ys : List E) (at parent : ℕ) (above : E) → parent * 2 + 1 ≤ at → at ≤ parent * 2 + 2 → n ≤ length ys → above ≡ get_or ys parent above → true ≡ before entry above → Rising before entry n xs ys at → Rising before entry n xs (set ys at above) parent
  rise_steps entry n xs ys at parent above from to long is t was =
      let bound = was.bound in
      let read : (d : E) → above ≡ get_or ys parent d = get_or_read ys parent above (omega arith) is in
      let heap : Heap before (set ys at above) n = heap_set before ys at n above (omega arith)
      (λ i d a b. let e : i ≡ parent = omega arith in rw (e, ← read d) (o.irreflexive above))
      (λ k d a b f. let h = was.moved (omega arith) in chain o (subst (λ w. before (get_or ys at d) w ≡ false) (sym (read d)) (h parent at d (omega arith) (omega arith) (omega arith))) (h at k d a b f))
      (λ i k d a b f ne. above_children entry n xs ys at i k d was a b f ne) in
      record {
        bound = omega arith;
        kept = heap_shorter before (set ys at above) (n - 1) n (omega arith) heap;
        moved = λ _. heap;
        early = λ _ d. rw (get_or-set_other ys at parent above d (omega arith), ← read d) (sym t);
        same = held_move ys at parent n entry above above (omega arith) (omega arith) (omega arith) is ∙ was.same;
      }

  rise_ends : (entry : E) (n : ℕ) (xs ys : List E) (at : ℕ) → length ys ≡ n → ((i : ℕ) (d : E) → i * 2 + 1 ≤ at → at ≤ i * 2 + 2 → before entry (get_or ys i d) ≡ false) → Rising before entry n xs ys at → heaped before (set ys at entry) (length (set ys at entry)) ≡ true
  rise_ends entry n xs ys at all over was =
      let bound = was.bound in
      rw (length-set ys at entry, all) (heaped_of o (set ys at entry) n (heap_set before ys at n entry (omega arith) over
      (λ k d a b f. chain o (one_way o (was.early (omega arith) d)) (was.moved (omega arith) at k d a b f))
      (λ i k d a b f ne. above_children entry n xs ys at i k d was a b f ne)))

  pub rise_tops : (entry : E) (n : ℕ) (xs ys : List E) (at : ℕ) → length ys ≡ n → at ≡ 0 → Rising before entry n xs ys at → heaped before (set ys at entry) (length (set ys at entry)) ≡ true
  rise_tops entry n xs ys at all top = rise_ends entry n xs ys at all (λ i d a b. absurd (omega arith))

  pub rise_rests : (entry : E) (n : ℕ) (xs ys : List E) (at : ℕ) (above : E) → 0 < at → length ys ≡ n → above ≡ get_or ys ((at - 1) / 2) above → false ≡ before entry above → Rising before entry n xs ys at → heaped before (set ys at entry) (length (set ys at entry)) ≡ true
  rise_rests entry n xs ys at above pos all is t was =
      let bound = was.bound in
      rise_ends entry n xs ys at all
      (λ i d a b. let e : i ≡ (at - 1) / 2 = omega arith in rw (e, ← get_or_read ys ((at - 1) / 2) above (omega arith) is d) (sym t))
      was

  pub sink_begins : (entry : E) (n : ℕ) (xs : List E) → 0 < n → n ≤ length xs → heaped before xs n ≡ true → Sinking before entry n xs xs 0
  sink_begins entry n xs pos long heap = record { bound = pos; heap = heap_of before xs n long heap; late = λ lt. absurd (omega arith); same = refl }

  pub sink_steps : (entry : E) (n : ℕ) (xs ys : List E) (at child : ℕ) (below : E) → length ys ≡ n → at * 2 + 1 ≤ child → child ≤ at * 2 + 2 → child < length ys → Earliest before ys (length ys) at child → below ≡ get_or ys child below → true ≡ before below entry → Sinking before entry n xs ys at → Sinking before entry n xs (set ys at below) child
  sink_steps entry n xs ys at child below all from to in' first is t was =
      let bound = was.bound in
      let read : (d : E) → below ≡ get_or ys child d = get_or_read ys child below in' is in
      record {
        bound = omega arith;
        heap = heap_set before ys at n below (omega arith)
            (λ i d a b. rw (read d) (chain o (was.heap i at d a b bound) (was.heap at child d from to (omega arith))))
            (λ k d a b f. rw (read d) (told before ys k child d (omega arith) (omega arith) (first k a b (omega arith))))
            (λ i k d a b f ne. was.heap i k d a b f);
        late = λ _ d. rw (get_or-set_other ys at child below d (omega arith), ← read d) (sym t);
        same = held_move ys at child n entry below below bound (omega arith) (omega arith) is ∙ was.same;
      }

  sink_ends : (entry : E) (n : ℕ) (xs ys : List E) (at : ℕ) → length ys ≡ n → ((k : ℕ) (d : E) → at * 2 + 1 ≤ k → k ≤ at * 2 + 2 → k < n → before (get_or ys k d) entry ≡ false) → Sinking before entry n xs ys at → heaped before (set ys at entry) (length (set ys at entry)) ≡ true
  sink_ends entry n xs ys at all under was =
      let bound = was.bound in
      rw (length-set ys at entry, all) (heaped_of o (set ys at entry) n (heap_set before ys at n entry (omega arith)
      (λ i d a b. chain o (was.heap i at d a b bound) (one_way o (was.late (omega arith) d)))
      under
      (λ i k d a b f ne. was.heap i k d a b f)))

  pub sink_leaves : (entry : E) (n : ℕ) (xs ys : List E) (at : ℕ) → length ys ≡ n → length ys / 2 ≤ at → Sinking before entry n xs ys at → heaped before (set ys at entry) (length (set ys at entry)) ≡ true
  sink_leaves entry n xs ys at all leaf = sink_ends entry n xs ys at all (λ k d a b f. absurd (omega arith))

  pub sink_rests : (entry : E) (n : ℕ) (xs ys : List E) (at child : ℕ) (below : E) → length ys ≡ n → child < length ys → Earliest before ys (length ys) at child → below ≡ get_or ys child below → false ≡ before below entry → Sinking before entry n xs ys at → heaped before (set ys at entry) (length (set ys at entry)) ≡ true
  sink_rests entry n xs ys at child below all in' first is t = sink_ends entry n xs ys at all
      (λ k d a b f. chain o (subst (λ w. before w entry ≡ false) (get_or_read ys child below in' is d) (sym t)) (told before ys k child d (omega arith) (omega arith) (first k a b (omega arith))))

pub ruleset rise_facts = (rise_tops, rise_rests)

pub ruleset sink_facts = (sink_leaves, sink_rests)
