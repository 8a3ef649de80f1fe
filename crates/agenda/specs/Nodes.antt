-- What the nodes of an agenda hold, and in which order.
use Rattle.std.specs.Prelude.{◌≡◌, ℕ, zero, suc, ◌+◌, ◌-◌, ◌*◌, ◌/◌, ◌<◌, ◌≤◌, min, Bool, true, not, ◌&&◌, List, [], ◌∷◌, length, take, nat_le, slice_index_or}
use Rattle.rules.specs.Ascending.{ascending}
use Rattle.rules.specs.Board.{most_nodes}

-- How many nodes are usable: the first 4,096, or all where there are fewer.
abbrev pub usable : {E : Type 0} → List E → ℕ
usable nodes = min most_nodes (length nodes)

-- The ascending list of the entries in the first `len` nodes.
unfoldable pub held : {E : Type 0} → (E → E → Bool) → List E → ℕ → List E
held before nodes len = ascending before (take len nodes)

-- Whether the entry of node i is no earlier than that of node j.
unfoldable pub no_earlier : {E : Type 0} → (E → E → Bool) → List E → ℕ → ℕ → Bool
no_earlier before [] i j = true
no_earlier before (x ∷ xs) i j = not (before (slice_index_or (x ∷ xs) i x) (slice_index_or (x ∷ xs) j x))

-- Heap order: whether each of the first `len` nodes is no earlier than its parent. Node k has the parent (k - 1) / 2, and the root is its own.
unfoldable pub heaped : {E : Type 0} → (E → E → Bool) → List E → ℕ → Bool
heaped before nodes zero = true
heaped before nodes (suc k) = heaped before nodes k && no_earlier before nodes k ((k - 1) / 2)

-- Whether the taken nodes are usable, and in heap order.
unfoldable pub sound : {E : Type 0} → (E → E → Bool) → List E → ℕ → Bool
sound before nodes len = nat_le len (usable nodes) && heaped before nodes len

-- An agenda's invariant.
abbrev pub Ready : {E : Type 0} → (E → E → Bool) → List E → ℕ → Type 0
Ready before nodes len = sound before nodes len ≡ true

-- Each child of node i, of those among the first `len` nodes, is no earlier than node c.
abbrev pub Earliest : {E : Type 0} → (E → E → Bool) → List E → ℕ → ℕ → ℕ → Type 0
Earliest before nodes len i c = (k : ℕ) → i * 2 + 1 ≤ k → k ≤ i * 2 + 2 → k < len → no_earlier before nodes k c ≡ true
