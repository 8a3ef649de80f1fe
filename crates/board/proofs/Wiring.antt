-- What the iterators over the slots find is what the rules say of the four levels.
use Rattle.std.proofs.Common.{◌≡◌, ℕ, zero, suc, ◌+◌, ◌<◌, ◌≤◌, Bool, true, false, cond, not, ◌&&◌, List, [], ◌∷◌, length, take, get_or, fold, refl, arith}
use Rattle.std.specs.Bool.{beq}
use Rattle.std.specs.List.{zip}
use mir.Val.{bool_byte}
use Rattle.std.proofs.lemmas.Bool.{and_parts, agree_below, agree_below_at}
use Rattle.rules.specs.I8259.{bit}
use Rattle.rules.specs.Board.{lines, on_line, edges_between}
use Rattle.board.specs.Wiring.{with_line}

-- the lines' levels as one number
abbrev pub word : List Bool → ℕ
word levels = fold (λ found at. with_line found at.0 at.1) 0 (zip lines levels)

-- What a test at both levels tells of each.
at_both : (Bool → Bool) → Bool
at_both p = p true && p false

of_both : (p : Bool → Bool) → at_both p ≡ true → (b : Bool) → p b ≡ true
unfolding at_both
of_both p e true = (and_parts (p true) (p false) e).0
of_both p e false = (and_parts (p true) (p false) e).1

-- The line of each slot is as the rules wire it: one test at all levels and all lines, which is computed.
wired : Bool → Bool → Bool → Bool → Bool
wired a b c d = agree_below (bit (word (a ∷ b ∷ c ∷ d ∷ []))) (on_line lines (a ∷ b ∷ c ∷ d ∷ [])) 16

test : at_both (λ a. at_both (λ b. at_both (λ c. at_both (wired a b c)))) ≡ true
unfolding at_both wired on_line
test = refl

wired_right : (a b c d : Bool) (l : ℕ) → l < 16 → bit (word (a ∷ b ∷ c ∷ d ∷ [])) l ≡ on_line lines (a ∷ b ∷ c ∷ d ∷ []) l
unfolding wired
wired_right a b c d l =
    let at_a = of_both (λ a. at_both (λ b. at_both (λ c. at_both (wired a b c)))) test a in
    let at_b = of_both (λ b. at_both (λ c. at_both (wired a b c))) at_a b in
    let at_c = of_both (λ c. at_both (wired a b c)) at_b c in
    agree_below_at (bit (word (a ∷ b ∷ c ∷ d ∷ []))) (on_line lines (a ∷ b ∷ c ∷ d ∷ [])) 16 l (of_both (wired a b c) at_c d)

-- P holds of a list of four, if it holds of each four.
pub four : (P : List Bool → Type 0) → ((a b c d : Bool) → P (a ∷ b ∷ c ∷ d ∷ [])) → (levels : List Bool) → length levels ≡ 4 → P levels
four P each [] h = absurd (omega arith)
four P each (a ∷ []) h = absurd (omega arith)
four P each (a ∷ b ∷ []) h = absurd (omega arith)
four P each (a ∷ b ∷ c ∷ []) h = absurd (omega arith)
four P each (a ∷ b ∷ c ∷ d ∷ []) h = each a b c d
four P each (a ∷ b ∷ c ∷ d ∷ e ∷ levels) h = absurd (omega arith)

pub word_wired : (levels : List Bool) → length levels ≡ 4 → (l : ℕ) → l < 16 → bit (word levels) l ≡ on_line lines levels l
word_wired = four (λ levels. (l : ℕ) → l < 16 → bit (word levels) l ≡ on_line lines levels l) wired_right

-- One level more, on its line.
pub word_next : (levels : List Bool) → length levels ≡ 4 → (i : ℕ) → i < 4 → with_line (word (take i levels)) (get_or lines i 0) (get_or levels i false) ≡ word (take (i + 1) levels)
word_next = four (λ levels. (i : ℕ) → i < 4 → with_line (word (take i levels)) (get_or lines i 0) (get_or levels i false) ≡ word (take (i + 1) levels)) go
  where
    go : (a b c d : Bool) (i : ℕ) → i < 4 → with_line (word (take i (a ∷ b ∷ c ∷ d ∷ []))) (get_or lines i 0) (get_or (a ∷ b ∷ c ∷ d ∷ []) i false) ≡ word (take (i + 1) (a ∷ b ∷ c ∷ d ∷ []))
    go a b c d zero few = refl
    go a b c d (suc zero) few = refl
    go a b c d (suc (suc zero)) few = refl
    go a b c d (suc (suc (suc zero))) few = refl
    go a b c d (suc (suc (suc (suc i)))) few = absurd (omega arith)

-- One level more, and one edge if it has changed.
pub edges_next : (i : ℕ) (vs ws : List Bool) → i < length vs → i < length ws
    → edges_between (take i vs) (take i ws) + bool_byte (not (beq (get_or vs i false) (get_or ws i false))) ≡ edges_between (take (suc i) vs) (take (suc i) ws)
unfolding edges_between
edges_next i [] ws some more = absurd (omega arith)
edges_next i (v ∷ vs) [] some more = absurd (omega arith)
edges_next zero (v ∷ vs) (w ∷ ws) some more = first (beq v w)
  where
    first : (same : Bool) → 0 + bool_byte (not same) ≡ cond same 0 (1 + 0)
    first true = refl
    first false = refl
edges_next (suc i) (v ∷ vs) (w ∷ ws) some more = rest _ _ _ (beq v w) (edges_next i vs ws (omega arith) (omega arith))
  where
    rest : (seen one all : ℕ) (same : Bool) → seen + one ≡ all → cond same seen (1 + seen) + one ≡ cond same all (1 + all)
    rest seen one all true is = is
    rest seen one all false is = omega arith

pub one_at_most : (b : Bool) → bool_byte b ≤ 1
one_at_most true = omega arith
one_at_most false = omega arith
