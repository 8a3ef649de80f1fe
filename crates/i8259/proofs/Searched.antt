-- The rules' priority search: its steps, and that what it finds comes first.
use Rattle.std.proofs.Common.{◌≡◌, ℕ, zero, suc, ◌+◌, ◌%◌, ◌<◌, Bool, true, false, cond, Some, None, Option, sym, refl, ap, ◌∙◌, subst, inl, inr, arith}
use Rattle.std.proofs.lemmas.Bool.{cases_lt, both_ways}
use Rattle.std.specs.List.{find, range_with_len}
use Rattle.std.specs.Prelude.{map}
use Rattle.rules.specs.I8259.{bit, rank, first_from, first}
use Rattle.i8259.specs.Priority.{ComesFirst}
use Rattle.i8259.proofs.Bytes.{zero_bit}

pub found_nothing : (n i : ℕ) → first_from n i 0 ≡ None
unfolding first_from
found_nothing zero i = refl
found_nothing (suc n) i = ap (λ b. cond b (Some i) (first_from n ((i + 1) % 8) 0)) (zero_bit i) ∙ found_nothing n ((i + 1) % 8)

-- The rules' search is the search of the list of the inputs in turn.
over_turns : (n k lowest register : ℕ)
    → find (bit register) (map (λ j. (lowest + 1 + j) % 8) (range_with_len k n)) ≡ first_from n ((lowest + 1 + k) % 8) register
unfolding first_from
over_turns zero k lowest register = refl
over_turns (suc n) k lowest register =
    let i : ℕ = (lowest + 1 + k) % 8 in
    let next : (lowest + 1 + (k + 1)) % 8 ≡ (i + 1) % 8 = omega arith in
    ap (λ r. cond (bit register i) (Some i) r) (over_turns n (k + 1) lowest register ∙ ap (λ j. first_from n j register) next)

pub in_turn : (lowest register : ℕ) → find (bit register) (map (λ j. (lowest + 1 + j) % 8) (range_with_len 0 8)) ≡ first lowest register
in_turn lowest register =
    let start : (lowest + 1 + 0) % 8 ≡ (lowest + 1) % 8 = omega arith in
    over_turns 8 0 lowest register ∙ ap (λ i. first_from 8 i register) start

step : (b : Bool) (k lowest register : ℕ) (rest : Option ℕ) → lowest < 8 → k < 8
    → ((j : ℕ) → j < 8 → rank lowest j < k → bit register j ≡ false) → bit register ((lowest + 1 + k) % 8) ≡ b
    → (((j : ℕ) → j < 8 → rank lowest j < suc k → bit register j ≡ false) → ComesFirst lowest register rest)
    → ComesFirst lowest register (cond b (Some ((lowest + 1 + k) % 8)) rest)
step true k lowest register rest hl hk before is after =
    (omega arith, is, λ j hj set. elim (cases_lt (rank lowest j) k) [ inl l ↦ absurd (both_ways (bit register j) (before j hj l) set) | inr g ↦ omega arith ])
step false k lowest register rest hl hk before is after =
    after (λ j hj l. elim (cases_lt (rank lowest j) k) [ inl m ↦ before j hj m | inr g ↦ (let e : (lowest + 1 + k) % 8 ≡ j = omega arith in subst (λ n. bit register n ≡ false) e is) ])

from : (n k lowest register : ℕ) → lowest < 8 → n + k ≡ 8 → ((j : ℕ) → j < 8 → rank lowest j < k → bit register j ≡ false)
    → ComesFirst lowest register (first_from n ((lowest + 1 + k) % 8) register)
unfolding first_from
from zero k lowest register hl e before = λ j hj. before j hj (omega arith)
from (suc n) k lowest register hl e before =
    step (bit register ((lowest + 1 + k) % 8)) k lowest register (first_from n (((lowest + 1 + k) % 8 + 1) % 8) register) hl (omega arith) before refl
    (λ more. let s : (lowest + 1 + suc k) % 8 ≡ ((lowest + 1 + k) % 8 + 1) % 8 = omega arith in
    subst (λ i. ComesFirst lowest register (first_from n i register)) s (from n (suc k) lowest register hl (omega arith) more))

-- What the search finds comes first.
pub finds_first : (lowest register : ℕ) → lowest < 8 → ComesFirst lowest register (first lowest register)
finds_first lowest register h =
    let s : (lowest + 1 + 0) % 8 ≡ (lowest + 1) % 8 = omega arith in
    subst (λ i. ComesFirst lowest register (first_from 8 i register)) s (from 8 0 lowest register h refl (λ j hj l. absurd (omega arith)))

pub answers_first : (lowest register : ℕ) (r : Option ℕ) → lowest < 8 → r ≡ first lowest register → ComesFirst lowest register r
answers_first lowest register r h e = subst (ComesFirst lowest register) (sym e) (finds_first lowest register h)
