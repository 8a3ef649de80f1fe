-- The bits of a byte: each operation bit by bit, and a byte is known by its eight bits.
use Rattle.std.proofs.Common.{◌≡◌, ℕ, ◌-◌, ◌^◌, ◌<◌, false, not, ◌&&◌, ◌||◌, eqb, min, max, sym, refl, ap, ◌∙◌, subst, inl, inr, arith}
use lib.Bits.{bit_and, bit_or}
use Rattle.std.specs.Int.{w8, bit_at}
use Rattle.std.proofs.lemmas.Nat.{pow_below}
use Rattle.std.proofs.lemmas.Nat.Bits.{bit_at-lt, bit_at-zero, bit_at_and, bit_at_or, bit_at_not, bit_at-pow_same, bit_at-pow_other, same_from_bits_below}
use Rattle.std.proofs.lemmas.Bool.{cases_eq, eq-eqb, ne_eqb}
use Rattle.std.proofs.lemmas.Bool.Decides.{nat_tests}
use Rattle.rules.specs.I8259.{bit, with_bit, without_bit}

-- The test of a bit, as the operations change it.
tested_not : (a : ℕ) → a < 2 → eqb (1 - a) 1 ≡ not (eqb a 1)
tested_not a h = grind (arith, nat_tests)

tested_and : (a b : ℕ) → a < 2 → b < 2 → eqb (min a b) 1 ≡ (eqb a 1 && eqb b 1)
tested_and a b ha hb = grind (arith, nat_tests)

tested_or : (a b : ℕ) → a < 2 → b < 2 → eqb (max a b) 1 ≡ (eqb a 1 || eqb b 1)
tested_or a b ha hb = grind (arith, nat_tests)

tested_same : (a b : ℕ) → a < 2 → b < 2 → eqb a 1 ≡ eqb b 1 → a ≡ b
tested_same a b ha hb e = grind (arith, nat_tests)

pub zero_bit : (j : ℕ) → bit 0 j ≡ false
zero_bit j = ap (λ n. eqb n 1) (bit_at-zero j)

pub complement_bit : (x j : ℕ) → x < 256 → j < 8 → bit (255 - x) j ≡ not (bit x j)
complement_bit x j hx hj = ap (λ n. eqb n 1) (bit_at_not w8 x j hx hj) ∙ tested_not (bit_at x j) (bit_at-lt x j)

power_bit : (i j : ℕ) → bit (2 ^ i) j ≡ eqb i j
power_bit i j =
    elim (cases_eq i j) [
      | inl e ↦ subst (λ k. bit (2 ^ i) k ≡ eqb i k) e (ap (λ n. eqb n 1) (bit_at-pow_same i) ∙ sym (eq-eqb i i refl))
      | inr d ↦ ap (λ n. eqb n 1) (bit_at-pow_other i j (λ e. d (sym e))) ∙ sym (ne_eqb i j d)
    ]

pub and_bit : (x y j : ℕ) → bit (bit_and x y) j ≡ (bit x j && bit y j)
and_bit x y j = ap (λ n. eqb n 1) (bit_at_and x y j) ∙ tested_and (bit_at x j) (bit_at y j) (bit_at-lt x j) (bit_at-lt y j)

pub or_bit : (x y j : ℕ) → bit (bit_or x y) j ≡ (bit x j || bit y j)
or_bit x y j = ap (λ n. eqb n 1) (bit_at_or x y j) ∙ tested_or (bit_at x j) (bit_at y j) (bit_at-lt x j) (bit_at-lt y j)

pub with_bit_bit : (x i j : ℕ) → i < 8 → j < 8 → bit (with_bit x i) j ≡ (bit x j || eqb i j)
with_bit_bit x i j hi hj = or_bit x (2 ^ i) j ∙ ap (λ b. bit x j || b) (power_bit i j)

pub without_bit_bit : (x i j : ℕ) → i < 8 → j < 8 → bit (without_bit x i) j ≡ (bit x j && not (eqb i j))
without_bit_bit x i j hi hj =
    and_bit x (255 - 2 ^ i) j ∙ ap (λ b. bit x j && b) (complement_bit (2 ^ i) j (pow_below i 8 hi) hj ∙ ap not (power_bit i j))

-- A byte is known by its bits.
pub same_byte : (x y : ℕ) → x < 256 → y < 256 → ((j : ℕ) → j < 8 → bit x j ≡ bit y j) → x ≡ y
same_byte x y hx hy h =
    same_from_bits_below 8 x y hx hy (λ j hj. tested_same (bit_at x j) (bit_at y j) (bit_at-lt x j) (bit_at-lt y j) (h j hj))
