-- The inputs that stand at their levels, set one after the other, are the byte of the levels.
use Rattle.std.proofs.Common.{◌≡◌, ℕ, zero, suc, ◌+◌, ◌-◌, ◌%◌, ◌^◌, ◌<◌, ◌≤◌, Bool, true, false, cond, eqb, ltb, sym, ap, ◌∙◌, arith}
use lib.Bits.{and_le_l}
use Rattle.std.proofs.lemmas.Bool.{ne_eqb, lt-ltb, le-ltb}
use Rattle.rules.specs.I8259.{bit, with_bit, Chip, inputs_below, standing_pair, cascade_input}
use Rattle.i8259.specs.Views.{standing, master_levels, slave_levels}
use Rattle.i8259.proofs.Bytes.{zero_bit, same_byte}
use Rattle.i8259.proofs.Driven.{put_one, kept, with_small, merge}
use Rattle.i8259.proofs.Lines.{master_bit, slave_bit}

module _ (level : ℕ → Bool) where
  small_step : (b : Bool) (x i : ℕ) → i < 8 → x < 256 → cond b (with_bit x i) x < 256
  small_step true x i hi h = with_small x i hi h
  small_step false x i hi h = h

  standing_small : (n : ℕ) → n ≤ 8 → inputs_below n level < 256
  unfolding inputs_below
  standing_small zero h = omega arith
  standing_small (suc n) h = small_step (level n) (inputs_below n level) n h (standing_small n (omega arith))

  bit_step : (b : Bool) (x i j : ℕ) → i < 8 → j < 8 → bit x i ≡ false → bit (cond b (with_bit x i) x) j ≡ cond (eqb i j) b (bit x j)
  bit_step true x i j hi hj e = put_one i j hi hj x
  bit_step false x i j hi hj e = kept x i j false e

  standing_bit : (n j : ℕ) → n ≤ 8 → j < 8 → bit (inputs_below n level) j ≡ cond (ltb j n) (level j) false
  unfolding inputs_below
  standing_bit zero j hn hj = rw (le-ltb j 0 (omega arith)) (zero_bit j)
  standing_bit (suc n) j hn hj =
      let here : bit (inputs_below n level) n ≡ false = standing_bit n n (omega arith) hn ∙ ap (λ t. cond t (level n) false) (le-ltb n n (omega arith)) in
      bit_step (level n) (inputs_below n level) n j hn hj here
      ∙ (ap (λ b. cond (eqb n j) (level n) b) (standing_bit n j (omega arith) hj) ∙ merge level false n j)

  -- A byte whose bits are the levels.
  standing_byte : (x : ℕ) → x < 256 → ((j : ℕ) → j < 8 → bit x j ≡ level j) → x ≡ inputs_below 8 level
  standing_byte x h bits =
      same_byte x (inputs_below 8 level) h (standing_small 8 (omega arith))
      (λ j hj. bits j hj ∙ sym (standing_bit 8 j (omega arith) hj ∙ ap (λ t. cond t (level j) false) (lt-ltb j 8 hj)))

pub lines_stand : (lines : ℕ) (master slave : Chip) → lines < 65536
    → master ≡ standing (master_levels lines false) → slave ≡ standing (slave_levels lines)
    → record { master = master; slave = slave } ≡ standing_pair (λ l. cond (eqb l cascade_input) false (bit lines l))
lines_stand lines master slave h m s =
    let low : master_levels lines false < 256 = omega (arith, and_le_l (lines % 256) (255 - 2 ^ 2)) in
    let m' : master_levels lines false ≡ inputs_below 8 (λ l. cond (eqb l cascade_input) false (bit lines l)) =
    standing_byte (λ l. cond (eqb l cascade_input) false (bit lines l)) (master_levels lines false) low (λ j hj. master_bit lines j false hj) in
    let s' : slave_levels lines ≡ inputs_below 8 (λ i. cond (eqb (8 + i) cascade_input) false (bit lines (8 + i))) =
    standing_byte (λ i. cond (eqb (8 + i) cascade_input) false (bit lines (8 + i))) (slave_levels lines) (omega arith)
    (λ j hj. slave_bit lines j ∙ rw (ne_eqb (8 + j) 2 (omega arith))) in
    λ i. record { master = (m ∙ ap standing m') i; slave = (s ∙ ap standing s') i }
