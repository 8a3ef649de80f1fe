-- The sixteen lines as one number: its two bytes are the levels of the two chips' inputs.
use Rattle.std.proofs.Common.{◌≡◌, ℕ, ◌+◌, ◌*◌, ◌/◌, ◌%◌, ◌^◌, ◌<◌, Bool, true, false, cond, eqb, sym, ap, ◌∙◌, arith}
use Rattle.std.proofs.lemmas.Nat.{shr-shr}
use Rattle.std.proofs.lemmas.Bool.Decides.{nat_tests}
use Rattle.std.proofs.lemmas.Nat.Bits.{bit_at_cat_low}
use Rattle.rules.specs.I8259.{bit, Chip, Pair, requests, drive_below, drive_lines, cascade_input}
use Rattle.i8259.specs.Views.{master_levels, slave_levels}
use Rattle.i8259.proofs.Driven.{put_one, put_zero, same_levels}

pub slave_bit : (lines j : ℕ) → bit (slave_levels lines) j ≡ bit lines (8 + j)
slave_bit lines j = ap (λ n. eqb (n % 2) 1) (shr-shr lines 8 j)

low_bit : (n j : ℕ) → j < 8 → bit (n % 256) j ≡ bit n j
low_bit n j h =
    let parts : n / 256 * 2 ^ 8 + n % 256 ≡ n = omega arith in
    ap (λ m. eqb m 1) (sym (bit_at_cat_low (n / 256) 8 (n % 256) j h)) ∙ ap (λ m. bit m j) parts

eqb_comm : (i j : ℕ) → eqb i j ≡ eqb j i
eqb_comm i j = grind (arith, nat_tests)

pub master_bit : (lines j : ℕ) (slave_requests : Bool) → j < 8 → bit (master_levels lines slave_requests) j ≡ cond (eqb j cascade_input) slave_requests (bit lines j)
master_bit lines j true h =
    put_one 2 j (omega arith) h (lines % 256) ∙ (λ i. cond (eqb_comm 2 j i) true (low_bit lines j h i))
master_bit lines j false h =
    put_zero 2 j (omega arith) h (lines % 256) ∙ (λ i. cond (eqb_comm 2 j i) false (low_bit lines j h i))

pub lines_driven : (lines : ℕ) (p : Pair) (slave master : Chip) (slave_requests : Bool)
    → slave ≡ drive_below 8 (bit (slave_levels lines)) p.slave → slave_requests ≡ requests slave
    → master ≡ drive_below 8 (bit (master_levels lines slave_requests)) p.master
    → record { master = master; slave = slave } ≡ drive_lines (bit lines) p
lines_driven lines p slave master slave_requests s r m =
    let s' : slave ≡ drive_below 8 (λ i. bit lines (8 + i)) p.slave =
    s ∙ same_levels 8 (bit (slave_levels lines)) (λ i. bit lines (8 + i)) p.slave (λ j h. slave_bit lines j) in
    let m' : master ≡ drive_below 8 (λ i. cond (eqb i cascade_input) (requests slave) (bit lines i)) p.master =
    m ∙ same_levels 8 (bit (master_levels lines slave_requests)) (λ i. cond (eqb i cascade_input) (requests slave) (bit lines i)) p.master
    (λ j h. master_bit lines j slave_requests h ∙ ap (λ b. cond (eqb j cascade_input) b (bit lines j)) r) in
    let m'' : master ≡ drive_below 8 (λ i. cond (eqb i cascade_input) (requests (drive_below 8 (λ i. bit lines (8 + i)) p.slave)) (bit lines i)) p.master =
    m' ∙ ap (λ c. drive_below 8 (λ i. cond (eqb i cascade_input) (requests c) (bit lines i)) p.master) s' in
    λ i. record { master = m'' i; slave = s' i }
