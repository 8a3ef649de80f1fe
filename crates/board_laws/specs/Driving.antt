-- Driving the inputs once more to the levels that they have changes nothing.
use Rattle.std.specs.Prelude.{◌≡◌, ℕ, zero, suc, ◌+◌, ◌<◌, Bool, true, false, cond, ◌==◌, refl}
use Rattle.std.proofs.Common.{ap, ap₂, ◌∙◌, arith}
use Rattle.rules.specs.I8259.{Chip, Pair, bit, drive, drive_below, drive_slave, drive_master, drive_lines, requests, cascade_input}
use Rattle.i8259.proofs.Driven.{inputs_driven, same_levels}

-- Each input below n of the chip stands at its level.
abbrev pub Stands : ℕ → (ℕ → Bool) → Chip → Type 0
Stands n level c = (i : ℕ) → i < n → bit c.inputs i ≡ level i

drive_standing : (i : ℕ) (v : Bool) (c : Chip) → bit c.inputs i ≡ v → drive i v c ≡ c
drive_standing i true c e = rw e
drive_standing i false c e = rw e

drive_below_standing : (n : ℕ) (level : ℕ → Bool) (c : Chip) → Stands n level c → drive_below n level c ≡ c
unfolding drive_below
drive_below_standing zero level c s = refl
drive_below_standing (suc n) level c s =
    ap (drive n (level n)) (drive_below_standing n level c (λ i h. s i (omega arith))) ∙ drive_standing n (level n) c (s n (omega arith))

drive_below_again : (level : ℕ → Bool) (c : Chip) → drive_below 8 level (drive_below 8 level c) ≡ drive_below 8 level c
drive_below_again level c = drive_below_standing 8 level (drive_below 8 level c) (inputs_driven level c)

pub drive_lines_again : (line : ℕ → Bool) (p : Pair) → drive_lines line (drive_lines line p) ≡ drive_lines line p
drive_lines_again line p =
    let slave = drive_slave line p.slave in
    let again : drive_slave line slave ≡ slave = drive_below_again (λ i. line (8 + i)) p.slave in
    let pair : Chip → Pair = λ s. record { master = drive_master line (requests s) (drive_master line (requests slave) p.master); slave = s } in
    ap pair again ∙ ap (λ m. record { master = m; slave = slave }) (drive_below_again (λ i. cond (i == cascade_input) (requests slave) (line i)) p.master)

-- Only the levels of the sixteen lines count.
pub drive_lines_same : (f g : ℕ → Bool) (p : Pair) → ((l : ℕ) → l < 16 → f l ≡ g l) → drive_lines f p ≡ drive_lines g p
drive_lines_same f g p same =
    let slave : drive_slave f p.slave ≡ drive_slave g p.slave = same_levels 8 (λ i. f (8 + i)) (λ i. g (8 + i)) p.slave (λ i h. same (8 + i) (omega arith)) in
    let master : (b : Bool) → drive_master f b p.master ≡ drive_master g b p.master = λ b.
    same_levels 8 (λ i. cond (i == cascade_input) b (f i)) (λ i. cond (i == cascade_input) b (g i)) p.master (λ i h. ap (λ v. cond (i == cascade_input) b v) (same i (omega arith))) in
    let pair : Chip → Chip → Pair = λ m s. record { master = m; slave = s } in
    ap₂ pair (master (requests (drive_slave f p.slave)) ∙ ap (λ s. drive_master g (requests s) p.master) slave) slave
