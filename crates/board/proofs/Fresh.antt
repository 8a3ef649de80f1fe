-- The inputs of a new board stand where its devices' levels put them.
use Rattle.std.proofs.Common.{◌≡◌, ℕ, zero, suc, ◌+◌, ◌<◌, Bool, true, false, cond, eqb, List, [], ◌∷◌, length, sym, refl, ap, ◌∙◌, ap₂, ⊎_elim, arith, eq-eqb, ne_eqb}
use Rattle.std.proofs.lemmas.Bool.{cases_eq}
use Rattle.rules.specs.I8259.{Pair, Chip, bit, with_bit, inputs_below, standing_chip, standing_pair, cascade_input, drive_lines, drive_below, first_from}
use Rattle.rules.specs.Board.{lines, on_line}
use Rattle.board.proofs.Wiring.{four}

inputs_same : (n : ℕ) (f g : ℕ → Bool) → ((i : ℕ) → i < n → f i ≡ g i) → inputs_below n f ≡ inputs_below n g
unfolding inputs_below
inputs_same zero f g same = refl
inputs_same (suc n) f g same =
    ap₂ (λ b x. cond b (with_bit x n) x) (same n (omega arith)) (inputs_same n f g (λ i h. same i (omega arith)))

pub standing_same : (f g : ℕ → Bool) → ((l : ℕ) → l < 16 → f l ≡ g l) → standing_pair f ≡ standing_pair g
standing_same f g same =
    let chip : ℕ → Chip = λ x. record { inputs = x; irr = 0; isr = 0; imr = 0; base = 0; lowest = 7; read_isr = false; stage = Rattle.rules.specs.I8259.Stage.idle } in
    let pair : ℕ → ℕ → Pair = λ x y. record { master = chip x; slave = chip y } in
    ap₂ pair (inputs_same 8 f g (λ i h. same i (omega arith))) (inputs_same 8 (λ i. f (8 + i)) (λ i. g (8 + i)) (λ i h. same (8 + i) (omega arith)))

-- No slot is wired to the cascade's line.
no_cascade : (levels : List Bool) → length levels ≡ 4 → on_line lines levels cascade_input ≡ false
unfolding on_line
no_cascade = four (λ levels. on_line lines levels cascade_input ≡ false) (λ a b c d. refl)

pub cascade_low : (word : ℕ) (levels : List Bool) → length levels ≡ 4 → ((l : ℕ) → l < 16 → bit word l ≡ on_line lines levels l)
    → (l : ℕ) → l < 16 → cond (eqb l cascade_input) false (bit word l) ≡ on_line lines levels l
cascade_low word levels all driven l h =
    ⊎_elim
    (λ at. ap (λ t. cond t false (bit word l)) (eq-eqb l cascade_input at) ∙ sym (ap (on_line lines levels) at ∙ no_cascade levels all))
    (λ off. ap (λ t. cond t false (bit word l)) (ne_eqb l cascade_input off) ∙ driven l h)
    (cases_eq l cascade_input)

-- A new board's controllers stand at its levels already: driven to them, they stay as they are. The sixteen cases are computed.
driven_at : (a b c d : Bool) → drive_lines (on_line lines (a ∷ b ∷ c ∷ d ∷ [])) (standing_pair (on_line lines (a ∷ b ∷ c ∷ d ∷ []))) ≡ standing_pair (on_line lines (a ∷ b ∷ c ∷ d ∷ []))
unfolding on_line drive_below inputs_below first_from
driven_at true true true true = refl
driven_at true true true false = refl
driven_at true true false true = refl
driven_at true true false false = refl
driven_at true false true true = refl
driven_at true false true false = refl
driven_at true false false true = refl
driven_at true false false false = refl
driven_at false true true true = refl
driven_at false true true false = refl
driven_at false true false true = refl
driven_at false true false false = refl
driven_at false false true true = refl
driven_at false false true false = refl
driven_at false false false true = refl
driven_at false false false false = refl

pub standing_driven : (levels : List Bool) → length levels ≡ 4 → drive_lines (on_line lines levels) (standing_pair (on_line lines levels)) ≡ standing_pair (on_line lines levels)
standing_driven = four (λ levels. drive_lines (on_line lines levels) (standing_pair (on_line lines levels)) ≡ standing_pair (on_line lines levels)) driven_at
