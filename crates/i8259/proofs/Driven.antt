-- Driving the eight inputs one after the other is byte arithmetic: bit by bit, each step writes its own bit alone.
use Rattle.std.proofs.Common.{◌≡◌, ℕ, zero, suc, ◌-◌, ◌^◌, ◌<◌, ◌≤◌, Bool, true, false, cond, eqb, ltb, sym, refl, ap, ◌∙◌, ap₂, arith}
use lib.Bits.{bit_and, bit_or, and_le_l, or_lt}
use Rattle.std.proofs.lemmas.Nat.{pow_below}
use Rattle.std.proofs.lemmas.Bool.Decides.{nat_tests}
use Rattle.std.proofs.lemmas.Bool.{lt-ltb, le-ltb}
use Rattle.rules.specs.I8259.{bit, with_bit, without_bit, Chip, Stage, drive, drive_below}
use Rattle.i8259.proofs.Bytes.{complement_bit, and_bit, or_bit, with_bit_bit, without_bit_bit, same_byte}

-- An input's request bit after its level is given, from its level before and its request bit before.
abbrev requested : Bool → Bool → Bool → Bool
requested true true r = r
requested true false r = true
requested false true r = false
requested false false r = r

abbrev Rest : Type 0
Rest = ℕ × ℕ × ℕ × ℕ × Bool × Stage

rest : Chip → Rest
rest c = (c.isr, c.imr, c.base, c.lowest, c.read_isr, c.stage)

build : ℕ → ℕ → Rest → Chip
build inputs irr r = record { inputs = inputs; irr = irr; isr = r.0; imr = r.1; base = r.2; lowest = r.3; read_isr = r.4; stage = r.5 }

-- One input driven, by its level before.
driven : ℕ → Bool → Bool → Chip → Chip
driven i level was c =
    cond level
    (cond was c (build (with_bit c.inputs i) (with_bit c.irr i) (rest c)))
    (cond was (build (without_bit c.inputs i) (without_bit c.irr i) (rest c)) c)

rest_step : (i : ℕ) (level was : Bool) (c : Chip) → rest (driven i level was c) ≡ rest c
unfolding rest build driven
rest_step i level was c = grind arith

-- A bit among those that one step writes or keeps.
pub kept : (x i j : ℕ) (b : Bool) → bit x i ≡ b → bit x j ≡ cond (eqb i j) b (bit x j)
kept x i j b e = grind (arith, nat_tests)

module _ (i j : ℕ) (hi : i < 8) (hj : j < 8) where
  pub put_one : (x : ℕ) → bit (with_bit x i) j ≡ cond (eqb i j) true (bit x j)
  put_one x = grind (arith, with_bit_bit x i j hi hj)

  pub put_zero : (x : ℕ) → bit (without_bit x i) j ≡ cond (eqb i j) false (bit x j)
  put_zero x = grind (arith, without_bit_bit x i j hi hj)

  input_step : (level was : Bool) (c : Chip) → bit c.inputs i ≡ was → bit (driven i level was c).inputs j ≡ cond (eqb i j) level (bit c.inputs j)
  unfolding rest build driven
  input_step true true c e = kept c.inputs i j true e
  input_step true false c e = put_one c.inputs
  input_step false true c e = put_zero c.inputs
  input_step false false c e = kept c.inputs i j false e

  request_step : (level was : Bool) (c : Chip) → bit (driven i level was c).irr j ≡ cond (eqb i j) (requested level was (bit c.irr i)) (bit c.irr j)
  unfolding rest build driven
  request_step true true c = kept c.irr i j (bit c.irr i) refl
  request_step true false c = put_one c.irr
  request_step false true c = put_zero c.irr
  request_step false false c = kept c.irr i j (bit c.irr i) refl

pub with_small : (x i : ℕ) → i < 8 → x < 256 → with_bit x i < 256
with_small x i hi h = or_lt 8 x (2 ^ i) h (pow_below i 8 hi)

without_small : (x i : ℕ) → x < 256 → without_bit x i < 256
without_small x i h = omega (arith, and_le_l x (255 - 2 ^ i))

abbrev Small : Chip → Type 0
Small c = (c.inputs < 256) × (c.irr < 256)

small_step : (i : ℕ) (level was : Bool) (c : Chip) → i < 8 → Small c → Small (driven i level was c)
unfolding rest build driven
small_step i true true c hi s = s
small_step i true false c hi s = (with_small c.inputs i hi s.0, with_small c.irr i hi s.1)
small_step i false true c hi s = (without_small c.inputs i s.0, without_small c.irr i s.1)
small_step i false false c hi s = s

-- What holds of the inputs below n, and of input n, holds below n + 1.
pub merge : (f : ℕ → Bool) (b : Bool) (n j : ℕ) → cond (eqb n j) (f n) (cond (ltb j n) (f j) b) ≡ cond (ltb j (suc n)) (f j) b
merge f b n j = grind (arith, nat_tests)

module _ (level : ℕ → Bool) (c : Chip) where
  after : ℕ → Chip
  after n = drive_below n level c

  rest_after : (n : ℕ) → rest (after n) ≡ rest c
  unfolding rest build driven after drive_below
  rest_after zero = refl
  rest_after (suc n) = rest_step n (level n) (bit (after n).inputs n) (after n) ∙ rest_after n

  small_after : (n : ℕ) → n ≤ 8 → Small c → Small (after n)
  unfolding rest build driven after drive_below
  small_after zero h s = s
  small_after (suc n) h s = small_step n (level n) (bit (after n).inputs n) (after n) h (small_after n (omega arith) s)

  input_after : (n j : ℕ) → n ≤ 8 → j < 8 → bit (after n).inputs j ≡ cond (ltb j n) (level j) (bit c.inputs j)
  unfolding rest build driven after drive_below
  input_after zero j hn hj = rw (le-ltb j 0 (omega arith))
  input_after (suc n) j hn hj =
      input_step n j hn hj (level n) (bit (after n).inputs n) (after n) refl
      ∙ (ap (λ b. cond (eqb n j) (level n) b) (input_after n j (omega arith) hj) ∙ merge level (bit c.inputs j) n j)

  now_requested : ℕ → Bool
  now_requested j = requested (level j) (bit c.inputs j) (bit c.irr j)

  request_after : (n j : ℕ) → n ≤ 8 → j < 8 → bit (after n).irr j ≡ cond (ltb j n) (now_requested j) (bit c.irr j)
  unfolding rest build driven after drive_below now_requested
  request_after zero j hn hj = rw (le-ltb j 0 (omega arith))
  request_after (suc n) j hn hj =
      let here : ltb n n ≡ false = le-ltb n n (omega arith) in
      let input : bit (after n).inputs n ≡ bit c.inputs n = input_after n n (omega arith) hn ∙ ap (λ t. cond t (level n) (bit c.inputs n)) here in
      let request : bit (after n).irr n ≡ bit c.irr n = request_after n n (omega arith) hn ∙ ap (λ t. cond t (now_requested n) (bit c.irr n)) here in
      request_step n j hn hj (level n) (bit (after n).inputs n) (after n)
      ∙ ((λ i. cond (eqb n j) (requested (level n) (input i) (request i)) (request_after n j (omega arith) hj i)) ∙ merge now_requested (bit c.irr j) n j)

  input_all : (j : ℕ) → j < 8 → bit (after 8).inputs j ≡ level j
  input_all j h = input_after 8 j (omega arith) h ∙ ap (λ t. cond t (level j) (bit c.inputs j)) (lt-ltb j 8 h)

  request_all : (j : ℕ) → j < 8 → bit (after 8).irr j ≡ now_requested j
  request_all j h = request_after 8 j (omega arith) h ∙ ap (λ t. cond t (now_requested j) (bit c.irr j)) (lt-ltb j 8 h)

-- Once all inputs are given their levels, each stands at its own.
pub inputs_driven : (level : ℕ → Bool) (c : Chip) (j : ℕ) → j < 8 → bit (drive_below 8 level c).inputs j ≡ level j
unfolding after
inputs_driven level c = input_all level c

-- The request bits after all inputs are given their levels: rises set theirs, falls clear theirs.
abbrev pub requests_after : ℕ → ℕ → ℕ → ℕ
requests_after levels inputs irr = bit_and (bit_or irr (bit_and levels (255 - inputs))) (255 - bit_and inputs (255 - levels))

requests_bit : (levels inputs irr j : ℕ) → levels < 256 → inputs < 256 → j < 8 → bit (requests_after levels inputs irr) j ≡ requested (bit levels j) (bit inputs j) (bit irr j)
requests_bit levels inputs irr j hl hi hj =
    grind (
      arith,
      and_le_l inputs (255 - levels),
      and_bit (bit_or irr (bit_and levels (255 - inputs))) (255 - bit_and inputs (255 - levels)) j,
      or_bit irr (bit_and levels (255 - inputs)) j,
      and_bit levels (255 - inputs) j,
      and_bit inputs (255 - levels) j,
      complement_bit inputs j hi hj,
      complement_bit levels j hl hj,
      complement_bit (bit_and inputs (255 - levels)) j (omega (arith, and_le_l inputs (255 - levels))) hj,
    )

requests_small : (levels inputs irr : ℕ) → levels < 256 → irr < 256 → requests_after levels inputs irr < 256
requests_small levels inputs irr hl hr =
    omega (
      arith,
      and_le_l (bit_or irr (bit_and levels (255 - inputs))) (255 - bit_and inputs (255 - levels)),
      or_lt 8 irr (bit_and levels (255 - inputs)) hr (omega (arith, and_le_l levels (255 - inputs))),
    )

pub all_driven : (levels : ℕ) (c : Chip) → levels < 256 → c.inputs < 256 → c.irr < 256
    → record { inputs = levels; irr = requests_after levels c.inputs c.irr; isr = c.isr; imr = c.imr; base = c.base; lowest = c.lowest; read_isr = c.read_isr; stage = c.stage } ≡ drive_below 8 (bit levels) c
unfolding rest build after now_requested
all_driven levels c hl hi hr =
    let small : Small (after (bit levels) c 8) = small_after (bit levels) c 8 (omega arith) (hi, hr) in
    let inputs : (after (bit levels) c 8).inputs ≡ levels = same_byte (after (bit levels) c 8).inputs levels small.0 hl (input_all (bit levels) c) in
    let irr : (after (bit levels) c 8).irr ≡ requests_after levels c.inputs c.irr =
    same_byte (after (bit levels) c 8).irr (requests_after levels c.inputs c.irr) small.1 (requests_small levels c.inputs c.irr hl hr)
    (λ j hj. request_all (bit levels) c j hj ∙ sym (requests_bit levels c.inputs c.irr j hl hi hj)) in
    sym (λ i. build (inputs i) (irr i) (rest_after (bit levels) c 8 i))

-- Only the levels of the inputs below n matter.
pub same_levels : (n : ℕ) (f g : ℕ → Bool) (c : Chip) → ((j : ℕ) → j < n → f j ≡ g j) → drive_below n f c ≡ drive_below n g c
unfolding drive_below
same_levels zero f g c h = refl
same_levels (suc n) f g c h = ap₂ (drive n) (h n (omega arith)) (same_levels n f g c (λ j hj. h j (omega arith)))
