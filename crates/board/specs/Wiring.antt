-- How the levels of the slots reach the interrupt lines.
use Rattle.std.specs.Prelude.{ℕ, ◌^◌, Bool, cond, bit_or}

-- a line's bit, set where its level is 1
abbrev pub with_line : ℕ → ℕ → Bool → ℕ
with_line found line level = cond level (bit_or found (2 ^ line)) found
