-- What a priority search and a request check answer, in terms of bits and ranks alone.
use Rattle.std.specs.Prelude.{◌≡◌, ℕ, ◌<◌, ◌≤◌, true, false, Some, None, Option}
use Rattle.rules.specs.I8259.{bit, rank, Chip, initialised}

-- An input that is found is a set bit that no set bit precedes, and where none is found no bit is set.
abbrev pub ComesFirst : ℕ → ℕ → Option ℕ → Type 0
ComesFirst lowest register (Some i) = (i < 8) × (bit register i ≡ true) × ((j : ℕ) → j < 8 → bit register j ≡ true → rank lowest i ≤ rank lowest j)
ComesFirst lowest register None = (j : ℕ) → j < 8 → bit register j ≡ false

-- An input asks if its request bit is set and not masked.
pub record Asks (c : Chip) (i : ℕ) : Type 0 where
  pub input : i < 8
  pub requested : bit c.irr i ≡ true
  pub unmasked : bit c.imr i ≡ false

-- The requesting input asks, no other that asks precedes it, and it precedes every input in service, masked or not. Where
-- there is none, the chip is not initialised, or each input that asks has one in service at or before it.
abbrev pub Requesting : Chip → Option ℕ → Type 0
Requesting c (Some i) =
    (initialised c.stage ≡ true)
    × Asks c i
    × ((j : ℕ) → Asks c j → rank c.lowest i ≤ rank c.lowest j)
    × ((j : ℕ) → j < 8 → bit c.isr j ≡ true → rank c.lowest i < rank c.lowest j)
Requesting c None =
    initialised c.stage ≡ true → (j : ℕ) → Asks c j → (k : ℕ) × (k < 8) × (bit c.isr k ≡ true) × (rank c.lowest k ≤ rank c.lowest j)
