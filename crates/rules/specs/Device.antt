-- What a device is to the board, and the two devices that every board can have: the empty one and the divider.
use Rattle.std.specs.Prelude.{◌≡◌, ℕ, zero, suc, ◌+◌, ◌^◌, ◌<◌, ◌≤◌, Bool, false, cond, ◌≢◌, Some, None, Option, nat_lt}

-- The meaning of a kind of device with states S. A level is `true` for 1. Nothing in a device refuses.
pub record Meaning (S : Type 0) : Type 0 where
  -- how many ports it has, from its first port on
  pub width : ℕ
  -- the state one tick later
  pub tick : S → S
  -- the level of its request line
  pub level : S → Bool
  -- the byte that a read of an offset gives, and the state after that read
  pub byte_read : S → ℕ → ℕ
  pub after_read : S → ℕ → S
  -- the state after a write at an offset of a byte
  pub after_write : S → ℕ → ℕ → S

-- What every kind of device keeps: one to eight ports; past them a read gives FFh and no access does anything.
pub record Lawful {S : Type 0} (m : Meaning S) : Type 0 where
  pub some_port : 1 ≤ m.width
  pub few_ports : m.width ≤ 8
  pub past_reads : (s : S) (offset : ℕ) → m.width ≤ offset → m.byte_read s offset ≡ 255
  pub past_read_keeps : (s : S) (offset : ℕ) → m.width ≤ offset → m.after_read s offset ≡ s
  pub past_write_keeps : (s : S) (offset byte : ℕ) → m.width ≤ offset → m.after_write s offset byte ≡ s

-- The state n ticks later.
unfoldable pub ticks : {S : Type 0} → Meaning S → ℕ → S → S
ticks m zero s = s
ticks m (suc n) s = ticks m n (m.tick s)

-- The level n ticks later.
abbrev pub level_after : {S : Type 0} → Meaning S → ℕ → S → Bool
level_after m n s = m.level (ticks m n s)

-- The level is the present one for all ticks up to the n-th.
abbrev pub Steady : {S : Type 0} → Meaning S → ℕ → S → Type 0
Steady m n s = (j : ℕ) → j ≤ n → level_after m j s ≡ m.level s

-- The farthest that a device looks ahead, or skips at once: 2^32 ticks.
abbrev pub horizon : ℕ
horizon = 2 ^ 32

-- What a device in state s announces: the least k from 1 to 2^32 after which its level differs from the present one, or none.
abbrev pub Announces : {S : Type 0} → Meaning S → S → Option ℕ → Type 0
Announces m s (Some k) = (1 ≤ k) × (k ≤ horizon) × ((j : ℕ) → j < k → level_after m j s ≡ m.level s) × (level_after m k s ≢ m.level s)
Announces m s None = Steady m horizon s

-- The empty device has one port, reads FFh and shows level 0 for ever.
abbrev pub empty_device : Meaning (Unit {0})
empty_device = record {
  width = 1;
  tick = λ s. s;
  level = λ s. false;
  byte_read = λ s offset. 255;
  after_read = λ s offset. s;
  after_write = λ s offset byte. s;
}

-- A divider holds its factor, a phase below it, and the device that it slows down.
pub record Divided (S : Type 0) : Type 0 where
  pub factor : ℕ
  pub phase : ℕ
  pub inner : S

-- A factor outside 1 to 64 is taken as 1.
abbrev pub factor_taken : ℕ → ℕ
factor_taken d = cond (nat_lt 0 d) (cond (nat_lt d 65) d 1) 1

-- A new divider is at phase 0.
abbrev pub divide : {S : Type 0} → ℕ → S → Divided S
divide d s = record { factor = factor_taken d; phase = 0; inner = s }

-- A tick raises the phase by one; at the factor it returns to 0 and the inner device ticks.
abbrev pub divider_tick : {S : Type 0} → Meaning S → Divided S → Divided S
divider_tick m s = cond (nat_lt (s.phase + 1) s.factor) (record { factor = s.factor; phase = s.phase + 1; inner = s.inner }) (record { factor = s.factor; phase = 0; inner = m.tick s.inner })

-- Width, level and accesses are the inner device's; no access touches the phase.
abbrev pub divided : {S : Type 0} → Meaning S → Meaning (Divided S)
divided m = record {
  width = m.width;
  tick = divider_tick m;
  level = λ s. m.level s.inner;
  byte_read = λ s offset. m.byte_read s.inner offset;
  after_read = λ s offset. record { factor = s.factor; phase = s.phase; inner = m.after_read s.inner offset };
  after_write = λ s offset byte. record { factor = s.factor; phase = s.phase; inner = m.after_write s.inner offset byte };
}
