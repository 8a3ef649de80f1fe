-- A square wave, one tick at a time.
use Rattle.std.specs.Prelude.{ℕ, ◌+◌, ◌-◌, Bool, false, cond, not, ◌==◌, nat_lt}
use Rattle.rules.specs.Device.{Meaning}

pub record Wave : Type 0 where
  -- how many ticks the level stays
  pub half : ℕ
  -- how many of them have passed
  pub elapsed : ℕ
  pub high : Bool

-- The level turns on the last tick of a half.
abbrev pub tick_wave : Wave → Wave
tick_wave w = cond (nat_lt (w.elapsed + 1) w.half) (record { half = w.half; elapsed = w.elapsed + 1; high = w.high }) (record { half = w.half; elapsed = 0; high = not w.high })

-- At port 0 stands the half less one. A write of it starts a low half.
abbrev pub read_wave : Wave → ℕ → ℕ
read_wave w offset = cond (offset == 0) (w.half - 1) 255

abbrev pub write_wave : Wave → ℕ → ℕ → Wave
write_wave w offset byte = cond (offset == 0) (record { half = byte + 1; elapsed = 0; high = false }) w

abbrev pub square_wave : Meaning Wave
square_wave = record {
  width = 1;
  tick = tick_wave;
  level = λ w. w.high;
  byte_read = read_wave;
  after_read = λ w offset. w;
  after_write = write_wave;
}
