-- A pulse generator, one tick at a time.
use Rattle.std.specs.Prelude.{◌≡◌, ℕ, ◌+◌, ◌-◌, ◌*◌, ◌/◌, ◌%◌, ◌≤◌, Bool, true, false, cond, not, ◌==◌}
use Rattle.rules.specs.Device.{Meaning, level_after}
use Rattle.rules.specs.Flips.{flips}

-- The state: a reload value, a count, whether it runs, and the level.
pub record Counting : Type 0 where
  pub reload : ℕ
  pub count : ℕ
  pub running : Bool
  pub high : Bool

-- At power-on both values are 65,536, nothing runs and the level is 0.
abbrev pub power_on : Counting
power_on = record { reload = 65536; count = 65536; running = false; high = false }

-- One less to count.
abbrev pub lowered : Counting → Counting
lowered p = record { reload = p.reload; count = p.count - 1; running = p.running; high = p.high }

-- The level flips, and the count starts again at the reload value.
abbrev pub reloaded : Counting → Counting
reloaded p = record { reload = p.reload; count = p.reload; running = p.running; high = not p.high }

-- A tick does nothing unless the generator runs. Then the count falls by one, and where it would become 0 it is reloaded.
abbrev pub tick_pulse : Counting → Counting
tick_pulse p = cond p.running (cond (p.count - 1 == 0) (reloaded p) (lowered p)) p

-- A truth as a bit.
abbrev pub bit : Bool → ℕ
bit b = cond b 1 0

-- Offsets 0 and 1 read the low and the high byte of the count modulo 65,536, 2 the running bit and twice the level, 3 the level. All others read FFh.
abbrev pub read_pulse : Counting → ℕ → ℕ
read_pulse p offset =
    cond (offset == 0) (p.count % 256)
    (cond (offset == 1) (p.count % 65536 / 256)
    (cond (offset == 2) (bit p.running + 2 * bit p.high)
    (cond (offset == 3) (bit p.high) 255)))

-- A read of offset 3 puts the level to 0, and no other read does anything.
abbrev pub after_read_pulse : Counting → ℕ → Counting
after_read_pulse p offset = cond (offset == 3) (record { reload = p.reload; count = p.count; running = p.running; high = false }) p

-- Sixteen bits stand for the reload value that they write, and all 0 for 65,536.
abbrev pub reload_set : ℕ → ℕ
reload_set bits = cond (bits == 0) 65536 bits

-- A generator with another reload value. The count goes on.
abbrev pub with_reload : Counting → ℕ → Counting
with_reload p reload = record { reload = reload; count = p.count; running = p.running; high = p.high }

-- Bits 0 and 1 of a byte.
abbrev pub bit_0 : ℕ → Bool
bit_0 byte = byte % 2 == 1

abbrev pub bit_1 : ℕ → Bool
bit_1 byte = byte / 2 % 2 == 1

-- A start sets the running bit and the level, and the count to the reload value.
abbrev pub started : Counting → ℕ → Counting
started p byte = record { reload = p.reload; count = p.reload; running = bit_0 byte; high = bit_1 byte }

-- Offset 0 writes the low byte of the reload value and 1 its high byte; 2 starts the generator. No other write does anything.
abbrev pub write_pulse : Counting → ℕ → ℕ → Counting
write_pulse p offset byte =
    cond (offset == 0) (with_reload p (reload_set (p.reload / 256 % 256 * 256 + byte)))
    (cond (offset == 1) (with_reload p (reload_set (byte * 256 + p.reload % 256)))
    (cond (offset == 2) (started p byte) p))

-- The pulse generator.
abbrev pub pulse_generator : Meaning Counting
pulse_generator = record {
  width = 4;
  tick = tick_pulse;
  level = λ p. p.high;
  byte_read = read_pulse;
  after_read = after_read_pulse;
  after_write = write_pulse;
}

-- Once a write of offset 2 has started it, the level after n ticks is the one written, flipped once for every whole `reload` ticks among the n.
abbrev pub FlipsEveryReload : Type 0
FlipsEveryReload = (p : Counting) (byte n : ℕ) → 1 ≤ p.reload → bit_0 byte ≡ true → level_after pulse_generator n (write_pulse p 2 byte) ≡ flips (n / p.reload) (bit_1 byte)
