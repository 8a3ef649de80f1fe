-- Counters by what they do, each with the value v in it.
use Rattle.std.specs.Prelude.{ℕ, ◌+◌, ◌-◌, ◌%◌, Bool, true, false, not, Some, Option, ◌==◌}
use Rattle.rules.specs.I8254.{Counter, Mode, mode_0, mode_2, mode_3}

-- The value v gone down by k.
abbrev pub less : ℕ → ℕ → ℕ
less k v = (v + 65536 - k % 65536) % 65536

-- Mode 0, with the count that waits for the next tick.
abbrev pub mode_0_counter : Bool → Bool → Option ℕ → ℕ → Counter
mode_0_counter out loaded waiting v = record { mode = mode_0; out = out; value = v; count = waiting; loaded = loaded; left = 0 }

-- Any other mode before its first load: OUT is high.
abbrev pub unloaded : Mode → Option ℕ → ℕ → Counter
unloaded m count v = record { mode = m; out = true; value = v; count = count; loaded = false; left = 0 }

-- Mode 2 with the count n: OUT is low while the counter is at 1.
abbrev pub mode_2_counter : ℕ → ℕ → Counter
mode_2_counter n v = record { mode = mode_2; out = not (v == 1); value = v; count = Some n; loaded = true; left = 0 }

-- Mode 3 with the count n, in a half that has some ticks left.
abbrev pub mode_3_counter : ℕ → Bool → ℕ → ℕ → Counter
mode_3_counter n high left v = record { mode = mode_3; out = high; value = v; count = Some n; loaded = true; left = left }
