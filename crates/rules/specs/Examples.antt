-- The worked examples, as one statement about the rules.
use Rattle.std.specs.Prelude.{◌≡◌, ℕ, ◌≤◌, Bool, true, false, ◌||◌, List, [], ◌∷◌, map, Some, codes, ◌==◌}
use Rattle.rules.specs.Device.{Meaning, ticks, Announces, Divided, divided}
use Rattle.rules.specs.I8254.{Timer, timer, write_timer, power_on_timer}
use Rattle.rules.specs.Trace.{printed}
use Rattle.rules.specs.I8259.{Pair, Chip, power_on_chip, write_chip, drive_lines, vector, acknowledged}

-- A timer right after a control word for channel 0 and the two bytes of a count.
abbrev pub programmed : ℕ → ℕ → ℕ → Timer
programmed word low high = write_timer (write_timer (write_timer power_on_timer 3 word) 0 low) 0 high

-- Channel 0's OUT and counter, n timer ticks later.
abbrev pub out_after : Timer → ℕ → Bool
out_after t n = (ticks timer n t).channel_0.counter.out

abbrev pub counter_after : Timer → ℕ → ℕ
counter_after t n = (ticks timer n t).channel_0.counter.value

abbrev pub one_to_six : List ℕ
one_to_six = 1 ∷ 2 ∷ 3 ∷ 4 ∷ 5 ∷ 6 ∷ []

-- A divider of 12 at a phase.
abbrev pub by_twelve : {S : Type 0} → ℕ → S → Divided S
by_twelve phase s = record { factor = 12; phase = phase; inner = s }

-- A chip after ICW1 to ICW4 and an empty mask, and the pair so initialised with bases 08h and 70h.
abbrev pub initialised_chip : ℕ → ℕ → Chip
initialised_chip base wiring = write_chip 1 0 (write_chip 1 1 (write_chip 1 wiring (write_chip 1 base (write_chip 0 0x11 power_on_chip))))

abbrev pub initialised_pair : Pair
initialised_pair = record { master = initialised_chip 0x08 4; slave = initialised_chip 0x70 2 }

-- Just the named lines are at 1.
unfoldable pub high : List ℕ → ℕ → Bool
high [] line = false
high (l ∷ ls) line = l == line || high ls line

-- A command byte at port 20h.
abbrev pub command : ℕ → Pair → Pair
command byte p = record { master = write_chip 0 byte p.master; slave = p.slave }

-- The pair as the examples find it: after lines 0 and 1 rose, after line 8 rose, after line 1 rose and fell, and after line 0
-- was served, ended by a rotating end of interrupt, fell, and rose again together with line 1.
abbrev pub two_requests : Pair
two_requests = drive_lines (high (0 ∷ 1 ∷ [])) initialised_pair

abbrev pub slave_request : Pair
slave_request = drive_lines (high (8 ∷ [])) initialised_pair

abbrev pub withdrawn : Pair
withdrawn = drive_lines (high []) (drive_lines (high (1 ∷ [])) initialised_pair)

abbrev pub rotated : Pair
rotated = drive_lines (high (0 ∷ 1 ∷ [])) (drive_lines (high []) (command 0xa0 (acknowledged (drive_lines (high (0 ∷ [])) initialised_pair))))

-- A first trace: channel 0 in mode 2 with a count of 3, 48 ticks of time, and an acknowledge.
abbrev pub first_trace : List ℕ
first_trace =
    0x01 ∷ 0x00 ∷ 0x04 ∷ 0x03 ∷ 0x00 ∷ 0x43 ∷ 0x34 ∷ 0x00 ∷ 0x04 ∷ 0x03 ∷ 0x00 ∷ 0x40 ∷ 0x03 ∷ 0x00 ∷ 0x04 ∷ 0x03 ∷ 0x00 ∷ 0x40 ∷ 0x00
    ∷ 0x00 ∷ 0x09 ∷ 0x01 ∷ 0x00 ∷ 0x00 ∷ 0x00 ∷ 0x00 ∷ 0x00 ∷ 0x00 ∷ 0x00 ∷ 0x30 ∷ 0x00 ∷ 0x01 ∷ 0x04 ∷ []

-- S is the state of any kind of device that a divider may hold.
pub record WorkedExamples (S : Type 0) : Type 0 where
  -- mode 0 with a count of 3
  pub mode_0_low : out_after (programmed 0x30 3 0) 3 ≡ false
  pub mode_0_high : (n : ℕ) → 4 ≤ n → out_after (programmed 0x30 3 0) n ≡ true
  -- mode 2 with a count of 3
  pub mode_2_out : map (out_after (programmed 0x34 3 0)) one_to_six ≡ true ∷ true ∷ false ∷ true ∷ true ∷ false ∷ []
  -- mode 3 with a count of 5
  pub mode_3_counter : map (counter_after (programmed 0x36 5 0)) one_to_six ≡ 4 ∷ 2 ∷ 0 ∷ 4 ∷ 2 ∷ 4 ∷ []
  pub mode_3_out : map (out_after (programmed 0x36 5 0)) one_to_six ≡ true ∷ true ∷ true ∷ false ∷ false ∷ true ∷ []
  -- a divider of 12 over an inner announcement of 1
  pub divider_at_0 : (m : Meaning S) (s : S) → Announces m s (Some 1) → Announces (divided m) (by_twelve 0 s) (Some 12)
  pub divider_at_11 : (m : Meaning S) (s : S) → Announces m s (Some 1) → Announces (divided m) (by_twelve 11 s) (Some 1)
  -- lines 0 and 1 rise; the second acknowledge is spurious until line 0's service ends
  pub first_vector : vector two_requests ≡ 0x08
  pub second_vector : vector (acknowledged two_requests) ≡ 0x0f
  pub third_vector : vector (command 0x20 (acknowledged (acknowledged two_requests))) ≡ 0x09
  -- line 8 rises
  pub slave_vector : vector slave_request ≡ 0x70
  pub slave_service : ((acknowledged slave_request).master.isr ≡ 0x04) × ((acknowledged slave_request).slave.isr ≡ 0x01)
  -- line 1 rises and falls
  pub spurious_vector : vector withdrawn ≡ 0x0f
  pub spurious_service : (acknowledged withdrawn).master.isr ≡ 0x00
  -- line 0 was served and is now lowest
  pub rotated_vector : vector rotated ≡ 0x09
  -- a trace and all that it prints
  pub first_lines : printed 65536 first_trace ≡ codes "W 0043 34\nW 0040 03\nW 0040 00\n+ 48 2\nI 07\n. 5\n"
