-- The worked examples hold. What has no variable is computed; the rest is an induction over ticks.
use Rattle.std.proofs.Common.{◌≡◌, ℕ, zero, suc, ◌≤◌, true, false, Some, None, refl, arith}
use Rattle.rules.specs.TickLaws.{announces_divided}
use Rattle.rules.specs.Device.{Meaning, ticks, Announces, divided}
use Rattle.rules.specs.I8254.{Timer, mode_0, low_then_high, power_on_channel, down}
use Rattle.std.specs.Fmt.{digits}
use Rattle.rules.specs.Ascending.{insert}
use Rattle.rules.specs.I8259.{first_from, drive_below, inputs_below}
use Rattle.rules.specs.Board.{on_line, edges_between, carry_out, tick, tick_times}
use Rattle.rules.specs.Trace.{big_endian_from, all_printable, decode, next, run_from, run, on_board, printed}
use Rattle.rules.specs.Examples.{WorkedExamples, out_after, programmed, by_twelve, high}

-- a timer in mode 0 whose OUT has risen, with v in its counter
abbrev risen : ℕ → Timer
risen v =
    record {
      channel_0 = record { access = low_then_high; low_byte = None; high_next = false; latch = None; counter = record { mode = mode_0; out = true; value = v; count = None; loaded = true; left = 0 } };
      channel_1 = power_on_channel;
      channel_2 = power_on_channel;
    }

stays_high : (n v : ℕ) → out_after (risen v) n ≡ true
unfolding ticks
stays_high zero v = refl
stays_high (suc n) v = stays_high n (down 1 v)

high_from_4 : (n : ℕ) → 4 ≤ n → out_after (programmed 0x30 3 0) n ≡ true
unfolding ticks
high_from_4 zero h = absurd (omega arith)
high_from_4 (suc zero) h = absurd (omega arith)
high_from_4 (suc (suc zero)) h = absurd (omega arith)
high_from_4 (suc (suc (suc zero))) h = absurd (omega arith)
high_from_4 (suc (suc (suc (suc n)))) h = stays_high n 0

module _ {S : Type 0} (m : Meaning S) (s : S) where
  from_0 : Announces m s (Some 1) → Announces (divided m) (by_twelve 0 s) (Some 12)
  unfolding ticks
  from_0 a = announces_divided m 12 0 (Some 1) s (omega arith) (omega arith) a

  from_11 : Announces m s (Some 1) → Announces (divided m) (by_twelve 11 s) (Some 1)
  unfolding ticks
  from_11 a = announces_divided m 12 11 (Some 1) s (omega arith) (omega arith) a

pub worked_examples : (S : Type 0) → WorkedExamples S
unfolding ticks insert first_from drive_below inputs_below high on_line edges_between carry_out tick tick_times digits big_endian_from all_printable decode next run_from run on_board printed
worked_examples S = record {
  mode_0_low = refl;
  mode_0_high = high_from_4;
  mode_2_out = refl;
  mode_3_counter = refl;
  mode_3_out = refl;
  divider_at_0 = from_0;
  divider_at_11 = from_11;
  first_vector = refl;
  second_vector = refl;
  third_vector = refl;
  slave_vector = refl;
  slave_service = (refl, refl);
  spurious_vector = refl;
  spurious_service = refl;
  rotated_vector = refl;
  first_lines = refl;
}
