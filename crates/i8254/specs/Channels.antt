-- What the code's counters and channels are in the rules.
use Rattle.std.specs.Prelude.{ℕ, Some, None, Option}
use Rattle.rules.specs.Device.{ticks}
use Rattle.rules.specs.I8254 as rules
use Rattle.rules.specs.I8254.{mode_0, count_meant}
use Rattle.i8254_laws.specs.Counters.{mode_0_counter, unloaded, mode_2_counter, mode_3_counter}
use Rattle.i8254_laws.specs.Machines.{channel}
use Rattle.i8254.specs.Control.{view_access, untriggered_mode, periodic_mode}
use Rattle.i8254.specs.declared.control.Untriggered.{Untriggered}
use Rattle.i8254.specs.declared.control.Periodic.{Periodic}
use Rattle.i8254.specs.declared.mode_0.TerminalCount.{TerminalCount}
use Rattle.i8254.specs.declared.unloaded.Unloaded.{Unloaded}
use Rattle.i8254.specs.declared.mode_2.Rate.{Rate}
use Rattle.i8254.specs.declared.mode_3.Square.{Square}
use Rattle.i8254.specs.declared.counter.Counter.{Counter}
use Rattle.i8254.specs.declared.counter.Counter.TheVariants.{TerminalCount as InMode0, Still, Starting, Rate as InMode2, Square as InMode3}
use Rattle.i8254.specs.declared.channel.Channel.{Channel}
use Rattle.i8254.specs.declared.channels.Channels.{Channels}

-- A count as written, if there is one, as it is meant in a mode.
abbrev pub meant : rules.Mode → Option ℕ → Option ℕ
meant m (Some written) = Some (count_meant m written)
meant m None = None

abbrev pub view_terminal_count : TerminalCount → rules.Counter
view_terminal_count c = mode_0_counter c.out c.loaded (meant mode_0 c.waiting) c.value

abbrev pub view_still : Unloaded Untriggered → rules.Counter
view_still c = unloaded (untriggered_mode c.mode) (meant (untriggered_mode c.mode) c.count) c.value

abbrev pub view_starting : Unloaded Periodic → rules.Counter
view_starting c = unloaded (periodic_mode c.mode) (meant (periodic_mode c.mode) c.count) c.value

abbrev pub view_rate : Rate → rules.Counter
view_rate c = mode_2_counter c.period.ticks c.value

abbrev pub view_square : Square → rules.Counter
view_square c = mode_3_counter c.period.ticks c.high c.left c.value

abbrev pub view_counter : Counter → rules.Counter
view_counter (InMode0 c) = view_terminal_count c
view_counter (Still c) = view_still c
view_counter (Starting c) = view_starting c
view_counter (InMode2 c) = view_rate c
view_counter (InMode3 c) = view_square c

abbrev pub view_channel : Channel → rules.Channel
view_channel ch =
    record { access = view_access ch.access; low_byte = ch.low_byte; high_next = ch.high_next; latch = ch.latch; counter = view_counter ch.counter }

-- Channels 1 and 2 still lack the ticks that they lag behind.
abbrev pub view_channels : Channels → rules.Timer
view_channels c =
    record { channel_0 = view_channel c.channel_0; channel_1 = ticks channel c.lag (view_channel c.channel_1); channel_2 = ticks channel c.lag (view_channel c.channel_2) }

-- n ticks of channels 1 and 2 alone.
abbrev pub others_after : ℕ → rules.Timer → rules.Timer
others_after n t = record { channel_0 = t.channel_0; channel_1 = ticks channel n t.channel_1; channel_2 = ticks channel n t.channel_2 }
