-- Channels 1 and 2 that lag behind, as the rules see them.
use Rattle.std.proofs.Common.{◌≡◌, ℕ, ◌+◌}
use Rattle.rules.specs.Device.{ticks}
use Rattle.rules.specs.TickLaws.{ticks_zero, ticks_add}
use Rattle.rules.specs.I8254 as rules
use Rattle.rules.specs.I8254.{at_channel}
use Rattle.i8254_laws.specs.Machines.{channel}
use Rattle.i8254.specs.Channels.{view_channel, view_channels, others_after}
use Rattle.i8254.specs.declared.channel.Channel.{Channel}
use Rattle.i8254.specs.declared.channels.Channels.{Channels}

-- Without a lag a channel is seen as it stands.
pub caught_up : (lag : ℕ) (ch : rules.Channel) → lag ≡ 0 → ticks channel lag ch ≡ ch
caught_up lag ch none = rw none (ticks_zero channel ch)

-- Channels 1 and 2 with the ticks that they lacked.
pub both_caught_up : (t : Channels) (new_1 new_2 : Channel) → view_channel new_1 ≡ ticks channel t.lag (view_channel t.channel_1) → view_channel new_2 ≡ ticks channel t.lag (view_channel t.channel_2) → view_channels (record { channel_0 = t.channel_0; channel_1 = new_1; channel_2 = new_2; lag = 0 }) ≡ view_channels t
both_caught_up t new_1 new_2 is_1 is_2 = rw (ticks_zero channel (view_channel new_1), ticks_zero channel (view_channel new_2), is_1, is_2)

-- Channel 1 or 2 changed, once it has caught up.
module _ (t : Channels) (none : t.lag ≡ 0) (f : rules.Channel → rules.Channel) (new : Channel) where
  pub changed_1 : view_channel new ≡ f (view_channel t.channel_1) → view_channels (record { channel_0 = t.channel_0; channel_1 = new; channel_2 = t.channel_2; lag = t.lag }) ≡ at_channel 1 f (view_channels t)
  changed_1 is = rw (caught_up t.lag (view_channel new) none, caught_up t.lag (view_channel t.channel_1) none, is)

  pub changed_2 : view_channel new ≡ f (view_channel t.channel_2) → view_channels (record { channel_0 = t.channel_0; channel_1 = t.channel_1; channel_2 = new; lag = t.lag }) ≡ at_channel 2 f (view_channels t)
  changed_2 is = rw (caught_up t.lag (view_channel new) none, caught_up t.lag (view_channel t.channel_2) none, is)

-- A longer lag is ticks of channels 1 and 2.
pub longer : (t : Channels) (n lag : ℕ) → lag ≡ t.lag + n → view_channels (record { channel_0 = t.channel_0; channel_1 = t.channel_1; channel_2 = t.channel_2; lag = lag }) ≡ others_after n (view_channels t)
longer t n lag is = rw (is, ticks_add channel t.lag n (view_channel t.channel_1), ticks_add channel t.lag n (view_channel t.channel_2))
