use Rattle.std.proofs.Common.{◌≡◌, Some, sym, ap, ◌∙◌, subst}
use Rattle.i8254_laws.specs.Foresight.{Foresees}
use Rattle.i8254_laws.specs.Machines.{channel}
use Rattle.i8254_laws.specs.Runs.{ticks_timer, timer_foresees, channel_0_foresees}
use Rattle.i8254.specs.Channels.{view_channel, view_channels}
use Rattle.i8254.proofs.channels.Channels.turn.Goals as goal

pub turn-next-requires : goal.turn-next-requires
turn-next-requires c = record { due = channel_0_foresees (view_channels c.args.self.now) (Some c.args.n) c.requires.due }

pub returns-clause-turned : goal.returns-clause-turned
returns-clause-turned c = c.fall_behind.ensures ∙ rw c.turn-next.ensures.turned (sym (ticks_timer c.args.n (view_channels c.args.self.now)))

pub returns-clause-next : goal.returns-clause-next
returns-clause-next c =
    let channel_0 : (view_channels c.fall_behind.new.self).channel_0 ≡ view_channel c.turn-next.new.self = ap (λ t. t.channel_0) c.fall_behind.ensures in
    timer_foresees (view_channels c.fall_behind.new.self) c.turn-next.result (subst (λ ch. Foresees channel ch c.turn-next.result) (sym channel_0) c.turn-next.ensures.next)
