use Rattle.i8254_laws.specs.Runs.{counter_foresees, channel_turned, channel_next}
use Rattle.i8254.specs.Channels.{view_channel, view_counter}
use Rattle.i8254.proofs.channel.Channel.turn.Goals as goal

pub turn-requires : goal.turn-requires
turn-requires c = record { due = counter_foresees (view_channel c.args.self.now) c.args.n c.requires.due }

pub returns-clause-turned : goal.returns-clause-turned
returns-clause-turned c =
    channel_turned (view_channel c.args.self.now) c.args.n c.requires.due (view_counter c.turn.new.self) c.turn.ensures.turned

pub returns-clause-next : goal.returns-clause-next
returns-clause-next c =
    channel_next (view_channel c.args.self.now) c.args.n c.requires.due (view_counter c.turn.new.self) c.turn.result c.turn.ensures.turned c.turn.ensures.next
