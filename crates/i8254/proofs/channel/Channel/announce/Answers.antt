use Rattle.std.proofs.Common.{sym, ◌∙◌}
use Rattle.i8254_laws.specs.Runs.{held_foresees, free_foresees}
use Rattle.i8254.specs.Channels.{view_channel}
use Rattle.i8254.proofs.channel.Channel.announce.Goals as goal

pub returns-then-is_held : goal.returns-then-is_held
returns-then-is_held c = held_foresees (view_channel c.args.self.now) (sym c.is_held.ensures ∙ c.if-is_held.true)

pub returns-else-is_held : goal.returns-else-is_held
returns-else-is_held c =
    free_foresees (view_channel c.args.self.now) c.announce.result (sym c.is_held.ensures ∙ c.if-is_held.false) c.announce.ensures
