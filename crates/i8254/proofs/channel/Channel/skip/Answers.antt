use Rattle.std.proofs.Common.{sym, ap, ◌∙◌}
use Rattle.rules.specs.I8254.{with_counter}
use Rattle.i8254_laws.specs.Runs.{held_run, free_run}
use Rattle.i8254.specs.Channels.{view_channel}
use Rattle.i8254.proofs.channel.Channel.skip.Goals as goal

pub returns-then-not-is_held : goal.returns-then-not-is_held
returns-then-not-is_held c =
    ap (with_counter (view_channel c.args.self.now)) c.pass.ensures
    ∙ sym (free_run c.args.n (view_channel c.args.self.now) (sym c.is_held.ensures ∙ c.if-not-is_held.true))

pub returns-else-not-is_held : goal.returns-else-not-is_held
returns-else-not-is_held c = sym (held_run c.args.n (view_channel c.args.self.now) (sym c.is_held.ensures ∙ c.if-not-is_held.false))
