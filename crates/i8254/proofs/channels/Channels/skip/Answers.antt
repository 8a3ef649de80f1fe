use Rattle.std.proofs.Common.{◌∙◌, sym}
use Rattle.i8254_laws.specs.Runs.{ticks_timer}
use Rattle.i8254.specs.Channels.{view_channels}
use Rattle.i8254.proofs.channels.Channels.skip.Goals as goal

pub returns : goal.returns
returns c = c.fall_behind.ensures ∙ rw c.skip.ensures (sym (ticks_timer c.args.n (view_channels c.args.self.now)))
