use Rattle.std.proofs.Common.{◌∙◌}
use Rattle.rules.specs.TickLaws.{ticks_zero}
use Rattle.rules.specs.I8254.{timer}
use Rattle.i8254.specs.Channels.{view_channels}
use Rattle.i8254.proofs.timer.Timer.catch_up.Goals as goal

pub returns : goal.returns
returns c = ticks_zero timer (view_channels c.skip.new.self) ∙ c.skip.ensures
