use Rattle.std.proofs.Common.{◌∙◌}
use Rattle.rules.specs.TickLaws.{ticks_zero}
use Rattle.rules.specs.I8254.{timer}
use Rattle.i8254.specs.Channels.{view_channels}
use Rattle.i8254.proofs.timer.Timer.turn.Goals as goal

pub returns : goal.returns
returns c = ticks_zero timer (view_channels c.turn-next.new.self) ∙ c.turn-next.ensures.turned
