use Rattle.std.proofs.Common.{◌∙◌, ap}
use Rattle.rules.specs.TickLaws.{ticks_zero}
use Rattle.rules.specs.I8254.{timer, after_read_timer}
use Rattle.i8254.specs.Channels.{view_channels}
use Rattle.i8254.proofs.timer.TimerDevice.read.Goals as goal

pub returns-clause-leaves : goal.returns-clause-leaves
returns-clause-leaves c =
    ticks_zero timer (view_channels c.read-byte.new.self) ∙ c.read-byte.ensures.leaves ∙ ap (λ t. after_read_timer t c.args.offset) c.skip.ensures
