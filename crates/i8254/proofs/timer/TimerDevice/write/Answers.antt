use Rattle.std.proofs.Common.{◌∙◌, ap}
use Rattle.rules.specs.TickLaws.{ticks_zero}
use Rattle.rules.specs.I8254.{timer, write_timer}
use Rattle.i8254.specs.Channels.{view_channels}
use Rattle.i8254.proofs.timer.TimerDevice.write.Goals as goal

pub returns : goal.returns
returns c =
    ticks_zero timer (view_channels c.write.new.self) ∙ c.write.ensures ∙ ap (λ t. write_timer t c.args.offset c.args.byte) c.skip.ensures
