use Rattle.std.proofs.Common.{◌≡◌, ◌∙◌, min}
use Rattle.rules.specs.Device.{horizon}
use Rattle.rules.specs.TickLaws.{ticks_add}
use Rattle.rules.specs.I8254.{timer}
use Rattle.i8254.specs.Channels.{view_channels}
use Rattle.i8254.proofs.timer.TimerDevice.skip.Goals as goal

pub returns-then-lag-self : goal.returns-then-lag-self
returns-then-lag-self c =
    let self = c.args.self.now in
    let all : c.min.result ≡ min c.args.n horizon = c.min.ensures in
    rw (← all) (ticks_add timer self.lag c.min.result (view_channels self.channels))

pub returns-else-lag-self : goal.returns-else-lag-self
returns-else-lag-self c =
    let self = c.args.self.now in
    let all : c.min.result ≡ min c.args.n horizon = c.min.ensures in
    rw (← all) (c.arrive.ensures ∙ ticks_add timer self.lag c.min.result (view_channels self.channels))
