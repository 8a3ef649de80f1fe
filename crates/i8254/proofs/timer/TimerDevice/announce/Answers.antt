use Rattle.std.proofs.Common.{None}
use Rattle.rules.specs.I8254.{timer}
use Rattle.i8254_laws.specs.Foresight.{foresees_announces, change_after, none_after}
use Rattle.i8254.specs.Channels.{view_channels}
use Rattle.i8254.specs.Views.{view}
use Rattle.i8254.proofs.timer.TimerDevice.announce.Goals as goal

pub returns-then-self : goal.returns-then-self
returns-then-self c =
    let self = c.args.self.now in
    foresees_announces timer (view self) None (none_after timer (view_channels self.channels) self.lag (self.foretold.stays c.if-self.true))

pub returns-else-self : goal.returns-else-self
returns-else-self c =
    let self = c.args.self.now in
    change_after timer (view_channels self.channels) self.lag self.forecast.due self.behind (self.foretold.changes c.if-self.false)
