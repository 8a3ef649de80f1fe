use Rattle.rules.specs.Device.{divided}
use Rattle.rules.specs.TickLaws.{ticks_add, in_step}
use Rattle.device.proofs.divider.DividerDevice.skip.Goals as goal

pub returns-then-since-self : goal.returns-then-since-self
returns-then-since-self g c =
    let d = c.args.self.now in
    rw c.min.ensures (ticks_add (divided g.D.Device.meaning) d.since _ (in_step d.factor (g.D.Device.state d.inner)))

pub returns-else-since-self : goal.returns-else-since-self
returns-else-since-self g c =
    let d = c.args.self.now in
    rw (c.arrive.ensures, c.min.ensures) (ticks_add (divided g.D.Device.meaning) d.since _ (in_step d.factor (g.D.Device.state d.inner)))
