use Rattle.rules.specs.TickLaws.{lagging_within}
use Rattle.device.proofs.divider.DividerDevice.write.Goals as goal

pub returns : goal.returns
returns g c =
    let m = g.D.Device.meaning in
    let d = c.args.self.now in
    let caught = c.catch_up-self.ensures in
    let seen = lagging_within m d.factor c.catch_up-self.result (g.D.Device.state c.catch_up-self.new.inner) caught.within in
    rw (← caught.same, seen, ← c.write.ensures) (lagging_within m d.factor c.catch_up-self.result (g.D.Device.state c.write.new.self) caught.within)
