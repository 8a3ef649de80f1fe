use Rattle.rules.specs.TickLaws.{lagging_within}
use Rattle.device.proofs.divider.DividerDevice.read.Goals as goal

pub returns-clause-gives : goal.returns-clause-gives
returns-clause-gives g c =
    let m = g.D.Device.meaning in
    let d = c.args.self.now in
    let caught = c.catch_up-self.ensures in
    let seen = lagging_within m d.factor c.catch_up-self.result (g.D.Device.state c.catch_up-self.new.inner) caught.within in
    rw (← caught.same, seen) c.read-byte.ensures.gives

pub returns-clause-leaves : goal.returns-clause-leaves
returns-clause-leaves g c =
    let m = g.D.Device.meaning in
    let d = c.args.self.now in
    let caught = c.catch_up-self.ensures in
    let seen = lagging_within m d.factor c.catch_up-self.result (g.D.Device.state c.catch_up-self.new.inner) caught.within in
    rw (← caught.same, seen, ← c.read-byte.ensures.leaves) (lagging_within m d.factor c.catch_up-self.result (g.D.Device.state c.read-byte.new.self) caught.within)
