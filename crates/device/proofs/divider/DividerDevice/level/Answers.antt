use Rattle.std.proofs.Common.{◌∙◌}
use Rattle.rules.specs.TickLaws.{lagging_level}
use Rattle.device.proofs.divider.DividerDevice.level.Goals as goal

pub returns : goal.returns
returns g c =
    let d = c.args.self.now in
    c.level.ensures ∙ lagging_level g.D.Device.meaning d.factor d.since d.plan.change (g.D.Device.state d.inner) d.bounded.0 d.early d.announced
