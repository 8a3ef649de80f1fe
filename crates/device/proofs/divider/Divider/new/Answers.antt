use Rattle.std.proofs.Common.{◌≡◌, ◌≤◌, ap, ◌∙◌, arith}
use Rattle.std.proofs.lemmas.Grind.{common_steps}
use Rattle.rules.specs.Device.{factor_taken}
use Rattle.rules.specs.TickLaws.{lagging_within}
use Rattle.device.proofs.divider.Divider.new.Goals as goal

pub returns : goal.returns
returns g c =
    let s = g.D.Device.state c.args.inner in
    let taken : c.if-contains.factor ≡ factor_taken c.args.factor = grind (arith, common_steps) in
    let some : 1 ≤ c.if-contains.factor = grind (arith, common_steps) in
    lagging_within g.D.Device.meaning c.if-contains.factor 0 s some ∙ ap (λ factor. record { factor = factor; phase = 0; inner = s }) taken
