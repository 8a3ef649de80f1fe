use Rattle.std.proofs.Common.{◌≡◌, ℕ, ◌-◌, ◌*◌, Bool, true, false, Some, None, refl}
use Rattle.std.specs.Bool.{then_some}
use Rattle.std.specs.Prelude.{cond, nat_le}
use Rattle.rules.specs.Device.{horizon}
use Rattle.rules.specs.TickLaws.{announces_divided}
use Rattle.device.proofs.divider.DividerDevice.announce.Goals as goal

pub returns-in_err-self : goal.returns-in_err-self
returns-in_err-self g c =
    let m = g.D.Device.meaning in
    let d = c.args.self.now in
    let announced = announces_divided m d.factor d.since d.plan.change (g.D.Device.state d.inner) d.bounded.0 d.early d.announced in
    rw c.from_residual.ensures (rw c.in_err-self.was at announced)

-- Std's word for a value under a condition is the rules' one.
as_cond : (b : Bool) (x : ℕ) → then_some b x ≡ cond b (Some x) None
as_cond true x = refl
as_cond false x = refl

pub returns : goal.returns
returns g c =
    let m = g.D.Device.meaning in
    let d = c.args.self.now in
    let left : ℕ = c.in_ok-self.field-0 * d.factor - d.since in
    let announced = announces_divided m d.factor d.since d.plan.change (g.D.Device.state d.inner) d.bounded.0 d.early d.announced in
    rw (c.then_some.ensures, d.planned, c.in_ok-self.was, as_cond (nat_le left horizon) left) (rw c.in_ok-self.was at announced)
