use Rattle.std.proofs.Common.{◌≡◌, ◌+◌, ◌-◌, ◌*◌, ap, ◌∙◌, subst, arith}
use native.Mathlib.Nat.{min-eq_left}
use Rattle.rules.specs.Device.{Announces}
use Rattle.rules.specs.TickLaws.{lagging_less, due_by}
use Rattle.device.proofs.divider.Divider.arrive.Goals as goal
use Rattle.device.proofs.divider.Divider.arrive.Goals.{in-Some, in-None}

pub invariant_of-self : goal.invariant_of-self
invariant_of-self g c = record {
  bounded = c.args.self.now.bounded;
  announced = c.of-self.ensures.announced;
  planned = c.of-self.ensures.due;
  early = omega arith;
}

pub returns : goal.returns
returns g c =
    let m = g.D.Device.meaning in
    let d = c.args.self.now in
    let s = g.D.Device.state d.inner in
    let since = c.args.since in
    c.catch_up-self.ensures.same
    ∙ elim c.match-self.branch [
      | in-Some w ↦
          let k = w.in-Some.ticks in
          let announced = subst (Announces m s) w.in-Some.is d.announced in
          let due : d.plan.due ≡ k * d.factor = d.planned ∙ ap (due_by d.factor) w.in-Some.is in
          let sum : k * d.factor + (since - d.plan.due) ≡ since = omega arith in
          rw (w.self-is, w.rest-is, w.skip.ensures, min-eq_left announced.1, ← lagging_less m d.factor k (since - d.plan.due) s d.bounded.0, sum)
      | in-None w ↦ rw (w.self-is, w.rest-is)
    ]
