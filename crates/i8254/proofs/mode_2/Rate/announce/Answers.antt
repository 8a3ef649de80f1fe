use Rattle.std.proofs.Common.{◌≡◌, ℕ, ◌-◌, ◌%◌, ◌≤◌, ◌≢◌, Some, arith}
use Rattle.rules.specs.Device.{Announces}
use Rattle.i8254_laws.specs.Machines.{counting}
use Rattle.i8254_laws.specs.Counters.{mode_2_counter}
use Rattle.i8254_laws.specs.Mode2.{rate_announces, rate_low_announces}
use Rattle.i8254.proofs.mode_2.Rate.announce.Goals as goal

-- v stands for r
high : (n v r : ℕ) → r % 65536 ≡ v → v ≢ 1 → 1 ≤ r → r ≤ 65536 → Announces counting (mode_2_counter n v) (Some (r - 1))
high n v r same not_1 some many = rw (← same) (rate_announces n r (omega arith) many)

pub returns-then-self-eq1 : goal.returns-then-self-eq1
returns-then-self-eq1 c =
    let period = c.args.self.period in
    rw c.if-self-eq1.true (rate_low_announces period.ticks period.within.0 period.within.1)

pub returns-else-self-eq1 : goal.returns-else-self-eq1
returns-else-self-eq1 c =
    let self = c.args.self in
    let at = c.ticks_to_zero in
    high self.period.ticks self.value at.result at.ensures.same c.if-self-eq1.false at.ensures.within.0 at.ensures.within.1
