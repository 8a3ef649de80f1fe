use Rattle.std.proofs.Common.{◌≡◌, ℕ, ◌%◌, ◌≤◌, sym, ◌∙◌, subst, arith}
use Rattle.i8254_laws.specs.Machines.{counting, Turns}
use Rattle.i8254_laws.specs.Counters.{mode_2_counter}
use Rattle.i8254_laws.specs.Mode2.{rate_falls, rate_rises}
use Rattle.i8254.proofs.mode_2.Rate.turned.Goals as goal

-- at 1
rises : (n v : ℕ) → v ≡ 1 → 2 ≤ n → n ≤ 65536 → Turns counting (mode_2_counter n v) (mode_2_counter n (n % 65536))
rises n v at_1 few most = subst (λ w. Turns counting (mode_2_counter n w) (mode_2_counter n (n % 65536))) (sym at_1) (rate_rises n few most)

pub returns-then-self-eq1 : goal.returns-then-self-eq1
returns-then-self-eq1 c =
    let period = c.args.self.period in
    λ k announced. c.loaded.ensures ∙ rises period.ticks c.args.self.value c.if-self-eq1.true period.within.0 period.within.1 k announced

pub returns-else-self-eq1 : goal.returns-else-self-eq1
returns-else-self-eq1 c =
    let self = c.args.self in
    λ k announced. rate_falls self.period.ticks self.value (omega arith) c.if-self-eq1.false k announced
