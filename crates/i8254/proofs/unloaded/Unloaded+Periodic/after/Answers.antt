use Rattle.std.proofs.Common.{◌≡◌, ℕ, ◌+◌, ◌-◌, ◌%◌, ◌≤◌, true, None, Some, ◌∙◌, sym, arith, rules}
use Rattle.rules.specs.Device.{ticks}
use Rattle.rules.specs.TickLaws.{ticks_still, ticks_zero}
use Rattle.rules.specs.I8254.{Counter, mode_2, mode_3}
use Rattle.i8254_laws.specs.Machines.{counting}
use Rattle.i8254_laws.specs.Counters.{unloaded, mode_2_counter}
use Rattle.i8254_laws.specs.Mode2.{rate_starts}
use Rattle.i8254_laws.specs.Mode3.{begun, square_starts}
use Rattle.i8254.specs.Control.{periodic_mode}
use Rattle.i8254.specs.Channels.{view_starting}
use Rattle.i8254.proofs.Standing.{no_count_still}
use Rattle.i8254.proofs.unloaded.Unloaded+Periodic.after.Goals as goal

-- p is what the written count means, n
rate : (k n p v : ℕ) (x : Counter) → 1 ≤ k → p ≡ n → 2 ≤ p → p ≤ 65536 → x ≡ ticks counting (k - 1) (mode_2_counter p (p % 65536)) → x ≡ ticks counting k (unloaded mode_2 (Some n) v)
rate k n p v x some means few most is =
    let last : k - 1 + 1 ≡ k = omega arith in
    let run = is ∙ sym (rate_starts (k - 1) p v few most) in
    rw (last, means) at run

square : (k n p v : ℕ) (x : Counter) → 1 ≤ k → p ≡ n → x ≡ ticks counting (k - 1) (begun p true) → x ≡ ticks counting k (unloaded mode_3 (Some n) v)
square k n p v x some means is =
    let last : k - 1 + 1 ≡ k = omega arith in
    let run = is ∙ sym (square_starts (k - 1) p v) in
    rw (last, means) at run

pub returns-in_default : goal.returns-in_default
returns-in_default c =
    let none : c.args.n ≡ 0 = omega arith in
    rw none (sym (ticks_zero counting (view_starting c.args.self)))

pub returns-in_default-2 : goal.returns-in_default-2
returns-in_default-2 c =
    let self = c.args.self in
    rw c.in_default.is-0 (sym (ticks_still counting c.args.n (unloaded (periodic_mode self.mode) None self.value) (no_count_still self.mode self.value)))

pub returns-in-RateGenerator : goal.returns-in-RateGenerator
returns-in-RateGenerator c =
    let p = c.from-period.result in
    let rest : c.in-Some-Some.rest ≡ c.args.n - 1 = search rules in
    let run = rw (c.loaded.ensures, rest) at c.after.ensures in
    rw (c.in-Some-Some.is-0, c.in-RateGenerator.is) (rate c.args.n _ p.ticks c.args.self.value _ (omega arith) c.from-period.ensures p.within.0 p.within.1 run)

pub returns-in-SquareWave : goal.returns-in-SquareWave
returns-in-SquareWave c =
    let p = c.from-period.result in
    let rest : c.in-Some-Some.rest ≡ c.args.n - 1 = search rules in
    let run = rw rest at c.begun.ensures in
    rw (c.in-Some-Some.is-0, c.in-SquareWave.is) (square c.args.n _ p.ticks c.args.self.value _ (omega arith) c.from-period.ensures run)
