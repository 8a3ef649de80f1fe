use Rattle.std.proofs.Common.{◌≡◌, ℕ, ◌+◌, ◌≤◌, true, None, Some}
use Rattle.rules.specs.Device.{Announces}
use Rattle.rules.specs.I8254.{half_length, mode_2, mode_3}
use Rattle.i8254_laws.specs.Machines.{counting}
use Rattle.i8254_laws.specs.Counters.{unloaded}
use Rattle.i8254_laws.specs.Foresight.{still_foresees}
use Rattle.i8254_laws.specs.Mode2.{rate_start_announces}
use Rattle.i8254_laws.specs.Mode3.{square_start_announces}
use Rattle.i8254.specs.Control.{periodic_mode}
use Rattle.i8254.proofs.Standing.{no_count_still}
use Rattle.i8254.proofs.unloaded.Unloaded+Periodic.announce.Goals as goal

-- p is what the written count means, n
rate : (n p v : ℕ) → p ≡ n → 2 ≤ p → p ≤ 65536 → Announces counting (unloaded mode_2 (Some n) v) (Some p)
rate n p v means few most = rw (← means) (rate_start_announces p v few most)

square : (n p v h : ℕ) → p ≡ n → 2 ≤ p → p ≤ 65536 → h ≡ half_length true p → Announces counting (unloaded mode_3 (Some n) v) (Some (h + 1))
square n p v h means few most long = rw (← means, long) (square_start_announces p v few most)

pub returns-in_err-self : goal.returns-in_err-self
returns-in_err-self c =
    let self = c.args.self in
    let none : self.count ≡ None = c.in_err-self.was in
    rw (c.from_residual.ensures, none) (still_foresees counting (unloaded (periodic_mode self.mode) None self.value) (no_count_still self.mode self.value))

pub returns-in-RateGenerator : goal.returns-in-RateGenerator
returns-in-RateGenerator c =
    let p = c.from-period.result in
    let some : c.args.self.count ≡ Some c.in_ok-self.field-0 = c.in_ok-self.was in
    rw (some, c.in-RateGenerator.is, c.ticks.ensures) (rate _ p.ticks c.args.self.value c.from-period.ensures p.within.0 p.within.1)

pub returns-in-SquareWave : goal.returns-in-SquareWave
returns-in-SquareWave c =
    let p = c.from-period.result in
    let some : c.args.self.count ≡ Some c.in_ok-self.field-0 = c.in_ok-self.was in
    rw (some, c.in-SquareWave.is) (square _ p.ticks c.args.self.value c.half_length.result c.from-period.ensures p.within.0 p.within.1 c.half_length.ensures)
