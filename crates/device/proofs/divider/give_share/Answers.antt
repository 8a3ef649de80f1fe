use Rattle.std.proofs.Common.{◌+◌, ◌/◌, ◌<◌, ◌≤◌, div-lt_iff_lt-mul, arith}
use native.Mathlib.Nat.{min-eq_left}
use Rattle.rules.specs.Device.{horizon}
use Rattle.rules.specs.TickLaws.{lagging_less}
use Rattle.device.proofs.divider.give_share.Goals as goal

-- The inner device's share of at most 2^32 periods is at most 2^32 itself, so its own limit changes nothing.
pub returns-clause-same : goal.returns-clause-same
returns-clause-same g c =
    let m = g.D.Device.meaning in
    let s = g.D.Device.state c.args.inner.now in
    let factor = c.args.factor in
    let since = c.args.since in
    let share = c.quotient_and_remainder-ticks.result in
    let below : since / factor < horizon + 1 = (div-lt_iff_lt-mul c.requires.some).1 (omega arith) in
    let few : share.0 ≤ horizon = omega arith in
    rw (c.skip.ensures, min-eq_left few, ← lagging_less m c.args.factor share.0 share.1 s c.requires.some, c.quotient_and_remainder-ticks.ensures.whole)
