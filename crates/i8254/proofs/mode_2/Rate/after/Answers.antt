use Rattle.std.proofs.Common.{◌≡◌, ℕ, ◌-◌, ◌%◌, ◌<◌, ◌≤◌, sym}
use Rattle.rules.specs.Device.{ticks}
use Rattle.i8254_laws.specs.Machines.{counting}
use Rattle.i8254_laws.specs.Counters.{mode_2_counter}
use Rattle.i8254_laws.specs.Mode2.{rate_before, rate_after}
use Rattle.i8254.proofs.mode_2.Rate.after.Goals as goal
use Rattle.i8254.proofs.mode_2.Rate.after.Goals.{then-n-to_load, else-n-to_load}

-- v stands for r
before : (k n r v h : ℕ) → r % 65536 ≡ v → r ≤ 65536 → k < r → h ≡ (r - k) % 65536 → mode_2_counter n h ≡ ticks counting k (mode_2_counter n v)
before k n r v h same many short is = rw (is, ← same) (sym (rate_before k n r short many))

after : (k n r v h : ℕ) → r % 65536 ≡ v → 1 ≤ r → r ≤ 65536 → r ≤ k → 2 ≤ n → n ≤ 65536 → h ≡ (n - (k - r) % n) % 65536 → mode_2_counter n h ≡ ticks counting k (mode_2_counter n v)
after k n r v h same some many long few most is = rw (is, ← same) (sym (rate_after k n r some long many few most))

pub returns : goal.returns
returns c =
    let self = c.args.self in
    let period = self.period in
    let load = c.ticks_to_zero-to_load in
    elim c.if-n-to_load.branch [
      | then-n-to_load w ↦ rw w.value-is (before c.args.n period.ticks load.result self.value w.bits_of-value.result load.ensures.same load.ensures.within.1 w.if-n-to_load.true w.bits_of-value.ensures)
      | else-n-to_load w ↦
          let held = w.bits_of-value-else-n-to_load in
          rw w.value-is (after c.args.n period.ticks load.result self.value held.result load.ensures.same load.ensures.within.0 load.ensures.within.1 w.if-n-to_load.false period.within.0 period.within.1 (rw (w.past_whole.ensures, c.ticks-period.ensures) at held.ensures))
    ]
