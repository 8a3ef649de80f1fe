-- The square wave in closed form, and when its level flips. It is worked out in full, as an example of what a device of one's own
-- asks for; the laws of the divider would give it too.
use Rattle.std.proofs.Common.{◌≡◌, ℕ, zero, suc, ◌+◌, ◌-◌, ◌/◌, ◌%◌, ◌<◌, ◌≤◌, not, Some, sym, ap, ◌∙◌, ⊎_elim, add-zero, mod-eq_of_lt, zero-add, arith}
use native.Mathlib.Nat.{add-mod_left, add-div_left, div-eq_of_lt, div_self}
use Rattle.std.proofs.lemmas.Bool.{cases_lt}
use Rattle.std.proofs.lemmas.Bool.Decides.{nat_tests}
use Rattle.rules.specs.Device.{ticks, level_after, Announces}
use Rattle.rules.specs.Flips.{flips, flips_first, flip_differs}
use Rattle.device_tests.specs.Wave.{Wave, tick_wave, square_wave}

-- n ticks later: each whole half flips the level, and the rest has elapsed.
abbrev pub wave_after : ℕ → Wave → Wave
wave_after n w = record { half = w.half; elapsed = (w.elapsed + n) % w.half; high = flips ((w.elapsed + n) / w.half) w.high }

-- One tick, within a half and at its end.
tick_within : (w : Wave) → w.elapsed + 1 < w.half → tick_wave w ≡ record { half = w.half; elapsed = w.elapsed + 1; high = w.high }
tick_within w h = grind (arith, nat_tests)

tick_over : (w : Wave) → w.half ≤ w.elapsed + 1 → tick_wave w ≡ record { half = w.half; elapsed = 0; high = not w.high }
tick_over w h = grind (arith, nat_tests)

tick_keeps : (w : Wave) → w.elapsed < w.half → (tick_wave w).elapsed < (tick_wave w).half
tick_keeps w h = grind (arith, nat_tests)

-- The closed form takes a first tick in.
after_within : (n : ℕ) (w : Wave) → w.elapsed + 1 < w.half → wave_after n (tick_wave w) ≡ wave_after (suc n) w
after_within n w k =
    let sum : w.elapsed + suc n ≡ w.elapsed + 1 + n = omega arith in
    rw (tick_within w k, sum)

after_over : (n : ℕ) (w : Wave) → w.elapsed < w.half → w.half ≤ w.elapsed + 1 → wave_after n (tick_wave w) ≡ wave_after (suc n) w
after_over n w h k =
    let some : 0 < w.half = omega arith in
    let sum : w.elapsed + suc n ≡ w.half + n = omega arith in
    rw (tick_over w k, zero-add, sum, add-mod_left, add-div_left n some, flips_first)

pub ticks_wave : (n : ℕ) (w : Wave) → w.elapsed < w.half → ticks square_wave n w ≡ wave_after n w
unfolding ticks flips
ticks_wave zero w h = rw (add-zero, mod-eq_of_lt h, div-eq_of_lt h)
ticks_wave (suc n) w h = ticks_wave n (tick_wave w) (tick_keeps w h) ∙ ⊎_elim (after_within n w) (after_over n w h) (cases_lt (w.elapsed + 1) w.half)

-- The level stays until the half is over, and turns there.
pub wave_announces : (w : Wave) → w.elapsed < w.half → w.half ≤ 256 → Announces square_wave w (Some (w.half - w.elapsed))
unfolding flips
wave_announces w h few =
    let high_after : (n : ℕ) → level_after square_wave n w ≡ flips ((w.elapsed + n) / w.half) w.high = λ n. ap (λ v. v.high) (ticks_wave n w h) in
    let some : 0 < w.half = omega arith in
    let over : w.elapsed + (w.half - w.elapsed) ≡ w.half = omega arith in
    let at : level_after square_wave (w.half - w.elapsed) w ≡ not w.high = high_after (w.half - w.elapsed) ∙ rw (over, div_self some) in (
      omega arith,
      omega arith,
      (λ j early. let within : w.elapsed + j < w.half = omega arith in high_after j ∙ rw (div-eq_of_lt within)),
      (λ same. flip_differs w.high (sym at ∙ same)),
    )
