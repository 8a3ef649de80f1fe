-- Mode 2: the counter goes down from its count to 1 and loads the count again. With a value v that stands for r, 1 to 65,536,
-- r ticks pass until the next load.
use Rattle.std.specs.Prelude.{◌≡◌, ℕ, zero, suc, ◌+◌, ◌-◌, ◌%◌, ◌<◌, ◌≤◌, true, false, not, Some, ◌==◌, ◌≢◌, refl}
use Rattle.std.proofs.Common.{sym, ap, ◌∙◌, subst, mod-lt, arith}
use Rattle.std.proofs.lemmas.Bool.{eq-eqb, true≢false, false≢true}
use Rattle.std.proofs.lemmas.Bool.Decides.{nat_tests}
use Rattle.rules.specs.Device.{ticks, level_after, Announces}
use Rattle.rules.specs.TickLaws.{ticks_first}
use Rattle.rules.specs.I8254.{tick_counter, mode_2, down, count_meant}
use Rattle.i8254_laws.specs.Machines.{counting, Turns}
use Rattle.i8254_laws.specs.Counters.{unloaded, mode_2_counter}
use Rattle.i8254_laws.specs.Runs.{in_parts, periodic, announces_later, turns}

-- A count as written, below 65,536, means 2 to 65,536 in modes 2 and 3.
pub meant_within : (w : ℕ) → w < 65536 → (2 ≤ count_meant mode_2 w) × (count_meant mode_2 w ≤ 65536)
meant_within w h = grind (arith, nat_tests)

-- OUT is high with more than one tick to go.
high : (r : ℕ) → 2 ≤ r → r ≤ 65536 → not (r % 65536 == 1) ≡ true
high r few many = grind (arith, nat_tests)

counts_down : (n r : ℕ) → 2 ≤ r → r ≤ 65536 → tick_counter (mode_2_counter n (r % 65536)) ≡ mode_2_counter n ((r - 1) % 65536)
counts_down n r few many =
    rw (high r few many) (let e : down 1 (r % 65536) ≡ (r - 1) % 65536 = omega arith in ap (mode_2_counter n) e)

loads : (n : ℕ) → 2 ≤ n → n ≤ 65536 → tick_counter (mode_2_counter n 1) ≡ mode_2_counter n (n % 65536)
loads n few many = rw (high n few many)

-- Before the next load.
pub rate_before : (k n r : ℕ) → k < r → r ≤ 65536 → ticks counting k (mode_2_counter n (r % 65536)) ≡ mode_2_counter n ((r - k) % 65536)
unfolding ticks
rate_before zero n r h many = ap (λ x. mode_2_counter n (x % 65536)) (let e : r ≡ r - 0 = omega arith in e)
rate_before (suc k) n r h many =
    let e : r - 1 - k ≡ r - suc k = omega arith in
    ap (ticks counting k) (counts_down n r (omega arith) many) ∙ rate_before k n (r - 1) (omega arith) (omega arith) ∙ ap (λ x. mode_2_counter n (x % 65536)) e

-- On the next load.
pub rate_load : (n r : ℕ) → 1 ≤ r → r ≤ 65536 → 2 ≤ n → n ≤ 65536 → ticks counting r (mode_2_counter n (r % 65536)) ≡ mode_2_counter n (n % 65536)
unfolding ticks
rate_load n r some many few most =
    let one : (r - (r - 1)) % 65536 ≡ 1 = omega arith in
    in_parts counting r (r - 1) 1 (mode_2_counter n (r % 65536)) (omega arith)
    ∙ ap tick_counter (rate_before (r - 1) n r (omega arith) many ∙ ap (mode_2_counter n) one)
    ∙ loads n few most

-- k ticks after a load.
pub rate_loaded : (k n : ℕ) → 2 ≤ n → n ≤ 65536 → ticks counting k (mode_2_counter n (n % 65536)) ≡ mode_2_counter n ((n - k % n) % 65536)
rate_loaded k n few most =
    periodic counting n (mode_2_counter n (n % 65536)) (rate_load n n (omega arith) most few most) k
    ∙ rate_before (k % n) n n (mod-lt k (let some : 0 < n = omega arith in some)) most

-- On the next load and after it.
pub rate_after : (k n r : ℕ) → 1 ≤ r → r ≤ k → r ≤ 65536 → 2 ≤ n → n ≤ 65536 → ticks counting k (mode_2_counter n (r % 65536)) ≡ mode_2_counter n ((n - (k - r) % n) % 65536)
rate_after k n r some h many few most =
    in_parts counting k r (k - r) (mode_2_counter n (r % 65536)) (omega arith)
    ∙ ap (ticks counting (k - r)) (rate_load n r some many few most)
    ∙ rate_loaded (k - r) n few most

-- The first load.
starts : (n v : ℕ) → 2 ≤ n → n ≤ 65536 → tick_counter (unloaded mode_2 (Some n) v) ≡ mode_2_counter n (n % 65536)
starts n v few most = rw (high n few most)

pub rate_starts : (k n v : ℕ) → 2 ≤ n → n ≤ 65536 → ticks counting (k + 1) (unloaded mode_2 (Some n) v) ≡ ticks counting k (mode_2_counter n (n % 65536))
rate_starts k n v few most = ticks_first counting k (unloaded mode_2 (Some n) v) ∙ ap (ticks counting k) (starts n v few most)

-- OUT high: it goes low when the counter comes to 1.
pub rate_announces : (n r : ℕ) → 2 ≤ r → r ≤ 65536 → Announces counting (mode_2_counter n (r % 65536)) (Some (r - 1))
rate_announces n r few many = (omega arith, omega arith, before, after)
  where
    now_high : not (r % 65536 == 1) ≡ true
    now_high = high r few many

    before : (j : ℕ) → j < r - 1 → level_after counting j (mode_2_counter n (r % 65536)) ≡ not (r % 65536 == 1)
    before j h = ap counting.level (rate_before j n r (omega arith) many) ∙ high (r - j) (omega arith) (omega arith) ∙ sym now_high

    at_1 : level_after counting (r - 1) (mode_2_counter n (r % 65536)) ≡ false
    at_1 = ap counting.level (rate_before (r - 1) n r (omega arith) many) ∙ ap not (eq-eqb ((r - (r - 1)) % 65536) 1 (omega arith))

    after : level_after counting (r - 1) (mode_2_counter n (r % 65536)) ≡ not (r % 65536 == 1) → ⊥
    after e = false≢true (sym at_1 ∙ e ∙ now_high)

-- OUT low: it goes high with the next load.
pub rate_low_announces : (n : ℕ) → 2 ≤ n → n ≤ 65536 → Announces counting (mode_2_counter n 1) (Some 1)
unfolding ticks
rate_low_announces n few most = (omega arith, omega arith, before, λ e. true≢false (sym (ap counting.level (loads n few most) ∙ high n few most) ∙ e))
  where
    before : (j : ℕ) → j < 1 → level_after counting j (mode_2_counter n 1) ≡ false
    before zero h = refl
    before (suc j) h = absurd (omega arith)

-- Where OUT goes low, and where it goes high.
falls : (n r : ℕ) → 2 ≤ r → r ≤ 65536 → Turns counting (mode_2_counter n (r % 65536)) (mode_2_counter n 1)
falls n r few many =
    let one : (r - (r - 1)) % 65536 ≡ 1 = omega arith in
    turns counting (mode_2_counter n (r % 65536)) (mode_2_counter n 1) (r - 1) (rate_announces n r few many) (rate_before (r - 1) n r (omega arith) many ∙ ap (mode_2_counter n) one)

pub rate_falls : (n v : ℕ) → v < 65536 → v ≢ 1 → Turns counting (mode_2_counter n v) (mode_2_counter n 1)
rate_falls n zero h not_1 = falls n 65536 (omega arith) (omega arith)
rate_falls n (suc v) h not_1 =
    let held : suc v % 65536 ≡ suc v = omega arith in
    subst (λ w. Turns counting (mode_2_counter n w) (mode_2_counter n 1)) held (falls n (suc v) (omega arith) (omega arith))

pub rate_rises : (n : ℕ) → 2 ≤ n → n ≤ 65536 → Turns counting (mode_2_counter n 1) (mode_2_counter n (n % 65536))
rate_rises n few most =
    turns counting (mode_2_counter n 1) (mode_2_counter n (n % 65536)) 1 (rate_low_announces n few most) (rate_load n 1 (omega arith) (omega arith) few most)

-- Before the first load OUT is high, and then stays high until the counter comes to 1.
pub rate_start_announces : (n v : ℕ) → 2 ≤ n → n ≤ 65536 → Announces counting (unloaded mode_2 (Some n) v) (Some n)
rate_start_announces n v few most =
    let sum : n - 1 + 1 ≡ n = omega arith in
    let later = announces_later counting (unloaded mode_2 (Some n) v) (mode_2_counter n (n % 65536)) (n - 1) (starts n v few most) (high n few most) (omega arith) (rate_announces n n few most) in
    rw sum at later
