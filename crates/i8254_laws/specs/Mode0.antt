-- Mode 0: a waiting count loads, then the counter goes down for ever. With a value that stands for r, 1 to 65,536, OUT goes
-- high after r ticks.
use Rattle.std.specs.Prelude.{◌≡◌, ℕ, zero, suc, ◌+◌, ◌-◌, ◌%◌, ◌<◌, ◌≤◌, Bool, true, false, ◌||◌, Some, None, Option, nat_le, refl}
use Rattle.std.proofs.Common.{sym, ap, ◌∙◌, ⊎_elim, arith}
use Rattle.std.proofs.Math.Bool.{or-false, or-true}
use Rattle.std.proofs.lemmas.Bool.{ne_eqb, true≢false, cases_lt, le-leb, lt-leb}
use Rattle.std.proofs.lemmas.Bool.Decides.{nat_tests}
use Rattle.rules.specs.Device.{ticks, Announces}
use Rattle.rules.specs.TickLaws.{ticks_first}
use Rattle.rules.specs.I8254.{Counter, tick_counter, down, count_meant, mode_0}
use Rattle.i8254_laws.specs.Machines.{counting}
use Rattle.i8254_laws.specs.Foresight.{Foresees, still_foresees}
use Rattle.i8254_laws.specs.Counters.{less, mode_0_counter}
use Rattle.i8254_laws.specs.Runs.{in_parts, announces_later}

-- A counter that counts.
abbrev pub running : Bool → ℕ → Counter
running out v = mode_0_counter out true None v

-- Once OUT is high it stays high.
pub risen : (k v : ℕ) → v < 65536 → ticks counting k (running true v) ≡ running true (less k v)
unfolding ticks
risen zero v h = let e : v ≡ less 0 v = omega arith in ap (running true) e
risen (suc k) v h = let e : less k (down 1 v) ≡ less (suc k) v = omega arith in risen k (down 1 v) (omega arith) ∙ ap (running true) e

-- Before the counter comes to 0.
pub terminal_before : (k r : ℕ) (out : Bool) → k < r → r ≤ 65536 → ticks counting k (running out (r % 65536)) ≡ running out ((r - k) % 65536)
unfolding ticks
terminal_before zero r out h many = let e : r ≡ r - 0 = omega arith in ap (λ x. running out (x % 65536)) e
terminal_before (suc k) r out h many =
    let v : down 1 (r % 65536) ≡ (r - 1) % 65536 = omega arith in
    let e : r - 1 - k ≡ r - suc k = omega arith in
    let some : (r - 1) % 65536 ≡ 0 → ⊥ = λ z. omega arith in
    ap (ticks counting k) (rw (v, ne_eqb ((r - 1) % 65536) 0 some, or-false out))
    ∙ terminal_before k (r - 1) out (omega arith) (omega arith)
    ∙ ap (λ x. running out (x % 65536)) e

-- When it comes to 0.
rises : (r : ℕ) (out : Bool) → 1 ≤ r → r ≤ 65536 → ticks counting r (running out (r % 65536)) ≡ running true 0
unfolding ticks
rises r out some many =
    let one : (r - (r - 1)) % 65536 ≡ 1 = omega arith in
    in_parts counting r (r - 1) 1 (running out (r % 65536)) (omega arith)
    ∙ ap tick_counter (terminal_before (r - 1) r out (omega arith) many ∙ ap (running out) one)
    ∙ ap (λ b. running b 0) (or-true out)

pub terminal_after : (k r : ℕ) (out : Bool) → r ≤ k → 1 ≤ r → r ≤ 65536 → ticks counting k (running out (r % 65536)) ≡ running true (less (k - r) 0)
terminal_after k r out h some many =
    in_parts counting k r (k - r) (running out (r % 65536)) (omega arith)
    ∙ ap (ticks counting (k - r)) (rises r out some many)
    ∙ risen (k - r) 0 (omega arith)

-- All of it: after k ticks OUT is high if it was or if r of them are over.
pub terminal : (k r : ℕ) (out : Bool) → 1 ≤ r → r ≤ 65536 → ticks counting k (running out (r % 65536)) ≡ running (out || nat_le r k) (less k (r % 65536))
terminal k r out some many = ⊎_elim before after (cases_lt k r)
  where
    before : k < r → ticks counting k (running out (r % 65536)) ≡ running (out || nat_le r k) (less k (r % 65536))
    before h =
        let e : (r - k) % 65536 ≡ less k (r % 65536) = omega arith in
        rw (lt-leb r k h, or-false out) (terminal_before k r out h many ∙ ap (running out) e)

    after : r ≤ k → ticks counting k (running out (r % 65536)) ≡ running (out || nat_le r k) (less k (r % 65536))
    after h =
        let e : less (k - r) 0 ≡ less k (r % 65536) = omega arith in
        rw (le-leb r k h, or-true out) (terminal_after k r out h some many ∙ ap (running true) e)

-- A waiting count loads first.
pub terminal_loads : (k n v : ℕ) (out loaded : Bool) → ticks counting (k + 1) (mode_0_counter out loaded (Some n) v) ≡ ticks counting k (running out (n % 65536))
terminal_loads k n v out loaded = ticks_first counting k (mode_0_counter out loaded (Some n) v)

-- A count as written, below 65,536, is what the counter holds when it is loaded.
pub written_held : (w : ℕ) → w < 65536 → count_meant mode_0 w % 65536 ≡ w
written_held w h = grind (arith, nat_tests)

pub terminal_waiting : (k w v : ℕ) (out loaded : Bool) → 1 ≤ k → w < 65536 → ticks counting k (mode_0_counter out loaded (Some (count_meant mode_0 w)) v) ≡ ticks counting (k - 1) (running out w)
terminal_waiting k w v out loaded some h =
    let last : k ≡ k - 1 + 1 = omega arith in
    ap (λ j. ticks counting j (mode_0_counter out loaded (Some (count_meant mode_0 w)) v)) last
    ∙ terminal_loads (k - 1) (count_meant mode_0 w) v out loaded
    ∙ ap (λ x. ticks counting (k - 1) (running out x)) (written_held w h)

-- OUT low rises after r ticks.
pub terminal_announces : (r : ℕ) → 1 ≤ r → r ≤ 65536 → Announces counting (running false (r % 65536)) (Some r)
terminal_announces r some many =
    (some, omega arith, (λ j h. ap counting.level (terminal_before j r false h many)), λ e. true≢false (sym (ap counting.level (rises r false some many)) ∙ e))

pub terminal_waits_announces : (n v : ℕ) (loaded : Bool) → 1 ≤ n → n ≤ 65536 → Announces counting (mode_0_counter false loaded (Some n) v) (Some (n + 1))
terminal_waits_announces n v loaded some many =
    announces_later counting (mode_0_counter false loaded (Some n) v) (running false (n % 65536)) n refl refl (omega arith) (terminal_announces n some many)

-- OUT high stays.
loads_high : (n v : ℕ) (loaded : Bool) → Foresees counting (mode_0_counter true loaded (Some n) v) None
unfolding ticks
loads_high n v loaded zero = refl
loads_high n v loaded (suc j) = ap counting.level (risen j (n % 65536) (omega arith))

pub high_stays : (v : ℕ) (loaded : Bool) (waiting : Option ℕ) → v < 65536 → Foresees counting (mode_0_counter true loaded waiting v) None
high_stays v loaded (Some n) h = loads_high n v loaded
high_stays v true None h = λ j. ap counting.level (risen j v h)
high_stays v false None h = still_foresees counting (mode_0_counter true false None v) refl
