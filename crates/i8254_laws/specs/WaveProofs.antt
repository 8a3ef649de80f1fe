-- The laws of waves, from where a counter stands after any number of ticks.
use Rattle.std.specs.Prelude.{◌≡◌, ℕ, zero, suc, ◌+◌, ◌-◌, ◌*◌, ◌/◌, ◌%◌, ◌<◌, ◌≤◌, Bool, true, false, cond, not, Some, None, ◌==◌, nat_le, nat_lt}
use Rattle.std.proofs.Math.Path.{refl, sym, ap}
use Rattle.std.proofs.Common.{ap₂, ◌∙◌, ⊎_elim, zero-add, suc-add, add_assoc, mod-lt, mod-eq_of_lt, arith}
use Rattle.std.proofs.Math.Nat.{add-zero, add-mod_right}
use Rattle.std.proofs.Math.Numerals.{add-one}
use Rattle.std.proofs.lemmas.Bool.{cases_lt, lt-leb, lt-ltb, le-ltb, eq-eqb, ne_eqb}
use Rattle.std.proofs.lemmas.Bool.Decides.{nat_tests}
use Rattle.rules.specs.Device.{ticks, level_after}
use Rattle.rules.specs.I8254.{Timer, Channel, Counter, timer, low_then_high, count_meant, mode_0, mode_2, mode_3}
use Rattle.i8254_laws.specs.Machines.{counting, channel}
use Rattle.i8254_laws.specs.Counters.{mode_0_counter, unloaded}
use Rattle.i8254_laws.specs.Runs.{ticks_timer, free_run}
use Rattle.i8254_laws.specs.Mode0.{terminal, terminal_loads}
use Rattle.i8254_laws.specs.Mode2.{rate_starts, rate_loaded}
use Rattle.i8254_laws.specs.Mode3.{square_starts, square_first, square_second}
use Rattle.i8254_laws.specs.Waves.{mode_0_word, mode_2_word, mode_3_word, programmed, out_after, high_ticks, WaveLaws}

-- High ticks of a run are those of its parts.
high_ticks_add : (signal : ℕ → Bool) (first a b : ℕ) → high_ticks signal first (a + b) ≡ high_ticks signal first a + high_ticks signal (first + a) b
unfolding high_ticks
high_ticks_add signal first zero b = rw (zero-add b, add-zero first, zero-add (high_ticks signal first b))
high_ticks_add signal first (suc a) b =
    let at : first + 1 + a ≡ first + suc a = omega arith in
    rw (suc-add a b) (ap (λ x. cond (signal first) 1 0 + x) (high_ticks_add signal (first + 1) a b ∙ ap (λ f. high_ticks signal (first + 1) a + high_ticks signal f b) at) ∙ sym (add_assoc (cond (signal first) 1 0) (high_ticks signal (first + 1) a) (high_ticks signal (first + suc a) b)))

-- A signal that stays at a level has all of the ticks high, or none.
all_at : (level : Bool) (signal : ℕ → Bool) (first n : ℕ) → ((i : ℕ) → i < n → signal (first + i) ≡ level) → high_ticks signal first n ≡ cond level n 0
unfolding high_ticks
all_at true signal first zero h = refl
all_at false signal first zero h = refl
all_at level signal first (suc n) h =
    let here : signal first ≡ level = ap signal (sym (add-zero first)) ∙ h 0 (omega arith) in
    let shift : (i : ℕ) → first + 1 + i ≡ first + suc i = λ i. omega arith in
    let rest : high_ticks signal (first + 1) n ≡ cond level n 0 = all_at level signal (first + 1) n (λ i below. ap signal (shift i) ∙ h (suc i) (omega arith)) in
    rw (here, rest) (one_more level)
  where
    one_more : (b : Bool) → cond b 1 0 + cond b n 0 ≡ cond b (suc n) 0
    one_more true = omega arith
    one_more false = refl

-- A signal that shows the same wave again after every n ticks.
module _ (signal wave : ℕ → Bool) (n : ℕ) (shows : (k : ℕ) → signal (k + 1) ≡ wave (k % n)) where
  again : (k : ℕ) → signal (k + 1 + n) ≡ signal (k + 1)
  again k = let e : k + 1 + n ≡ k + n + 1 = omega arith in rw e (shows (k + n) ∙ ap wave (add-mod_right k n) ∙ sym (shows k))

  -- Any n ticks in a row have as many high ones as the first n.
  slide : (k : ℕ) → high_ticks signal (k + 1 + 1) n ≡ high_ticks signal (k + 1) n
  unfolding high_ticks
  slide k =
      let front : high_ticks signal (k + 1) (n + 1) ≡ cond (signal (k + 1)) 1 0 + high_ticks signal (k + 1 + 1) n = rw (add-one n) in
      let back : high_ticks signal (k + 1) (n + 1) ≡ high_ticks signal (k + 1) n + high_ticks signal (k + 1 + n) 1 = high_ticks_add signal (k + 1) n 1 in
      let last : high_ticks signal (k + 1 + n) 1 ≡ cond (signal (k + 1)) 1 0 = ap (λ b. cond b 1 0 + 0) (again k) ∙ add-zero (cond (signal (k + 1)) 1 0) in
      omega (arith, front, back, last)

  windows : (k : ℕ) → high_ticks signal (k + 1) n ≡ high_ticks signal 1 n
  windows zero = refl
  windows (suc k) = ap (λ f. high_ticks signal f n) (let e : suc k + 1 ≡ k + 1 + 1 = omega arith in e) ∙ slide k ∙ windows k

  in_first : (i : ℕ) → i < n → signal (1 + i) ≡ wave i
  in_first i below = let e : 1 + i ≡ i + 1 = omega arith in rw e (shows i ∙ ap wave (mod-eq_of_lt below))

  -- Where the wave is high and then low, they have its high ticks.
  high_ticks_of : (high : ℕ) → high ≤ n → ((i : ℕ) → i < high → wave i ≡ true) → ((i : ℕ) → high ≤ i → i < n → wave i ≡ false) → (k : ℕ) → high_ticks signal (k + 1) n ≡ high
  high_ticks_of high within up down k =
      let parts : n ≡ high + (n - high) = omega arith in
      windows k
      ∙ ap (high_ticks signal 1) parts
      ∙ high_ticks_add signal 1 high (n - high)
      ∙ ap₂ (λ a b. a + b)
      (all_at true signal 1 high (λ i h. in_first i (omega arith) ∙ up i h))
      (all_at false signal (1 + high) (n - high) (λ i h. ap signal (add_assoc 1 high i) ∙ in_first (high + i) (omega arith) ∙ down (high + i) (omega arith) (omega arith)))
      ∙ add-zero high

-- The two bytes of a count mean that count.
meant_0 : (n : ℕ) → 1 ≤ n → n ≤ 65536 → count_meant mode_0 (n % 256 + 256 * (n / 256 % 256)) ≡ n
meant_0 n some most = grind (arith, nat_tests)

meant_2 : (n : ℕ) → 2 ≤ n → n ≤ 65536 → count_meant mode_2 (n % 256 + 256 * (n / 256 % 256)) ≡ n
meant_2 n few most = grind (arith, nat_tests)

module _ (t : Timer) (n : ℕ) where
  v : ℕ
  v = t.channel_0.counter.value

  -- OUT is that of channel 0's counter, which waits for the count that the writes mean.
  waits : (word : ℕ) (c : ℕ → Counter) (meant : ℕ) → (programmed word n t).channel_0 ≡ record { access = low_then_high; low_byte = None; high_next = false; latch = None; counter = c meant } → meant ≡ n → (k : ℕ) → out_after word n t k ≡ level_after counting k (c n)
  waits word c meant left means k =
      let ch : Channel = record { access = low_then_high; low_byte = None; high_next = false; latch = None; counter = c meant } in
      ap timer.level (ticks_timer k (programmed word n t))
      ∙ ap (level_after channel k) left
      ∙ ap channel.level (free_run k ch refl)
      ∙ ap (λ m. level_after counting k (c m)) means

  waits_0 : 1 ≤ n → n ≤ 65536 → (k : ℕ) → out_after mode_0_word n t k ≡ level_after counting k (mode_0_counter false false (Some n) v)
  unfolding v
  waits_0 some most = waits mode_0_word (λ m. mode_0_counter false false (Some m) v) _ refl (meant_0 n some most)

  leb_suc : (k : ℕ) → nat_le n k ≡ nat_le (n + 1) (k + 1)
  leb_suc k = grind (arith, nat_tests)

  rises_once : 1 ≤ n → n ≤ 65536 → (k : ℕ) → out_after mode_0_word n t k ≡ nat_le (n + 1) k
  unfolding ticks
  rises_once some most zero = waits_0 some most 0 ∙ sym (lt-leb (n + 1) 0 (omega arith))
  rises_once some most (suc k) =
      rw (← add-one k)
      (waits_0 some most (k + 1)
      ∙ ap counting.level (terminal_loads k n v false false ∙ terminal k n false some most)
      ∙ leb_suc k)

  same_end : (q : ℕ) → 2 ≤ n → n ≤ 65536 → q < n → ((n - q) % 65536 == 1) ≡ (q == n - 1)
  same_end q few most h = grind (arith, nat_tests)

  low_last : 2 ≤ n → n ≤ 65536 → (k : ℕ) → out_after mode_2_word n t (k + 1) ≡ not (k % n == n - 1)
  unfolding v
  low_last few most k =
      let some : 0 < n = omega arith in
      waits mode_2_word (λ m. unloaded mode_2 (Some m) v) _ refl (meant_2 n few most) (k + 1)
      ∙ ap counting.level (rate_starts k n v few most ∙ rate_loaded k n few most)
      ∙ ap not (same_end (k % n) few most (mod-lt k some))

  high_then_low : 2 ≤ n → n ≤ 65536 → (k : ℕ) → out_after mode_3_word n t (k + 1) ≡ nat_lt (k % n) ((n + n % 2) / 2)
  unfolding v
  high_then_low few most k =
      waits mode_3_word (λ m. unloaded mode_3 (Some m) v) _ refl (meant_2 n few most) (k + 1)
      ∙ ap counting.level (square_starts k n v)
      ∙ ⊎_elim
      (λ h. ap counting.level (square_first k n true few h) ∙ sym (lt-ltb (k % n) ((n + n % 2) / 2) h))
      (λ h. ap counting.level (square_second k n true few h) ∙ sym (le-ltb (k % n) ((n + n % 2) / 2) h))
      (cases_lt (k % n) ((n + n % 2) / 2))

  low_once : 2 ≤ n → n ≤ 65536 → (k : ℕ) → high_ticks (out_after mode_2_word n t) (k + 1) n ≡ n - 1
  low_once few most =
      high_ticks_of (out_after mode_2_word n t) (λ q. not (q == n - 1)) n (low_last few most) (n - 1) (omega arith)
      (λ i h. ap not (ne_eqb i (n - 1) (λ e. omega arith)))
      (λ i last h. ap not (eq-eqb i (n - 1) (omega arith)))

  high_half : 2 ≤ n → n ≤ 65536 → (k : ℕ) → high_ticks (out_after mode_3_word n t) (k + 1) n ≡ (n + n % 2) / 2
  high_half few most =
      let high : ℕ = (n + n % 2) / 2 in
      high_ticks_of (out_after mode_3_word n t) (λ q. nat_lt q high) n (high_then_low few most) high (omega arith) (λ i h. lt-ltb i high h) (λ i past h. le-ltb i high past)

pub wave_laws : WaveLaws
wave_laws = record { rises_once = rises_once; low_last = low_last; low_once = low_once; high_then_low = high_then_low; high_half = high_half; low_half = λ n. omega arith }
