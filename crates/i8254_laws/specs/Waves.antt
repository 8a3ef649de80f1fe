-- The waves that the timer's OUT shows from a fresh count on.
use Rattle.std.specs.Prelude.{◌≡◌, ℕ, zero, suc, ◌+◌, ◌-◌, ◌/◌, ◌%◌, ◌≤◌, Bool, cond, not, ◌==◌, nat_le, nat_lt}
use Rattle.rules.specs.Device.{level_after}
use Rattle.rules.specs.I8254.{Timer, timer, write_timer}

-- Control words for channel 0 that ask for both bytes of a count.
abbrev pub mode_0_word : ℕ
mode_0_word = 0x30

abbrev pub mode_2_word : ℕ
mode_2_word = 0x34

abbrev pub mode_3_word : ℕ
mode_3_word = 0x36

-- A timer, in any state, after a control word and the two bytes of the count n; 65,536 is written as 0.
abbrev pub programmed : ℕ → ℕ → Timer → Timer
programmed word n t = write_timer (write_timer (write_timer t 3 word) 0 (n % 256)) 0 (n / 256 % 256)

-- OUT k ticks after that.
abbrev pub out_after : ℕ → ℕ → Timer → ℕ → Bool
out_after word n t k = level_after timer k (programmed word n t)

-- How many of n ticks in a row, from the tick `first` on, leave a signal high.
unfoldable pub high_ticks : (ℕ → Bool) → ℕ → ℕ → ℕ
high_ticks signal first zero = 0
high_ticks signal first (suc n) = cond (signal first) 1 0 + high_ticks signal (first + 1) n

pub record WaveLaws : Type 0 where
  -- mode 0: OUT is low up to the tick n + 1, when it rises, and high from then on
  pub rises_once : (t : Timer) (n : ℕ) → 1 ≤ n → n ≤ 65536 → (k : ℕ) → out_after mode_0_word n t k ≡ nat_le (n + 1) k
  -- mode 2: the first tick loads; of each n ticks from there on OUT is low after the last one alone
  pub low_last : (t : Timer) (n : ℕ) → 2 ≤ n → n ≤ 65536 → (k : ℕ) → out_after mode_2_word n t (k + 1) ≡ not (k % n == n - 1)
  -- so of any n ticks in a row it is low after exactly one
  pub low_once : (t : Timer) (n : ℕ) → 2 ≤ n → n ≤ 65536 → (k : ℕ) → high_ticks (out_after mode_2_word n t) (k + 1) n ≡ n - 1
  -- mode 3: the first tick loads; of each n ticks from there on OUT is high for (n + n % 2) / 2 and then low
  pub high_then_low : (t : Timer) (n : ℕ) → 2 ≤ n → n ≤ 65536 → (k : ℕ) → out_after mode_3_word n t (k + 1) ≡ nat_lt (k % n) ((n + n % 2) / 2)
  -- so of any n ticks in a row it is high after that many, and low after the (n - n % 2) / 2 others
  pub high_half : (t : Timer) (n : ℕ) → 2 ≤ n → n ≤ 65536 → (k : ℕ) → high_ticks (out_after mode_3_word n t) (k + 1) n ≡ (n + n % 2) / 2
  pub low_half : (n : ℕ) → n - (n + n % 2) / 2 ≡ (n - n % 2) / 2
