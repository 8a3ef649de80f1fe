-- Mode 3: halves alternate, high and low. Within a half the counter goes down by two; each half loads the newest count.
use Rattle.std.specs.Prelude.{◌≡◌, ℕ, zero, suc, ◌+◌, ◌-◌, ◌*◌, ◌%◌, ◌<◌, ◌≤◌, Bool, true, false, not, Some, refl}
use Rattle.std.proofs.Common.{sym, ap, ap₂, ◌∙◌, mod-lt, arith}
use Rattle.std.proofs.Math.Bool.{not-not}
use Rattle.rules.specs.Device.{ticks, Announces}
use Rattle.rules.specs.TickLaws.{ticks_add, ticks_first}
use Rattle.rules.specs.Flips.{flip_differs}
use Rattle.rules.specs.I8254.{Counter, tick_counter, mode_3, down, half_length}
use Rattle.i8254_laws.specs.Machines.{counting, Turns}
use Rattle.i8254_laws.specs.Counters.{less, unloaded, mode_3_counter}
use Rattle.i8254_laws.specs.Runs.{in_parts, periodic, announces_later, turns}

-- Where a half of the count n begins.
abbrev pub even_part : ℕ → ℕ
even_part n = (n - n % 2) % 65536

abbrev pub begun : ℕ → Bool → Counter
begun n high = mode_3_counter n high (half_length high n - 1) (even_part n)

-- Both halves last a tick at least, and together they last n.
some_half : (n : ℕ) (high : Bool) → 2 ≤ n → 1 ≤ half_length high n
some_half n true h = omega arith
some_half n false h = omega arith

both_halves : (n : ℕ) (high : Bool) → half_length high n + half_length (not high) n ≡ n
both_halves n true = omega arith
both_halves n false = omega arith

-- Within the present half.
pub square_within : (k n left v : ℕ) (high : Bool) → k ≤ left → v < 65536 → ticks counting k (mode_3_counter n high left v) ≡ mode_3_counter n high (left - k) (less (2 * k) v)
unfolding ticks
square_within zero n left v high h few =
    let e : left ≡ left - 0 = omega arith in
    let f : v ≡ less (2 * 0) v = omega arith in
    ap₂ (mode_3_counter n high) e f
square_within (suc k) n zero v high h few = absurd (omega arith)
square_within (suc k) n (suc left) v high h few =
    let e : left - k ≡ suc left - suc k = omega arith in
    let f : less (2 * k) (down 2 v) ≡ less (2 * suc k) v = omega arith in
    square_within k n left (down 2 v) high (omega arith) (omega arith) ∙ ap₂ (mode_3_counter n high) e f

-- After its last tick the other half begins.
pub square_turns : (n left v : ℕ) (high : Bool) → v < 65536 → ticks counting (left + 1) (mode_3_counter n high left v) ≡ begun n (not high)
unfolding ticks
square_turns n left v high few =
    let none : left - left ≡ 0 = omega arith in
    let same : left ≤ left = omega arith in
    ticks_add counting left 1 (mode_3_counter n high left v)
    ∙ ap tick_counter (square_within left n left v high same few ∙ ap (λ l. mode_3_counter n high l (less (2 * left) v)) none)

half_over : (n : ℕ) (high : Bool) → 2 ≤ n → ticks counting (half_length high n) (begun n high) ≡ begun n (not high)
half_over n high h =
    let some : 1 ≤ half_length high n = some_half n high h in
    let last : half_length high n ≡ half_length high n - 1 + 1 = omega arith in
    ap (λ k. ticks counting k (begun n high)) last ∙ square_turns n (half_length high n - 1) (even_part n) high (omega arith)

period_over : (n : ℕ) (high : Bool) → 2 ≤ n → ticks counting n (begun n high) ≡ begun n high
period_over n high h =
    in_parts counting n (half_length high n) (half_length (not high) n) (begun n high) (sym (both_halves n high))
    ∙ ap (ticks counting (half_length (not high) n)) (half_over n high h)
    ∙ half_over n (not high) h
    ∙ ap (begun n) (not-not high)

-- A half of the count n, k ticks after it began.
abbrev pub part_of_half : ℕ → Bool → ℕ → Counter
part_of_half n high k = mode_3_counter n high (half_length high n - 1 - k) (less (2 * k) (even_part n))

pub half_begins : (n : ℕ) (high : Bool) → part_of_half n high 0 ≡ begun n high
half_begins n high =
    let e : half_length high n - 1 - 0 ≡ half_length high n - 1 = omega arith in
    let f : less (2 * 0) (even_part n) ≡ even_part n = omega arith in
    ap₂ (mode_3_counter n high) e f

-- k ticks after a half began the counter is in such a half again, or in the other one.
pub square_first : (k n : ℕ) (high : Bool) → 2 ≤ n → k % n < half_length high n → ticks counting k (begun n high) ≡ part_of_half n high (k % n)
square_first k n high h within =
    periodic counting n (begun n high) (period_over n high h) k
    ∙ square_within (k % n) n (half_length high n - 1) (even_part n) high (omega arith) (omega arith)

pub square_second : (k n : ℕ) (high : Bool) → 2 ≤ n → half_length high n ≤ k % n → ticks counting k (begun n high) ≡ part_of_half n (not high) (k % n - half_length high n)
square_second k n high h past =
    let some : 0 < n = omega arith in
    let below : k % n < n = mod-lt k some in
    let sum : half_length high n + half_length (not high) n ≡ n = both_halves n high in
    let other : 1 ≤ half_length (not high) n = some_half n (not high) h in
    periodic counting n (begun n high) (period_over n high h) k
    ∙ in_parts counting (k % n) (half_length high n) (k % n - half_length high n) (begun n high) (omega arith)
    ∙ ap (ticks counting (k % n - half_length high n)) (half_over n high h)
    ∙ square_within (k % n - half_length high n) n (half_length (not high) n - 1) (even_part n) (not high) (omega arith) (omega arith)

-- Past the present half.
pub square_past : (k n left v : ℕ) (high : Bool) → v < 65536 → left < k → ticks counting k (mode_3_counter n high left v) ≡ ticks counting (k - left - 1) (begun n (not high))
square_past k n left v high few past =
    in_parts counting k (left + 1) (k - left - 1) (mode_3_counter n high left v) (omega arith)
    ∙ ap (ticks counting (k - left - 1)) (square_turns n left v high few)

-- The first load begins a high half.
pub square_starts : (k n v : ℕ) → ticks counting (k + 1) (unloaded mode_3 (Some n) v) ≡ ticks counting k (begun n true)
square_starts k n v = ticks_first counting k (unloaded mode_3 (Some n) v)

-- OUT changes with the half.
pub square_announces : (n left v : ℕ) (high : Bool) → v < 65536 → left < 65536 → Announces counting (mode_3_counter n high left v) (Some (left + 1))
square_announces n left v high few short =
    (omega arith, omega arith, (λ j h. ap counting.level (square_within j n left v high (omega arith) few)), λ e. flip_differs high (sym (ap counting.level (square_turns n left v high few)) ∙ e))

pub square_turned : (n left v : ℕ) (high : Bool) → v < 65536 → left < 65536 → Turns counting (mode_3_counter n high left v) (begun n (not high))
square_turned n left v high few short =
    turns counting (mode_3_counter n high left v) (begun n (not high)) (left + 1) (square_announces n left v high few short) (square_turns n left v high few)

pub square_start_announces : (n v : ℕ) → 2 ≤ n → n ≤ 65536 → Announces counting (unloaded mode_3 (Some n) v) (Some (half_length true n + 1))
square_start_announces n v h most =
    let some : 1 ≤ half_length true n = some_half n true h in
    let sum : half_length true n - 1 + 1 + 1 ≡ half_length true n + 1 = omega arith in
    let now_begun = square_announces n (half_length true n - 1) (even_part n) true (omega arith) (omega arith) in
    let later = announces_later counting (unloaded mode_3 (Some n) v) (begun n true) (half_length true n - 1 + 1) refl refl (omega arith) now_begun in
    rw sum at later
