-- The pulse generator in closed form, and when its level flips.
use Rattle.std.proofs.Common.{◌≡◌, ℕ, zero, suc, ◌+◌, ◌-◌, ◌*◌, ◌/◌, ◌%◌, ◌<◌, ◌≤◌, true, false, Some, sym, refl, ap, ◌∙◌, ⊎_elim, add-mul, arith}
use native.Mathlib.Nat.{sub-zero, zero-mod, zero-div}
use Rattle.std.proofs.lemmas.Nat.{div-add-mod', div-mul-add, mod-mul-add, mod_below}
use Rattle.std.proofs.lemmas.Bool.{cases_lt}
use Rattle.std.proofs.lemmas.Bool.Decides.{nat_tests}
use Rattle.rules.specs.Device.{ticks, Announces}
use Rattle.rules.specs.TickLaws.{ticks_add, ticks_last}
use Rattle.rules.specs.Flips.{flips, flip_differs, flips_first, flips_last}
use Rattle.pulse.specs.Pulse.{Counting, lowered, reloaded, tick_pulse, pulse_generator, FlipsEveryReload, started}

-- One tick, within a count and at its end.
lowers : (p : Counting) → p.running ≡ true → 1 < p.count → tick_pulse p ≡ lowered p
lowers p on more = grind (arith, nat_tests)

reloads : (p : Counting) → p.running ≡ true → p.count ≤ 1 → tick_pulse p ≡ reloaded p
reloads p on last = grind (arith, nat_tests)

-- Before the count runs out, it falls by one a tick.
abbrev counted : ℕ → Counting → Counting
counted n p = record { reload = p.reload; count = p.count - n; running = p.running; high = p.high }

pub ticks_within : (n : ℕ) (p : Counting) → p.running ≡ true → n < p.count → ticks pulse_generator n p ≡ counted n p
unfolding ticks
ticks_within zero p on h = rw sub-zero
ticks_within (suc n) p on h =
    let more : 1 < p.count = omega arith in
    let less : p.count - suc n ≡ p.count - 1 - n = omega arith in
    ap (ticks pulse_generator n) (lowers p on more) ∙ ticks_within n (lowered p) on (omega arith) ∙ rw less

-- The tick on which it runs out reloads it.
pub ticks_out : (p : Counting) → p.running ≡ true → 1 ≤ p.count → ticks pulse_generator p.count p ≡ reloaded p
ticks_out p on some =
    let last : p.count ≡ p.count - 1 + 1 = omega arith in
    ap (λ n. ticks pulse_generator n p) last
    ∙ ticks_last pulse_generator (p.count - 1) p
    ∙ ap tick_pulse (ticks_within (p.count - 1) p on (omega arith))
    ∙ reloads (counted (p.count - 1) p) on (omega arith)

-- Quotient and remainder of the next number, within a period and at its end.
next_within : (n r : ℕ) → n % r + 1 < r → ((n + 1) / r ≡ n / r) × ((n + 1) % r ≡ n % r + 1)
next_within n r h =
    let sum : n + 1 ≡ n / r * r + (n % r + 1) = omega (arith, div-add-mod' n r) in
    (ap (λ k. k / r) sum ∙ div-mul-add (n / r) r (n % r + 1) h, ap (λ k. k % r) sum ∙ mod-mul-add (n / r) r (n % r + 1) h)

next_over : (n r : ℕ) → 1 ≤ r → r ≤ n % r + 1 → ((n + 1) / r ≡ n / r + 1) × ((n + 1) % r ≡ 0)
next_over n r some h =
    let below : n % r < r = mod_below n r some in
    let sum : n + 1 ≡ (n / r + 1) * r + 0 = rw add-mul (omega (arith, div-add-mod' n r)) in
    (ap (λ k. k / r) sum ∙ div-mul-add (n / r + 1) r 0 some, ap (λ k. k % r) sum ∙ mod-mul-add (n / r + 1) r 0 some)

-- n ticks after a start at the reload value: each whole count flips the level, and the rest is counted.
abbrev pub fresh_after : ℕ → Counting → Counting
fresh_after n p = record { reload = p.reload; count = p.reload - n % p.reload; running = p.running; high = flips (n / p.reload) p.high }

fresh_within : (n : ℕ) (p : Counting) → p.running ≡ true → n % p.reload + 1 < p.reload → tick_pulse (fresh_after n p) ≡ fresh_after (n + 1) p
fresh_within n p on h =
    let next : ((n + 1) / p.reload ≡ n / p.reload) × ((n + 1) % p.reload ≡ n % p.reload + 1) = next_within n p.reload h in
    let less : p.reload - n % p.reload - 1 ≡ p.reload - (n % p.reload + 1) = omega arith in
    lowers (fresh_after n p) on (omega arith) ∙ rw (next.0, next.1, less)

fresh_over : (n : ℕ) (p : Counting) → p.running ≡ true → 1 ≤ p.reload → p.reload ≤ n % p.reload + 1 → tick_pulse (fresh_after n p) ≡ fresh_after (n + 1) p
fresh_over n p on some h =
    let next : ((n + 1) / p.reload ≡ n / p.reload + 1) × ((n + 1) % p.reload ≡ 0) = next_over n p.reload some h in
    reloads (fresh_after n p) on (omega arith) ∙ rw (next.0, next.1, sub-zero, flips_last)

pub ticks_fresh : (n : ℕ) (p : Counting) → p.running ≡ true → 1 ≤ p.reload → p.count ≡ p.reload → ticks pulse_generator n p ≡ fresh_after n p
unfolding ticks flips
ticks_fresh zero p on some whole = rw (zero-mod, zero-div, sub-zero, ← whole)
ticks_fresh (suc n) p on some whole =
    let one : suc n ≡ n + 1 = omega arith in
    ap (λ k. ticks pulse_generator k p) one
    ∙ ticks_last pulse_generator n p
    ∙ ap tick_pulse (ticks_fresh n p on some whole)
    ∙ ⊎_elim (fresh_within n p on) (fresh_over n p on some) (cases_lt (n % p.reload + 1) p.reload)
    ∙ ap (λ k. fresh_after k p) (sym one)

-- At and past the end of the present count.
abbrev pub past_after : ℕ → Counting → Counting
past_after n p = record { reload = p.reload; count = p.reload - (n - p.count) % p.reload; running = p.running; high = flips ((n - p.count) / p.reload + 1) p.high }

pub ticks_past : (n : ℕ) (p : Counting) → p.running ≡ true → 1 ≤ p.reload → 1 ≤ p.count → p.count ≤ n → ticks pulse_generator n p ≡ past_after n p
ticks_past n p on some first h =
    let sum : n ≡ p.count + (n - p.count) = omega arith in
    ap (λ k. ticks pulse_generator k p) sum
    ∙ ticks_add pulse_generator p.count (n - p.count) p
    ∙ ap (ticks pulse_generator (n - p.count)) (ticks_out p on first)
    ∙ ticks_fresh (n - p.count) (reloaded p) on some refl
    ∙ rw flips_first

pub still : (p : Counting) → p.running ≡ false → tick_pulse p ≡ p
still p off = rw off

-- The level stays until the count runs out, and flips there.
pub pulse_announces : (p : Counting) → p.running ≡ true → 1 ≤ p.count → p.count ≤ 65536 → Announces pulse_generator p (Some p.count)
pulse_announces p on some few = (
  some,
  omega arith,
  (λ j early. ap (λ q. q.high) (ticks_within j p on early)),
  (λ same. flip_differs p.high (sym (ap (λ q. q.high) (ticks_out p on some)) ∙ same)),
)

pub flips_each_reload : FlipsEveryReload
flips_each_reload p byte n some on = ap (λ q. q.high) (ticks_fresh n (started p byte) on some refl)
