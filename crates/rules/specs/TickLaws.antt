-- Laws of ticks, for every meaning: how runs of ticks join, what a divider makes of them, and what announcements say.
use Rattle.std.specs.Prelude.{◌≡◌, ℕ, zero, suc, ◌+◌, ◌-◌, ◌*◌, ◌/◌, ◌%◌, ◌<◌, ◌≤◌, cond, Some, None, Option, nat_le, refl}
use Rattle.std.proofs.Common.{sym, ap, ◌∙◌, ⊎_elim, zero-add, add-zero, suc-add, mod-eq_of_lt, div-lt_iff_lt-mul, mul-div_cancel, add-one, arith}
use Rattle.std.proofs.Math.Nat.{add-mod_left, add-div_left, div-eq_of_lt, mul-mod_left}
use Rattle.std.proofs.lemmas.Bool.Decides.{nat_tests}
use Rattle.std.proofs.lemmas.Bool.{cases_lt, leb-true, leb-false, cond_both}
use Rattle.std.proofs.Props.{props}
use Rattle.rules.specs.Device.{Meaning, Lawful, ticks, level_after, Steady, horizon, Announces, empty_device, Divided, divider_tick, divided}

-- No ticks, and one tick more at either end of a run.
pub ticks_zero : {S : Type 0} (m : Meaning S) (s : S) → ticks m 0 s ≡ s
unfolding ticks
ticks_zero m s = refl

pub ticks_first : {S : Type 0} (m : Meaning S) (n : ℕ) (s : S) → ticks m (n + 1) s ≡ ticks m n (m.tick s)
unfolding ticks
ticks_first m n s = rw add-one

pub ticks_one : {S : Type 0} (m : Meaning S) (s : S) → ticks m 1 s ≡ m.tick s
unfolding ticks
ticks_one m s = refl

-- A run of n + k ticks is a run of n and then one of k.
pub ticks_add : {S : Type 0} (m : Meaning S) (n k : ℕ) (s : S) → ticks m (n + k) s ≡ ticks m k (ticks m n s)
unfolding ticks
ticks_add m zero k s = rw zero-add
ticks_add m (suc n) k s = rw suc-add (ticks_add m n k (m.tick s))

pub ticks_last : {S : Type 0} (m : Meaning S) (n : ℕ) (s : S) → ticks m (n + 1) s ≡ m.tick (ticks m n s)
ticks_last m n s = ticks_add m n 1 s ∙ ticks_one m (ticks m n s)

-- What every tick keeps, a run keeps.
pub ticks_keep : {S : Type 0} (m : Meaning S) (P : S → Type 0) → ((s : S) → P s → P (m.tick s)) → (n : ℕ) (s : S) → P s → P (ticks m n s)
unfolding ticks
ticks_keep m P keeps zero s p = p
ticks_keep m P keeps (suc n) s p = ticks_keep m P keeps n (m.tick s) (keeps s p)

-- What stands still for a tick stands still, and announces nothing.
pub ticks_still : {S : Type 0} (m : Meaning S) (n : ℕ) (s : S) → m.tick s ≡ s → ticks m n s ≡ s
unfolding ticks
ticks_still m zero s still = refl
ticks_still m (suc n) s still = rw still (ticks_still m n s still)

pub still_announces : {S : Type 0} (m : Meaning S) (s : S) → m.tick s ≡ s → Announces m s None
still_announces m s still = λ j near. ap m.level (ticks_still m j s still)

-- Where a view of each tick is a tick of the view, a view of a run is a run of the view.
pub ticks_along : {S R : Type 0} (m : Meaning S) (r : Meaning R) (view : S → R) → ((s : S) → view (m.tick s) ≡ r.tick (view s)) → (n : ℕ) (s : S) → view (ticks m n s) ≡ ticks r n (view s)
unfolding ticks
ticks_along m r view along zero s = refl
ticks_along m r view along (suc n) s = ticks_along m r view along n (m.tick s) ∙ ap (ticks r n) (along s)

-- n ticks of a divider, by quotient and remainder.
abbrev pub divided_after : {S : Type 0} → Meaning S → ℕ → Divided S → Divided S
divided_after m n s = record { factor = s.factor; phase = (s.phase + n) % s.factor; inner = ticks m ((s.phase + n) / s.factor) s.inner }

-- One tick of a divider, within a period and at its end.
tick_within : {S : Type 0} (m : Meaning S) (s : Divided S) → s.phase + 1 < s.factor → divider_tick m s ≡ record { factor = s.factor; phase = s.phase + 1; inner = s.inner }
tick_within m s h = grind (arith, nat_tests)

tick_over : {S : Type 0} (m : Meaning S) (s : Divided S) → s.factor ≤ s.phase + 1 → divider_tick m s ≡ record { factor = s.factor; phase = 0; inner = m.tick s.inner }
tick_over m s h = grind (arith, nat_tests)

tick_keeps_phase : {S : Type 0} (m : Meaning S) (s : Divided S) → s.phase < s.factor → (divider_tick m s).phase < (divider_tick m s).factor
tick_keeps_phase m s h = grind (arith, nat_tests)

after_within : {S : Type 0} (m : Meaning S) (n : ℕ) (s : Divided S) → s.phase + 1 < s.factor → divided_after m n (divider_tick m s) ≡ divided_after m (suc n) s
after_within m n s k =
    let sum : s.phase + suc n ≡ s.phase + 1 + n = omega arith in
    rw (tick_within m s k, sum)

after_over : {S : Type 0} (m : Meaning S) (n : ℕ) (s : Divided S) → s.phase < s.factor → s.factor ≤ s.phase + 1 → divided_after m n (divider_tick m s) ≡ divided_after m (suc n) s
after_over m n s h k =
    let some : 0 < s.factor = omega arith in
    let sum : s.phase + suc n ≡ s.factor + n = omega arith in
    rw (tick_over m s k, zero-add, sum, add-mod_left, add-div_left n some, ticks_first)

pub ticks_divided : {S : Type 0} (m : Meaning S) (n : ℕ) (s : Divided S) → s.phase < s.factor → ticks (divided m) n s ≡ divided_after m n s
unfolding ticks
ticks_divided m zero s h = rw (add-zero, mod-eq_of_lt h, div-eq_of_lt h)
ticks_divided m (suc n) s h =
    ticks_divided m n (divider_tick m s) (tick_keeps_phase m s h) ∙ ⊎_elim (after_within m n s) (after_over m n s h) (cases_lt (s.phase + 1) s.factor)

-- A divider at the start of a period.
abbrev pub in_step : {S : Type 0} → ℕ → S → Divided S
in_step factor s = record { factor = factor; phase = 0; inner = s }

-- A divider whose inner device may lag behind: its state s is that of the start of a period, `since` ticks ago.
abbrev pub lagging : {S : Type 0} → Meaning S → ℕ → ℕ → S → Divided S
lagging m factor since s = ticks (divided m) since (in_step factor s)

-- In the first period it lacks nothing.
pub lagging_within : {S : Type 0} (m : Meaning S) (factor since : ℕ) (s : S) → since < factor → lagging m factor since s ≡ record { factor = factor; phase = since; inner = s }
lagging_within m factor since s h =
    let some : 0 < factor = omega arith in
    rw (ticks_divided m since (in_step factor s) some, zero-add, mod-eq_of_lt h, div-eq_of_lt h, ticks_zero)

-- After k periods it may be given k of its ticks.
pub lagging_less : {S : Type 0} (m : Meaning S) (factor k rest : ℕ) (s : S) → 1 ≤ factor → lagging m factor (k * factor + rest) s ≡ lagging m factor rest (ticks m k s)
lagging_less m factor k rest s some =
    rw (ticks_add (divided m) (k * factor) rest (in_step factor s), ticks_divided m (k * factor) (in_step factor s) some, zero-add, mul-mod_left, mul-div_cancel k some)

-- The divider's level after j more ticks is the inner device's after its share of all the ticks.
pub level_lagging : {S : Type 0} (m : Meaning S) (factor since j : ℕ) (s : S) → 1 ≤ factor → level_after (divided m) j (lagging m factor since s) ≡ level_after m ((since + j) / factor) s
level_lagging m factor since j s some =
    rw (← ticks_add (divided m) since j (in_step factor s), ticks_divided m (since + j) (in_step factor s) some, zero-add)

-- At so many ticks the inner device has to be given its share, by what it announced in s: there its level changes, or the 2^32 ticks
-- ahead of the divider go past those that it told of.
abbrev pub due_by : ℕ → Option ℕ → ℕ
due_by factor (Some k) = k * factor
due_by factor None = horizon * (factor - 1) + 1

-- What the divider announces, until then: the same change, unless it is past 2^32.
abbrev pub divided_announcement : ℕ → ℕ → Option ℕ → Option ℕ
divided_announcement factor since (Some k) = cond (nat_le (k * factor - since) horizon) (Some (k * factor - since)) None
divided_announcement factor since None = None

level_before : {S : Type 0} (m : Meaning S) (factor since k j : ℕ) (s : S) → 1 ≤ factor → since + j < k * factor → ((i : ℕ) → i < k → level_after m i s ≡ m.level s) → level_after (divided m) j (lagging m factor since s) ≡ m.level s
level_before m factor since k j s some early quiet = level_lagging m factor since j s some ∙ quiet _ ((div-lt_iff_lt-mul some).1 early)

level_unchanged : {S : Type 0} (m : Meaning S) (factor since j : ℕ) (s : S) → 1 ≤ factor → since < due_by factor None → j ≤ horizon → Announces m s None → level_after (divided m) j (lagging m factor since s) ≡ m.level s
level_unchanged m factor since j s some early near a = level_before m factor since (horizon + 1) j s some (omega arith) (λ i within. a i (omega arith))

-- Until then the level is that of s.
pub lagging_level : {S : Type 0} (m : Meaning S) (factor since : ℕ) (r : Option ℕ) (s : S) → 1 ≤ factor → since < due_by factor r → Announces m s r → m.level s ≡ m.level (lagging m factor since s).inner
lagging_level m factor since (Some k) s some early a = sym (level_before m factor since k 0 s some (omega arith) a.2) ∙ ap (divided m).level (ticks_zero (divided m) (lagging m factor since s))
lagging_level m factor since None s some early a = sym (level_unchanged m factor since 0 s some early (omega arith) a) ∙ ap (divided m).level (ticks_zero (divided m) (lagging m factor since s))

pub announces_divided : {S : Type 0} (m : Meaning S) (factor since : ℕ) (r : Option ℕ) (s : S) → 1 ≤ factor → since < due_by factor r → Announces m s r → Announces (divided m) (lagging m factor since s) (divided_announcement factor since r)
announces_divided m factor since (Some k) s some early a =
    let left : ℕ = k * factor - since in
    let sum : since + left ≡ k * factor = omega arith in
    let share : (since + left) / factor ≡ k = rw sum (mul-div_cancel k some) in
    let present = lagging_level m factor since (Some k) s some early a in
    let stays : (j : ℕ) → j < left → level_after (divided m) j (lagging m factor since s) ≡ m.level (lagging m factor since s).inner = λ j before. level_before m factor since k j s some (omega arith) a.2 ∙ present in
    let changed : level_after (divided m) left (lagging m factor since s) ≡ level_after m k s = level_lagging m factor since left s some ∙ ap (λ q. level_after m q s) share in
    cond_both (nat_le left horizon) (Some left) None (Announces (divided m) (lagging m factor since s))
    (λ near. (omega arith, leb-true left horizon near, stays, λ same. a.3 (sym changed ∙ same ∙ sym present)))
    (λ far j near. stays j (omega (arith, leb-false left horizon far)))
announces_divided m factor since None s some early a = λ j near. level_unchanged m factor since j s some early near a ∙ lagging_level m factor since None s some early a

-- An announcement has one proof at most.
pub announces_prop : {S : Type 0} (m : Meaning S) (s : S) (r : Option ℕ) → IsProp (Announces m s r)
announces_prop m s (Some k) = hlevel props
announces_prop m s None = hlevel props

-- What may be taken from an announcement: the level stays up to the tick before it, whether or not it then changes.
abbrev pub Quiet : {S : Type 0} → Meaning S → S → Option ℕ → Type 0
Quiet m s (Some k) = (1 ≤ k) × ((j : ℕ) → j < k → level_after m j s ≡ m.level s)
Quiet m s None = Steady m horizon s

pub announces_quiet : {S : Type 0} (m : Meaning S) (s : S) (r : Option ℕ) → Announces m s r → Quiet m s r
announces_quiet m s (Some k) a = (a.0, a.2)
announces_quiet m s None a = a

-- The empty device keeps what every device keeps, and so does a divider over a device that does.
pub empty_lawful : Lawful empty_device
empty_lawful = record {
  some_port = omega arith;
  few_ports = omega arith;
  past_reads = λ s offset past. refl;
  past_read_keeps = λ s offset past. refl;
  past_write_keeps = λ s offset byte past. refl;
}

pub divided_lawful : {S : Type 0} (m : Meaning S) → Lawful m → Lawful (divided m)
divided_lawful m l = record {
  some_port = l.some_port;
  few_ports = l.few_ports;
  past_reads = λ s offset past. l.past_reads s.inner offset past;
  past_read_keeps = λ s offset past. ap (λ x. record { factor = s.factor; phase = s.phase; inner = x }) (l.past_read_keeps s.inner offset past);
  past_write_keeps = λ s offset byte past. ap (λ x. record { factor = s.factor; phase = s.phase; inner = x }) (l.past_write_keeps s.inner offset byte past);
}
