-- Runs of ticks of the timer, of its channels and of their counters.
use Rattle.std.specs.Prelude.{◌≡◌, ℕ, zero, suc, ◌+◌, ◌*◌, ◌/◌, ◌%◌, ◌<◌, ◌≤◌, Bool, true, false, Some, None, Option, refl}
use Rattle.std.proofs.Common.{sym, ◌∙◌, div-add-mod', arith}
use Rattle.std.proofs.Math.Path.{ap}
use Rattle.std.proofs.Math.Nat.{zero-mul, suc-mul}
use Rattle.std.proofs.Common.{inl, inr}
use Rattle.std.proofs.lemmas.Bool.{false≢true, cases_lt, cases_Bool}
use Rattle.rules.specs.Device.{Meaning, ticks, level_after, Announces, horizon}
use Rattle.rules.specs.TickLaws.{ticks_add, ticks_first, ticks_still, ticks_keep}
use Rattle.rules.specs.I8254.{Timer, Channel, Counter, Mode, mode_0, mode_1, mode_2, mode_3, mode_4, mode_5, is_mode_0, timer, tick_counter, with_counter}
use Rattle.i8254_laws.specs.Machines.{counting, channel, Turns}
use Rattle.i8254_laws.specs.Foresight.{Foresees, foresees_alike}

-- What comes back after p ticks is after n ticks where it is after the rest of n by p.
module _ {S : Type 0} (m : Meaning S) (p : ℕ) (s : S) (back : ticks m p s ≡ s) where
  whole_periods : (k : ℕ) → ticks m (k * p) s ≡ s
  unfolding ticks
  whole_periods zero = rw zero-mul
  whole_periods (suc k) = rw suc-mul (ticks_add m (k * p) p s ∙ ap (ticks m p) (whole_periods k) ∙ back)

  pub periodic : (n : ℕ) → ticks m n s ≡ ticks m (n % p) s
  periodic n =
      ap (λ k. ticks m k s) (sym (div-add-mod' n p)) ∙ ticks_add m (n / p * p) (n % p) s ∙ ap (ticks m (n % p)) (whole_periods (n / p))

-- A run by its two parts.
pub in_parts : {S : Type 0} (m : Meaning S) (n first rest : ℕ) (s : S) → n ≡ first + rest → ticks m n s ≡ ticks m rest (ticks m first s)
in_parts m n first rest s e = rw e (ticks_add m first rest s)

-- One tick that keeps the level puts an announcement off by one.
pub announces_later : {S : Type 0} (m : Meaning S) (s next : S) (k : ℕ) → m.tick s ≡ next → m.level next ≡ m.level s → k + 1 ≤ horizon → Announces m next (Some k) → Announces m s (Some (k + 1))
unfolding ticks
announces_later m s next k to same near a =
    (omega arith, near, before, λ e. a.3 (sym (at k) ∙ ap m.level (sym (ticks_first m k s)) ∙ e ∙ sym same))
  where
    at : (j : ℕ) → level_after m j (m.tick s) ≡ level_after m j next
    at j = ap (level_after m j) to

    before : (j : ℕ) → j < k + 1 → level_after m j s ≡ m.level s
    before zero h = refl
    before (suc j) h = at j ∙ a.2 j (omega arith) ∙ same

-- A change is announced by one number alone, so that any run to it ends in one state.
not_before : {S : Type 0} (m : Meaning S) (s : S) (a b : ℕ) → Announces m s (Some a) → Announces m s (Some b) → a < b → ⊥
not_before m s a b at later less = at.3 (later.2 a less)

announced_once : {S : Type 0} (m : Meaning S) (s : S) (a b : ℕ) → Announces m s (Some a) → Announces m s (Some b) → a ≡ b
announced_once m s a b at other = elim (cases_lt a b) [
  | inl less ↦ absurd (not_before m s a b at other less)
  | inr least ↦ elim (cases_lt b a) [
    | inl more ↦ absurd (not_before m s b a other at more)
    | inr most ↦ omega arith
  ]
]

pub turns : {S : Type 0} (m : Meaning S) (s t : S) (a : ℕ) → Announces m s (Some a) → ticks m a s ≡ t → Turns m s t
turns m s t a at is = λ k announced. sym is ∙ ap (λ n. ticks m n s) (announced_once m s a k at announced)

-- The channels of a timer tick side by side. By the ticks themselves, as three uses of `ticks_along` would be longer.
pub ticks_timer : (n : ℕ) (t : Timer) → ticks timer n t ≡ record { channel_0 = ticks channel n t.channel_0; channel_1 = ticks channel n t.channel_1; channel_2 = ticks channel n t.channel_2 }
unfolding ticks
ticks_timer zero t = refl
ticks_timer (suc n) t = ticks_timer n (timer.tick t)

-- A tick keeps the mode.
keeps_mode : (c : Counter) → (tick_counter c).mode ≡ c.mode
keeps_mode c = go c.mode c.out c.value c.count c.loaded c.left
  where
    go : (m : Mode) (out : Bool) (v : ℕ) (count : Option ℕ) (loaded : Bool) (left : ℕ) → (tick_counter (record { mode = m; out = out; value = v; count = count; loaded = loaded; left = left })).mode ≡ m
    go mode_0 out v (Some n) loaded left = refl
    go mode_0 out v None true left = refl
    go mode_0 out v None false left = refl
    go mode_1 out v count loaded left = refl
    go mode_2 true v (Some n) true left = refl
    go mode_2 false v (Some n) true left = refl
    go mode_2 out v (Some n) false left = refl
    go mode_2 out v None loaded left = refl
    go mode_3 out v (Some n) true zero = refl
    go mode_3 out v (Some n) true (suc left) = refl
    go mode_3 out v (Some n) false left = refl
    go mode_3 out v None loaded left = refl
    go mode_4 out v count loaded left = refl
    go mode_5 out v count loaded left = refl

-- Between the two bytes of a count, in mode 0, a channel stands still.
abbrev pub held : Channel → Bool
held ch = elim ch.low_byte [ Some low ↦ is_mode_0 ch.counter.mode | None ↦ false ]

abbrev with_low_byte : Channel → Option ℕ → Channel
with_low_byte ch low = record { access = ch.access; low_byte = low; high_next = ch.high_next; latch = ch.latch; counter = ch.counter }

pub held_run : (n : ℕ) (ch : Channel) → held ch ≡ true → ticks channel n ch ≡ ch
held_run n ch h = ticks_still channel n ch (go ch.low_byte h)
  where
    go : (low : Option ℕ) → held (with_low_byte ch low) ≡ true → channel.tick (with_low_byte ch low) ≡ with_low_byte ch low
    go (Some low) e = rw e
    go None e = absurd (false≢true e)

free_tick : (ch : Channel) → held ch ≡ false → channel.tick ch ≡ with_counter ch (tick_counter ch.counter)
free_tick ch h = go ch.low_byte h
  where
    go : (low : Option ℕ) → held (with_low_byte ch low) ≡ false → channel.tick (with_low_byte ch low) ≡ with_counter (with_low_byte ch low) (tick_counter ch.counter)
    go (Some low) e = rw e
    go None e = refl

still_free : (ch : Channel) → held ch ≡ false → held (with_counter ch (tick_counter ch.counter)) ≡ false
still_free ch h = go ch.low_byte h
  where
    go : (low : Option ℕ) → held (with_low_byte ch low) ≡ false → held (with_counter (with_low_byte ch low) (tick_counter ch.counter)) ≡ false
    go (Some low) e = ap is_mode_0 (keeps_mode ch.counter) ∙ e
    go None e = refl

-- Any other channel ticks as its counter does.
pub free_run : (n : ℕ) (ch : Channel) → held ch ≡ false → ticks channel n ch ≡ with_counter ch (ticks counting n ch.counter)
unfolding ticks
free_run zero ch h = refl
free_run (suc n) ch h = ap (ticks channel n) (free_tick ch h) ∙ free_run n (with_counter ch (tick_counter ch.counter)) (still_free ch h)

pub held_announces : (ch : Channel) → held ch ≡ true → Announces channel ch None
held_announces ch h j near = ap channel.level (held_run j ch h)

-- Two machines whose levels are the same after every number of ticks announce the same.
announces_alike : {S R : Type 0} (m : Meaning S) (s : S) (r : Meaning R) (t : R) → ((j : ℕ) → level_after m j s ≡ level_after r j t) → (o : Option ℕ) → Announces r t o → Announces m s o
unfolding ticks
announces_alike m s r t alike (Some k) a = (a.0, a.1, (λ j before. alike j ∙ a.2 j before ∙ sym (alike 0)), λ e. a.3 (sym (alike k) ∙ e ∙ alike 0))
announces_alike m s r t alike None a = λ j near. alike j ∙ a j near ∙ sym (alike 0)

pub free_announces : (ch : Channel) (r : Option ℕ) → held ch ≡ false → Announces counting ch.counter r → Announces channel ch r
free_announces ch r h a = announces_alike channel ch counting ch.counter (λ j. ap channel.level (free_run j ch h)) r a

-- The timer announces what its channel 0 does.
pub timer_announces : (t : Timer) (r : Option ℕ) → Announces channel t.channel_0 r → Announces timer t r
timer_announces t r a = announces_alike timer t channel t.channel_0 (λ j. ap timer.level (ticks_timer j t)) r a

-- What is foreseen of a channel, which is more.
pub held_foresees : (ch : Channel) → held ch ≡ true → Foresees channel ch None
held_foresees ch h j = ap channel.level (held_run j ch h)

pub free_foresees : (ch : Channel) (r : Option ℕ) → held ch ≡ false → Foresees counting ch.counter r → Foresees channel ch r
free_foresees ch r h f = foresees_alike channel ch counting ch.counter (λ j. ap channel.level (free_run j ch h)) r f

-- A channel whose OUT changes is not held, and stays so.
pub changes_free : (ch : Channel) (n : ℕ) → Foresees channel ch (Some n) → held ch ≡ false
changes_free ch n f = elim (cases_Bool (held ch)) [
  | inl h ↦ absurd (f.3 (held_foresees ch h n))
  | inr free ↦ free
]

stays_free : (n : ℕ) (ch : Channel) → held ch ≡ false → held (ticks channel n ch) ≡ false
stays_free = ticks_keep channel (λ ch. held ch ≡ false) (λ ch h. ap held (free_tick ch h) ∙ still_free ch h)

-- The counter of such a channel turns, and the channel with it.
module _ (ch : Channel) (n : ℕ) (f : Foresees channel ch (Some n)) where
  free : held ch ≡ false
  free = changes_free ch n f

  pub counter_foresees : Foresees counting ch.counter (Some n)
  counter_foresees = foresees_alike counting ch.counter channel ch (λ j. sym (ap channel.level (free_run j ch free))) (Some n) f

  pub channel_turned : (c : Counter) → c ≡ ticks counting n ch.counter → with_counter ch c ≡ ticks channel n ch
  channel_turned c is = ap (with_counter ch) is ∙ sym (free_run n ch free)

  pub channel_next : (c : Counter) (r : Option ℕ) → c ≡ ticks counting n ch.counter → Foresees counting c r → Foresees channel (with_counter ch c) r
  channel_next c r is next = free_foresees (with_counter ch c) r (ap held (channel_turned c is) ∙ stays_free n ch free) next

-- What is foreseen of the timer is foreseen of channel 0, and the other way round.
pub channel_0_foresees : (t : Timer) (r : Option ℕ) → Foresees timer t r → Foresees channel t.channel_0 r
channel_0_foresees t r f = foresees_alike channel t.channel_0 timer t (λ j. sym (ap timer.level (ticks_timer j t))) r f

pub timer_foresees : (t : Timer) (r : Option ℕ) → Foresees channel t.channel_0 r → Foresees timer t r
timer_foresees t r f = foresees_alike timer t channel t.channel_0 (λ j. ap timer.level (ticks_timer j t)) r f
