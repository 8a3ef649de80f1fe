-- What is known of a level for all time: when it first changes, or that it never does. An announcement is such knowledge within 2^32
-- ticks. This one stays true of a machine that is looked at some ticks later.
use Rattle.std.specs.Prelude.{◌≡◌, ℕ, ◌+◌, ◌-◌, ◌<◌, Some, None, Option}
use Rattle.std.proofs.Common.{sym, ap, ◌∙◌, arith}
use Rattle.rules.specs.Device.{Meaning, ticks, level_after, Announces}
use Rattle.rules.specs.TickLaws.{ticks_add, ticks_still}

abbrev pub Foresees : {S : Type 0} → Meaning S → S → Option ℕ → Type 0
Foresees m s (Some k) = Announces m s (Some k)
Foresees m s None = (j : ℕ) → level_after m j s ≡ m.level s

pub foresees_announces : {S : Type 0} (m : Meaning S) (s : S) (r : Option ℕ) → Foresees m s r → Announces m s r
foresees_announces m s (Some k) f = f
foresees_announces m s None f = λ j near. f j

-- What stands still for a tick stands still.
pub still_foresees : {S : Type 0} (m : Meaning S) (s : S) → m.tick s ≡ s → Foresees m s None
still_foresees m s still = λ j. ap m.level (ticks_still m j s still)

-- Two machines whose levels are the same after every number of ticks foresee the same.
pub foresees_alike : {S R : Type 0} (m : Meaning S) (s : S) (r : Meaning R) (t : R) → ((j : ℕ) → level_after m j s ≡ level_after r j t) → (o : Option ℕ) → Foresees r t o → Foresees m s o
unfolding ticks
foresees_alike m s r t alike (Some k) f = (f.0, f.1, (λ j before. alike j ∙ f.2 j before ∙ sym (alike 0)), λ e. f.3 (sym (alike k) ∙ e ∙ alike 0))
foresees_alike m s r t alike None f = λ j. alike j ∙ f j ∙ sym (alike 0)

-- The same machine `lag` ticks later, before its level changes.
module _ {S : Type 0} (m : Meaning S) (s : S) (lag : ℕ) where
  later : (j : ℕ) → level_after m j (ticks m lag s) ≡ level_after m (lag + j) s
  later j = ap m.level (sym (ticks_add m lag j s))

  pub change_after : (k : ℕ) → lag < k → Foresees m s (Some k) → Foresees m (ticks m lag s) (Some (k - lag))
  change_after k h f =
      let change : lag + (k - lag) ≡ k = omega arith in (
        omega arith,
        omega arith,
        (λ j before. later j ∙ f.2 (lag + j) (omega arith) ∙ sym (f.2 lag h)),
        λ e. f.3 (sym (later (k - lag) ∙ ap (λ i. level_after m i s) change) ∙ e ∙ f.2 lag h),
      )

  pub none_after : Foresees m s None → Foresees m (ticks m lag s) None
  none_after f = λ j. later j ∙ f (lag + j) ∙ sym (f lag)
