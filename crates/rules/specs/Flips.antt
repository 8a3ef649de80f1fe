-- A level that flips again and again.
use Rattle.std.proofs.Common.{◌≡◌, ℕ, zero, suc, ◌+◌, ◌%◌, Bool, not, ◌≢◌, true, false, sym, refl, ap, ◌∙◌, add-one, arith}
use mathlib.Core.Bool.{not-not}
use Rattle.std.proofs.lemmas.Bool.{true≢false, false≢true}

-- A level that has flipped so many times.
unfoldable pub flips : ℕ → Bool → Bool
flips zero high = high
flips (suc n) high = not (flips n high)

-- Once is seen.
pub flip_differs : (high : Bool) → not high ≢ high
flip_differs true = false≢true
flip_differs false = true≢false

-- One flip more, at either end.
pub flips_last : (n : ℕ) (high : Bool) → flips (n + 1) high ≡ not (flips n high)
unfolding flips
flips_last n high = rw add-one

pub flips_first : (n : ℕ) (high : Bool) → flips (n + 1) high ≡ flips n (not high)
unfolding flips
flips_first zero high = refl
flips_first (suc n) high = flips_last (suc n) high ∙ ap not (sym (flips_last n high) ∙ flips_first n high)

-- An even number of flips does nothing, and an odd one is one flip.
pub flips_even : (n : ℕ) (high : Bool) → n % 2 ≡ 0 → flips n high ≡ high
unfolding flips
flips_even zero high even = refl
flips_even (suc zero) high even = absurd (omega arith)
flips_even (suc (suc n)) high even = not-not (flips n high) ∙ flips_even n high (omega arith)

pub flips_odd : (n : ℕ) (high : Bool) → (n % 2 ≡ 0 → ⊥) → flips n high ≡ not high
unfolding flips
flips_odd zero high odd = absurd (odd refl)
flips_odd (suc n) high odd = ap not (flips_even n high (omega arith))
