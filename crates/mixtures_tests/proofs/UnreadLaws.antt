-- Reads aside, the device is as the inner one: so many ticks of it are as many of that one, and it announces what that one announces.
use Rattle.std.proofs.Common.{◌≡◌, ℕ, Some, None, Option, refl, sym, ap, ◌∙◌}
use Rattle.rules.specs.Device.{Meaning, ticks, level_after, Announces}
use Rattle.rules.specs.TickLaws.{ticks_along}
use Rattle.mixtures_tests.specs.Unread.{unread}

pub ticks_unread : {S : Type 0} (m : Meaning S) (n : ℕ) (s : S) → ticks (unread m) n s ≡ ticks m n s
ticks_unread m n s = ticks_along (unread m) m (λ s. s) (λ s. refl) n s

level_unread : {S : Type 0} (m : Meaning S) (n : ℕ) (s : S) → level_after (unread m) n s ≡ level_after m n s
level_unread m n s = ap m.level (ticks_unread m n s)

pub announces_unread : {S : Type 0} (m : Meaning S) (s : S) (r : Option ℕ) → Announces m s r → Announces (unread m) s r
announces_unread m s (Some k) a = (a.0, a.1, (λ j early. level_unread m j s ∙ a.2 j early), λ same. a.3 (sym (level_unread m k s) ∙ same))
announces_unread m s None a = λ j near. level_unread m j s ∙ a j near
