-- What a total order is, by its test of what precedes.
use Rattle.std.specs.Prelude.{◌≡◌, Bool, true, false}

-- Nothing precedes itself, precedence is transitive, and of two entries one precedes the other unless they are equal.
pub record IsStrictTotalOrder {E : Type 0} (before : E → E → Bool) : Type 0 where
  pub irreflexive : (x : E) → before x x ≡ false
  pub transitive : (x y z : E) → before x y ≡ true → before y z ≡ true → before x z ≡ true
  pub total : (x y : E) → before x y ≡ false → before y x ≡ false → x ≡ y
