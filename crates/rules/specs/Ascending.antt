-- A bag of entries, held as its ascending list: equal bags are equal lists, and the front is what comes first.
use Rattle.std.specs.Prelude.{Bool, cond, List, [], ◌∷◌}

-- x put in its place. `before y x` says that y precedes x; equal entries stand beside each other.
unfoldable pub insert : {E : Type 0} → (E → E → Bool) → E → List E → List E
insert before x [] = x ∷ []
insert before x (y ∷ ys) = cond (before y x) (y ∷ insert before x ys) (x ∷ y ∷ ys)

-- the ascending list of the entries of a list in any order
unfoldable pub ascending : {E : Type 0} → (E → E → Bool) → List E → List E
ascending before [] = []
ascending before (x ∷ xs) = insert before x (ascending before xs)
