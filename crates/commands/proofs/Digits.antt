-- Digits, one at a time and all of them.
use Rattle.std.proofs.Common.{◌≡◌, ℕ, zero, suc, ◌+◌, ◌*◌, ◌^◌, ◌<◌, ◌≤◌, true, false, List, [], ◌∷◌, length, take, get_or, Option, None, Some, Ok, Err, SomeIff, refl, arith}
use Rattle.std.specs.Char.{digit_value, is_digit}
use Rattle.std.specs.List.{list_all}
use Rattle.std.specs.Option.{ok_or}
use Rattle.std.specs.Str.Parse.{AllDigits, digits_value}
use Rattle.std.proofs.lemmas.Bool.{and_parts, and_from, lt-ltb, le-ltb, ltb-true, false_from_ne_true}
use Rattle.std.proofs.lemmas.Int.Digits.{digits_value_more}
use Rattle.std.proofs.lemmas.Str.Parse.{digits_value-take-le}
use Rattle.commands.specs.Numbers.{base_of, digits_of, is_numeral, value_of, number_below}
use Rattle.commands.specs.declared.command.Unreadable.TheVariants.{NotANumber, TooLarge}

pub digit_below : (radix : ℕ) (ds : List ℕ) (i : ℕ) → AllDigits radix ds → i < length ds → digit_value (get_or ds i 0) < radix
digit_below radix [] i all h = absurd (omega arith)
digit_below radix (c ∷ cs) zero all h = all.0
digit_below radix (c ∷ cs) (suc i) all h = digit_below radix cs i all.1 (omega arith)

pub AllDigits-from_test : (radix : ℕ) (ds : List ℕ) → list_all (λ c. is_digit c radix) ds ≡ true → AllDigits radix ds
AllDigits-from_test radix [] h = tt
AllDigits-from_test radix (c ∷ cs) h = (let p = and_parts _ _ h in (ltb-true _ _ p.0, AllDigits-from_test radix cs p.1))

pub test-from_AllDigits : (radix : ℕ) (ds : List ℕ) → AllDigits radix ds → list_all (λ c. is_digit c radix) ds ≡ true
test-from_AllDigits radix [] h = refl
test-from_AllDigits radix (c ∷ cs) h = and_from _ _ (lt-ltb _ _ h.0) (test-from_AllDigits radix cs h.1)

-- Where the whole fits, so does each step of reading it.
pub step_fits : (radix : ℕ) (ds : List ℕ) (i limit : ℕ) → 1 ≤ radix → i < length ds → digits_value radix ds < limit → digits_value radix (take i ds) * radix + digit_value (get_or ds i 0) < limit
step_fits radix ds i limit some inside fits =
    omega (arith, digits_value_more radix ds i inside, digits_value-take-le radix ds (i + 1) some)

-- A numeral that was read, or did not fit.
pub number_read : (word : List ℕ) (base : ℕ) (digits : List ℕ) (r : Option ℕ) → digits ≡ digits_of word → base ≡ base_of word → is_numeral base digits ≡ true → SomeIff r (AllDigits base digits × (digits_value base digits < 2 ^ 64)) (digits_value base digits) → ok_or r TooLarge ≡ number_below (2 ^ 64) word
unfolding number_below
number_read word base digits None ed eb numeral h =
    let n : is_numeral (base_of word) (digits_of word) ≡ true = rw (← eb, ← ed) numeral in
    let all = AllDigits-from_test base digits (and_parts _ _ numeral).1 in
    let large = false_from_ne_true _ (λ t. h (all, rw (eb, ed) (ltb-true _ (2 ^ 64) t))) in
    rw (n, large)
number_read word base digits (Some x) ed eb numeral h =
    let n : is_numeral (base_of word) (digits_of word) ≡ true = rw (← eb, ← ed) numeral in
    let small = lt-ltb (value_of word) (2 ^ 64) (rw (← eb, ← ed) h.0.1) in
    rw (n, small, h.1, eb, ed)

pub number_unread : (word : List ℕ) (base : ℕ) (digits : List ℕ) (limit : ℕ) → digits ≡ digits_of word → base ≡ base_of word → is_numeral base digits ≡ false → Err NotANumber ≡ number_below limit word
unfolding number_below
number_unread word base digits limit ed eb numeral =
    let n : is_numeral (base_of word) (digits_of word) ≡ false = rw (← eb, ← ed) numeral in
    rw n

pub number_small : (word : List ℕ) (limit : ℕ) → is_numeral (base_of word) (digits_of word) ≡ true → value_of word < limit → number_below limit word ≡ Ok (value_of word)
unfolding number_below
number_small word limit numeral small = rw (numeral, lt-ltb _ _ small)

pub number_large : (word : List ℕ) (limit : ℕ) → is_numeral (base_of word) (digits_of word) ≡ true → limit ≤ value_of word → number_below limit word ≡ Err TooLarge
unfolding number_below
number_large word limit numeral large = rw (numeral, le-ltb _ _ large)
