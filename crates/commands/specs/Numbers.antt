-- The numbers that words write, as they are read.
use Rattle.std.specs.Prelude.{ℕ, Bool, ◌&&◌, List, length, take, drop, Ok, Err, Result, nat_lt, bytes_eq, codes, if◌then◌else◌}
use Rattle.std.specs.Char.{is_digit}
use Rattle.std.specs.List.{list_all}
use Rattle.std.specs.Str.Parse.{digits_value}
use Rattle.commands.specs.declared.command.Unreadable.{Unreadable}
use Rattle.commands.specs.declared.command.Unreadable.TheVariants.{NotANumber, TooLarge}

abbrev pub is_hexadecimal : List ℕ → Bool
is_hexadecimal word = bytes_eq (take 2 word) (codes "0x")

abbrev pub base_of : List ℕ → ℕ
base_of word = if is_hexadecimal word then 16 else 10

abbrev pub digits_of : List ℕ → List ℕ
digits_of word = if is_hexadecimal word then drop 2 word else word

-- One digit or more, and nothing else.
abbrev pub is_numeral : ℕ → List ℕ → Bool
is_numeral base digits = nat_lt 0 (length digits) && list_all (λ c. is_digit c base) digits

abbrev pub value_of : List ℕ → ℕ
value_of word = digits_value (base_of word) (digits_of word)

-- A word as a number below a limit.
unfoldable pub number_below : ℕ → List ℕ → Result ℕ Unreadable
number_below limit word =
    if is_numeral (base_of word) (digits_of word)
    then (if nat_lt (value_of word) limit then Ok (value_of word) else Err TooLarge)
    else Err NotANumber
