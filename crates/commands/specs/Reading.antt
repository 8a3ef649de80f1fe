-- What the code's words have left, and what was read off them.
use Rattle.std.specs.Prelude.{◌≡◌, ℕ, List, Ok, Err, Result}
use Rattle.commands.specs.Meaning.{Reads}
use Rattle.commands.specs.Words.{words}
use Rattle.commands.specs.declared.command.Unreadable.{Unreadable}
use Rattle.commands.specs.declared.words.Words.{Words}

abbrev pub left : Words → List (List ℕ)
left w = words w.rest.now

-- `reads` gave this answer, and the words are `after` then. Behind a fault nothing is said of them.
abbrev pub IsRead : {A : Type 0} → Reads A → Words → Result A Unreadable → Words → Type 0
IsRead reads before (Ok a) after = reads (left before) ≡ Ok (a, left after)
IsRead reads before (Err e) after = reads (left before) ≡ Err e
