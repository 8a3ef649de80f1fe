-- The words of a line.
use Rattle.std.specs.Prelude.{ℕ, Bool, ◌||◌, ◌==◌, List, length, nat_lt, filter}
use Rattle.std.specs.List.{slice_split}
use Rattle.std.specs.Str.Lines.{strip_carriage_return}

-- A blank or a tab.
abbrev pub is_blank : ℕ → Bool
is_blank b = b == 32 || b == 9

-- What stands between two blanks, or between a blank and an end of the line, is a word unless it is empty.
abbrev pub is_word : List ℕ → Bool
is_word part = nat_lt 0 (length part)

-- So blanks in front of the first word and behind the last one are passed over.
unfoldable pub words : List ℕ → List (List ℕ)
words text = filter is_word (slice_split is_blank text)

-- A line may end in one carriage return, which is passed over.
abbrev pub words_of_line : List ℕ → List (List ℕ)
words_of_line line = words (strip_carriage_return line)
