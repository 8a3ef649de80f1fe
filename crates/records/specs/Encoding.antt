-- Records written as bytes, and the law that a trace of them reads back.
use Rattle.std.specs.Prelude.{◌≡◌, ℕ, zero, suc, ◌+◌, ◌/◌, ◌%◌, ◌^◌, ◌<◌, ◌≤◌, true, List, [], ◌∷◌, ◌++◌, length, drop}
use Rattle.rules.specs.Trace.{Record, advance, read, write, acknowledge, queue, note, all_printable, at_end, got, next}

-- A number in so many bytes, the highest first. The library's `bytes_high_first` has the same values; this form takes the
-- lowest byte off, by which reading back is proved.
abbrev pub in_bytes : ℕ → ℕ → List ℕ
in_bytes zero n = []
in_bytes (suc k) n = in_bytes k (n / 256) ++ (n % 256 ∷ [])

-- The kind and the fields.
abbrev pub counted : Record → List ℕ
counted (advance n) = 1 ∷ in_bytes 8 n
counted (read port) = 2 ∷ in_bytes 2 port
counted (write port byte) = 3 ∷ (in_bytes 2 port ++ (byte ∷ []))
counted acknowledge = 4 ∷ []
counted (queue tick port byte) = 5 ∷ (in_bytes 8 tick ++ (in_bytes 2 port ++ (byte ∷ [])))
counted (note text) = 6 ∷ text

-- The length field stands in front of the counted bytes.
abbrev pub encoded : Record → List ℕ
encoded r = in_bytes 2 (length (counted r)) ++ counted r

unfoldable pub encode : List Record → List ℕ
encode [] = []
encode (r ∷ rs) = encoded r ++ encode rs

-- Every number fits its field, and a note can be read.
abbrev pub Fitting : Record → Type 0
Fitting (advance n) = n < 2 ^ 64
Fitting (read port) = port < 2 ^ 16
Fitting (write port byte) = port < 2 ^ 16
Fitting acknowledge = Unit {0}
Fitting (queue tick port byte) = (tick < 2 ^ 64) × (port < 2 ^ 16)
Fitting (note text) = (length text ≤ 80) × (all_printable text ≡ true)

abbrev pub AllFitting : List Record → Type 0
AllFitting [] = Unit {0}
AllFitting (r ∷ rs) = Fitting r × AllFitting rs

-- Reading gives these records, and then the end.
abbrev pub Gives : List ℕ → List Record → Type 0
Gives bytes [] = next bytes ≡ at_end
Gives bytes (r ∷ rs) = (len : ℕ) × (rest : List ℕ) × (next bytes ≡ got r len rest) × Gives rest rs

-- What is encoded reads back, whatever follows one record; and a record lies within the bytes that are left.
pub record ReadsBack : Type 0 where
  pub one : (r : Record) (rest : List ℕ) → Fitting r → next (encoded r ++ rest) ≡ got r (length (counted r)) rest
  pub all : (rs : List Record) → AllFitting rs → Gives (encode rs) rs
  pub within : (bytes : List ℕ) (r : Record) (len : ℕ) (rest : List ℕ) → next bytes ≡ got r len rest → (2 + len ≤ length bytes) × (rest ≡ drop (2 + len) bytes)
