-- A reader's place in its trace, and what it says there in the rules' words.
use Rattle.std.specs.Prelude.{◌≡◌, ℕ, ◌+◌, ◌-◌, Bool, false, ◌&&◌, List, [], ◌∷◌, length, drop, None, Some, Ok, Err, Option, Result, ◌==◌, nat_lt}
use Rattle.rules.specs.Trace.{Next, at_end, fault, got, next, version, longest_trace}
use Rattle.rules.specs.declared.refusal.Refusal.{Refusal}
use Rattle.records.specs.declared.reader.Reader.{Reader}
use Rattle.records.specs.declared.record.Record.{Record}
use Rattle.records.specs.Records.{meant}

abbrev pub whole : Reader → List ℕ
whole r = r.trace.now

-- The bytes that are left.
abbrev pub left : Reader → List ℕ
left r = drop r.place (whole r)

-- A trace that can be run: of the version, and not too long.
abbrev pub well_started : List ℕ → Bool
well_started [] = false
well_started (v ∷ bytes) = v == version && nat_lt (length bytes) longest_trace

-- What was answered, where a record of `len` counted bytes left `rest`.
abbrev pub said : Option (Result Record Refusal) → ℕ → List ℕ → Next
said None len rest = at_end
said (Some (Err e)) len rest = fault e
said (Some (Ok r)) len rest = got (meant r) len rest

-- Only a record moves the place: by its length field and its counted bytes.
abbrev pub moved : Next → ℕ → ℕ
moved at_end place = place
moved (fault e) place = place
moved (got r len rest) place = place + 2 + len

-- `r` answers what the rules have at its place, and is `t` then.
pub record GivesNext (r : Reader) (answer : Option (Result Record Refusal)) (t : Reader) : Type 0 where
  pub same : whole t ≡ whole r
  pub place : t.place ≡ moved (next (left r)) r.place
  pub next : said answer (t.place - r.place - 2) (left t) ≡ next (left r)
