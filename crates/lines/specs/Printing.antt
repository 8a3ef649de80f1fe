-- The bytes of a line, and what an output holds after they were printed.
use Rattle.std.specs.Prelude.{◌≡◌, ℕ, ◌+◌, ◌-◌, List, ◌++◌, length, take, drop}
use Rattle.rules.specs.Trace.{advance_line, access_line, vector_line, queue_line, note_line, refusal_line, count_line}
use Rattle.lines.specs.declared.output.Line.{Line}
use Rattle.lines.specs.declared.output.Line.TheVariants.{Advanced, Read, Wrote, Acknowledged, Queued, Note, Refused, Records}
use Rattle.lines.specs.declared.output.Output.{Output}

abbrev pub line_bytes : Line → List ℕ
line_bytes (Advanced time edges) = advance_line time edges
line_bytes (Read port byte) = access_line 82 port byte
line_bytes (Wrote port byte) = access_line 87 port byte
line_bytes (Acknowledged vector) = vector_line vector
line_bytes (Queued tick) = queue_line tick
line_bytes (Note text) = note_line text.now
line_bytes (Refused r) = refusal_line r.refusal r.place
line_bytes (Records count) = count_line count

abbrev pub bytes_of : Output → List ℕ
bytes_of o = o.bytes.now

-- How many bytes can still be printed.
abbrev pub room_of : Output → ℕ
room_of o = length (bytes_of o) - o.place

-- A buffer after `line` was printed at a place: what stood before it, as much of the line as there is room for, and what lies behind.
abbrev pub with_line : List ℕ → ℕ → List ℕ → List ℕ
with_line bytes place line = take place bytes ++ (take (length bytes - place) line ++ drop (place + length line) bytes)

-- `p` is `o` after `line` was printed; it borrows the same buffer.
pub record Printed (o : Output) (line : List ℕ) (p : Output) : Type 0 where
  pub bytes : bytes_of p ≡ with_line (bytes_of o) o.place line
  pub place : p.place ≡ o.place + length (take (room_of o) line)
  pub lender : p.bytes.ghost_name ≡ o.bytes.ghost_name
