-- What a machine's answers print.
use Rattle.std.specs.Prelude.{ℕ, List, Ok, Err, Result}
use Rattle.rules.specs.Trace.{Performed, advance_line, queue_line, refusal_line}
use Rattle.rules.specs.declared.refusal.Refusal.{Refusal}
use Rattle.trace.specs.declared.machine.Elapsed.{Elapsed}
use Rattle.lines.specs.declared.output.Line.{Line}
use Rattle.lines.specs.Printing.{line_bytes}

abbrev pub performed : {B : Type 0} → List ℕ → B → Performed B
performed line b = record { line = line; board = b }

-- The line of what was answered, or of the refusal that was met at a place.
abbrev pub reply : {T : Type 0} → (T → List ℕ) → Result T Refusal → ℕ → List ℕ
reply line (Ok t) place = line t
reply line (Err r) place = refusal_line r place

abbrev pub advance_reply : Result Elapsed Refusal → ℕ → List ℕ
advance_reply = reply (λ e. advance_line e.time e.edges)

abbrev pub queue_reply : ℕ → Result (Unit {0}) Refusal → ℕ → List ℕ
queue_reply tick = reply (λ u. queue_line tick)

-- The line of a record that was carried out, or of the refusal that it met at its place.
abbrev pub reply_bytes : Result Line Refusal → ℕ → List ℕ
reply_bytes = reply line_bytes
