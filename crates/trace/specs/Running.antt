-- A run on the way, and its end.
use Rattle.std.specs.Prelude.{◌≡◌, ℕ, List, ◌++◌, Ok, Err, Result}
use Rattle.rules.specs.Trace.{Outcome, count_line, refusal_line}
use Rattle.lines.specs.declared.output.Output.{Output}
use Rattle.lines.specs.declared.output.Refused.{Refused}
use Rattle.lines.specs.Printing.{Printed}

-- The last line: the count, or the refusal that ended the run.
abbrev pub last_line : Result ℕ Refused → List ℕ
last_line (Ok count) = count_line count
last_line (Err r) = refusal_line r.refusal r.place

-- `p` is `o` after all lines of the run but the last were printed, which the answer tells; the records left `s`.
pub record RunsTo {S : Type 0} (o : Output) (run : Outcome S) (answer : Result ℕ Refused) (p : Output) (s : S) : Type 0 where
  pub lines : List ℕ
  pub printed : Printed o lines p
  pub whole : lines ++ last_line answer ≡ run.lines
  pub board : s ≡ run.board
