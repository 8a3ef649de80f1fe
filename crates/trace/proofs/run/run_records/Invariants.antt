use Rattle.std.proofs.Common.{◌-◌, length}
use Rattle.rules.specs.Trace.{run_from}
use Rattle.lines.specs.Printing.{room_of}
use Rattle.records.specs.Reading.{whole, left}
use Rattle.trace.proofs.Running.{SoFar}
use Rattle.trace.proofs.run.run_records.Given as goal

abbrev pub invariant-loop-read : goal.invariant-loop-read
invariant-loop-read g l =
    SoFar g.M.Machine.performs l.initial.output (run_from g.M.Machine.performs (length (left l.initial.reader)) (room_of l.initial.output) l.initial.reader.place 0 (g.M.Machine.state l.initial.machine) (left l.initial.reader)) l.output l.reader l.count (g.M.Machine.state l.machine)

abbrev pub decreases-loop-read : goal.decreases-loop-read
decreases-loop-read g l = length (whole l.reader) - l.reader.place
