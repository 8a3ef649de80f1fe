use Rattle.std.proofs.Common.{◌≡◌, ℕ, List, ◌++◌, length, take, drop, sym, refl, ap, ◌∙◌, rules}
use Rattle.rules.specs.Trace.{Outcome, ended, run, refusal_line}
use Rattle.rules.specs.declared.refusal.Refusal.{Refusal}
use Rattle.lines.specs.declared.output.Output.{Output}
use Rattle.lines.specs.Printing.{Printed, bytes_of, line_bytes}
use Rattle.trace.specs.Running.{RunsTo, last_line}
use Rattle.trace.proofs.Running.{run_refused, started_as, refused_at_once, runs_as, whole_run, count_of, lines_of, joins}
use Rattle.trace.proofs.run.run_trace.Goals as goal
use Rattle.trace.proofs.run.run_trace.Goals.{in-Err, in-Ok, in-Err-run, in-Ok-run}

pub returns : goal.returns
returns g c =
    let out : List ℕ = c.args.out.now in
    let trace : List ℕ = c.args.trace.now in
    let all : Outcome g.M.Machine.State = run g.M.Machine.performs (length out) (g.M.Machine.state c.args.machine.now) trace in
    let ran : RunsTo c.new-output.result all c.match-new.run c.match-new.output (g.M.Machine.state c.match-new.machine) =
    elim c.match-new.branch [
      | in-Err w ↦ refused_at_once (ap (λ (r : Refusal). ended (refusal_line r 0) (g.M.Machine.state c.args.machine.now)) w.in-Err.ensures.1 ∙ sym (run_refused g.M.Machine.performs (length out) (g.M.Machine.state c.args.machine.now) trace w.in-Err.ensures.0)) w.run-is w.output-is (ap g.M.Machine.state w.machine-is)
      | in-Ok w ↦ runs_as (started_as g.M.Machine.performs (length out) (g.M.Machine.state c.args.machine.now) c.new-output.result out w.in-Ok.reader trace c.new-output.ensures.bytes c.new-output.ensures.place refl w.in-Ok.ensures.0 w.in-Ok.ensures.1 w.in-Ok.ensures.2) w.run-is w.output-is (ap g.M.Machine.state w.machine-is) w.run_records-run.ensures
    ] in
    let last : line_bytes c.match-run.line ≡ last_line c.match-new.run =
    elim c.match-run.branch [
      | in-Ok-run w ↦ ap line_bytes w.line-is ∙ ap last_line (sym w.in-Ok-run.is)
      | in-Err-run w ↦ ap line_bytes w.line-is ∙ ap last_line (sym w.in-Err-run.is)
    ] in
    let output : Output = c.line.new.self in
    let printed : Printed c.new-output.result all.lines output = whole_run ran (sym last) c.line.ensures in
    let lender = sym c.new-output.ensures.lender ∙ sym printed.lender in
    let place : c.place.result ≡ output.place = c.place.ensures in
    record {
      count = place ∙ count_of c.new-output.result output out all.lines c.new-output.ensures.bytes c.new-output.ensures.place printed;
      lines = joins (bytes_of output) (search rules) (lines_of c.new-output.result output out all.lines c.new-output.ensures.bytes c.new-output.ensures.place printed ∙ ap (λ (n : ℕ). take (length out) all.lines ++ drop n out) (sym place));
      machine = ran.board;
    }
