use Rattle.std.proofs.Common.{◌≡◌, ℕ, Result, sym, ap, ◌∙◌, arith, rules}
use Rattle.rules.specs.declared.refusal.Refusal.{Refusal}
use Rattle.lines.specs.declared.output.Line.{Line}
use Rattle.lines.specs.Printing.{line_bytes}
use Rattle.lines.proofs.Printing.{printed_as}
use Rattle.trace.specs.Performing.{reply_bytes}
use Rattle.trace.proofs.Running.{at_start, at_full, at_last, at_fault, at_record, less_left, placed, placed_is, placed_ok}
use Rattle.trace.proofs.run.run_records.Goals as goal
use Rattle.trace.proofs.run.run_records.Goals.{in-Ok, in-Err}

pub loop-read-init : goal.loop-read-init
loop-read-init g c = at_start _ _ _ _

pub returns-in_default : goal.returns-in_default
returns-in_default g c = at_last _ c.loop-read.invariant c.in_default.ensures

pub returns-then-room-lt-ROOM_NEEDED : goal.returns-then-room-lt-ROOM_NEEDED
returns-then-room-lt-ROOM_NEEDED g c = at_full _ c.loop-read.invariant _ c.place-place.ensures (omega arith) c.in-Some.ensures

pub returns-in_err-record : goal.returns-in_err-record
returns-in_err-record g c =
    let place : ℕ = c.place-place.result in
    let read : c.map_err.result ≡ placed place c.in-Some.read = placed_is _ _ _ _ c.map_err.ensures.cases (λ e f q. search rules) in
    at_fault _ c.loop-read.invariant place _ c.place-place.ensures (omega arith) c.in-Some.ensures (sym read ∙ c.in_err-record.was) c.from_residual.ensures.1

pub loop-read-smaller : goal.loop-read-smaller
loop-read-smaller g c =
    let read : c.map_err.result ≡ placed c.place-place.result c.in-Some.read = placed_is _ _ _ _ c.map_err.ensures.cases (λ e f q. search rules) in
    let step = rw (placed_ok _ _ _ (sym read ∙ c.in_ok-record.was)) at c.in-Some.ensures in less_left step

pub loop-read-preserved : goal.loop-read-preserved
loop-read-preserved g c =
    let place : ℕ = c.place-place.result in
    let read : c.map_err.result ≡ placed place c.in-Some.read = placed_is _ _ _ _ c.map_err.ensures.cases (λ e f q. search rules) in
    let step = rw (placed_ok _ _ _ (sym read ∙ c.in_ok-record.was)) at c.in-Some.ensures in
    let line : line_bytes c.match-perform.line ≡ reply_bytes c.perform.result place =
    elim c.match-perform.branch [
      | in-Ok w ↦ ap line_bytes w.line-is ∙ ap (λ (r : Result Line Refusal). reply_bytes r place) (sym w.in-Ok.is)
      | in-Err w ↦ ap line_bytes w.line-is ∙ ap (λ (r : Result Line Refusal). reply_bytes r place) (sym w.in-Err.is)
    ] in
    at_record _ c.loop-read.invariant c.place-place.ensures (omega arith) step (c.perform.ensures place) (printed_as line c.line.ensures)
