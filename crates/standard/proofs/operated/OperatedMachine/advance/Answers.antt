use Rattle.std.proofs.Common.{◌≡◌, ℕ, sym, ap, ◌∙◌, Ok, Err, Result}
use Rattle.std.specs.Result.{IsErrAnd}
use Rattle.rules.specs.Trace.{refusal_line, advance_line}
use Rattle.rules.specs.declared.refusal.Refusal.{Refusal}
use Rattle.trace.specs.declared.machine.Elapsed.{Elapsed}
use Rattle.trace.specs.Performing.{performed, advance_reply}
use Rattle.board.specs.Answers.{of_advance}
use Rattle.board.specs.View.{view}
use Rattle.standard.proofs.Carried.{advanced, not_advanced}
use Rattle.standard.proofs.operated.OperatedMachine.advance.Goals as goal

-- the board's refusal is passed on
passed_on : (r : Result Elapsed Refusal) (e : Refusal) (place : ℕ) → IsErrAnd r (λ x. x ≡ e) → refusal_line e place ≡ advance_reply r place
passed_on (Ok t) e place h = absurd h
passed_on (Err x) e place h = ap (λ r. refusal_line r place) (sym h)

pub returns-in_err-edges : goal.returns-in_err-edges
returns-in_err-edges g c =
    let after = view g.F.Slots.states c.advance.new.self in
    λ place.
    not_advanced g.F.Slots.fitting (view g.F.Slots.states c.args.self.now.board) after place c.args.ticks c.in_err-edges.field-0.0
    (ap (λ (r : Result ℕ Refusal). record { answer = of_advance r; board = after }) (sym c.in_err-edges.was) ∙ c.advance.ensures.same)
    ∙ ap (λ line. performed line after) (passed_on c.from_residual.result c.in_err-edges.field-0.0 place c.from_residual.ensures.1)

pub returns : goal.returns
returns g c =
    let after = view g.F.Slots.states c.advance.new.self in
    λ place.
    advanced g.F.Slots.fitting (view g.F.Slots.states c.args.self.now.board) after place c.args.ticks c.in_ok-edges.edges
    (ap (λ (r : Result ℕ Refusal). record { answer = of_advance r; board = after }) (sym c.in_ok-edges.was) ∙ c.advance.ensures.same)
    ∙ ap (λ time. performed (advance_line time c.in_ok-edges.edges) after) (sym c.time.ensures)
