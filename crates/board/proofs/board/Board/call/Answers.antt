-- Each way through a call did what the tick board's call does, and so hands over what that one does.
use Rattle.std.proofs.Common.{◌≡◌, sym, subst}
use Rattle.rules.specs.Board.{Fitting, Answered}
use Rattle.rules.specs.Mixtures.{HandsOver}
use Rattle.rules.specs.declared.calls.Answer.{Answer}
use Rattle.rules.specs.declared.calls.Call.{Call}
use Rattle.slots.specs.Slots.{States}
use Rattle.slots.specs.declared.fitted.Slots.{Ghosts}
use Rattle.board_laws.specs.Handings.{call_hands_over}
use Rattle.board.specs.View.{view, Does}
use Rattle.board.specs.declared.board.Board.{Board}
use Rattle.board.proofs.board.Board.call.Goals as goal

hands_over : {F S0 S1 S2 S3 : Type 0} {slots : Ghosts F} {states : F → States S0 S1 S2 S3} {f : Fitting S0 S1 S2 S3} {call c : Call} {before : Board F slots} {a : Answer} {after : Board F slots}
    → call ≡ c → Does states f c before a after → HandsOver f call (view states before) a (view states after)
hands_over {S0 = S0} {S1 = S1} {S2 = S2} {S3 = S3} {states = states} {f = f} {call = call} {c = c} {before = before} {a = a} {after = after} is does =
    let P : Answered S0 S1 S2 S3 → Type 0 = λ t. HandsOver f c (view states before) t.answer t.board in
    subst (λ d. HandsOver f d (view states before) a (view states after)) (sym is) (subst P (sym does.same) (call_hands_over f c (view states before)))

pub returns-in-Ok-clause-handings : goal.returns-in-Ok-clause-handings
returns-in-Ok-clause-handings g c = hands_over c.in-Advance.is (c.in-Ok.ensures)

pub returns-in-Err-clause-handings : goal.returns-in-Err-clause-handings
returns-in-Err-clause-handings g c = hands_over c.in-Advance.is (c.in-Err.ensures)

pub returns-in-Read-clause-handings : goal.returns-in-Read-clause-handings
returns-in-Read-clause-handings g c = hands_over c.in-Read.is c.read.ensures

pub returns-in-Write-clause-handings : goal.returns-in-Write-clause-handings
returns-in-Write-clause-handings g c = hands_over c.in-Write.is c.write.ensures

pub returns-in-Ok-queue-clause-handings : goal.returns-in-Ok-queue-clause-handings
returns-in-Ok-queue-clause-handings g c = hands_over c.in-Queue.is (c.in-Ok-queue.ensures)

pub returns-in-Err-queue-clause-handings : goal.returns-in-Err-queue-clause-handings
returns-in-Err-queue-clause-handings g c = hands_over c.in-Queue.is (c.in-Err-queue.ensures)

pub returns-in-Acknowledge-clause-handings : goal.returns-in-Acknowledge-clause-handings
returns-in-Acknowledge-clause-handings g c = hands_over c.in-Acknowledge.is c.acknowledge.ensures

pub returns-in-CheckRequest-clause-handings : goal.returns-in-CheckRequest-clause-handings
returns-in-CheckRequest-clause-handings g c = hands_over c.in-CheckRequest.is c.requests.ensures
