use Rattle.std.proofs.Common.{◌≡◌, ◌<◌, List, [], ◌∷◌, length, Some, None, Option, MatchOption, IsSome, refl, ap, ◌+◌, arith}
use Rattle.agenda.specs.Waiting.{waiting}
use Rattle.board.specs.Deadlines.{comes_before, in_order}
use Rattle.board.specs.declared.board.deadlines.Deadline.{Deadline}
use Rattle.agenda.proofs.Leading.{held_leads}
use Rattle.board.proofs.Called.{waiting_len}
use Rattle.board.proofs.Stillness.{none_before_first}
use Rattle.board.proofs.board.deadlines.Deadlines.take_due.Goals as goal

-- What is taken leaves one fewer.
fewer : (old new : List Deadline) (r : Option Deadline) (P : Type 0) → IsSome r → MatchOption r ((old ≡ []) × P) (λ x. old ≡ x ∷ new) → length new < length old
fewer old new None P some taken = cc
fewer old new (Some x) P some taken = omega (arith, ap length taken)

pub returns-in-Some-clause-room : goal.returns-in-Some-clause-room
returns-in-Some-clause-room c = λ some.
    let old = c.args.self.now.agenda in
    let new = c.take.new.self in
    let less = fewer (waiting comes_before old) (waiting comes_before new) c.take.result _ some c.take.ensures.taken in
    omega (arith, waiting_len old, waiting_len new, c.take.ensures.kept.number)

pub returns-in_default-clause-taken : goal.returns-in_default-clause-taken
returns-in_default-clause-taken c =
    let agenda = c.args.self.now.agenda in
    (refl, none_before_first (c.args.now + 1) (waiting comes_before agenda) c.in-Some.deadline (held_leads in_order agenda.nodes.now agenda.len) c.in-Some.ensures (omega arith))
