use Rattle.std.proofs.Common.{◌≡◌, ◌<◌, ◌≤◌, min, length, sym, refl, ap, ◌∙◌, ap₂, arith, Ok, Err, Result}
use Rattle.std.specs.Result.{IsErrAnd}
use Rattle.agenda.specs.Nodes.{usable, held}
use Rattle.rules.specs.Board.{precedes}
use Rattle.rules.specs.declared.calls.Answer.TheVariants.{Done, Refused}
use Rattle.rules.specs.declared.refusal.Refusal.{Refusal}
use Rattle.rules.specs.declared.refusal.Refusal.TheVariants.{QueueFull}
use Rattle.board.specs.Answers.{of_queue}
use Rattle.board.specs.View.{view}
use Rattle.board_laws.specs.Advances.{answered}
use Rattle.board.proofs.Called.{with_bag, pending_len, queue_taken, queue_full}
use Rattle.board.proofs.board.Board.queue.Goals as goal

-- a full agenda's error is passed on as the queue's
passed_on : (r : Result (Unit {0}) Refusal) → IsErrAnd r (λ e. e ≡ QueueFull) → of_queue r ≡ Refused QueueFull
passed_on (Ok u) h = absurd h
passed_on (Err e) h = ap Refused h

pub returns-in_err-insert : goal.returns-in_err-insert
returns-in_err-insert g c =
    let before = view g.F.Slots.states c.args.self.now in
    let old = c.args.self.now.queue in
    let found = c.in_err-insert.ensures in
    let count = pending_len g.F.Slots.states c.args.self.now in
    let none : usable old.nodes.now ≤ old.len = grind (arith, found.room.1) in
    let full : before.nodes ≤ length before.pending = omega arith in
    record {
      same =
          ap₂ (λ a ws. answered a (with_bag before ws (usable c.insert.new.self.nodes.now))) (passed_on c.from_residual.result c.from_residual.ensures.1) (ap₂ (held precedes) found.err.nodes found.err.len)
          ∙ ap (λ n. answered (Refused QueueFull) (with_bag before before.pending n)) (ap (min 4096) found.kept.number)
          ∙ sym (queue_full g.F.Slots.fitting c.args.write before c.if-write-self.false c.if-write-gt-END_OF_TIME.false full);
      nodes = found.kept;
    }

pub returns : goal.returns
returns g c =
    let before = view g.F.Slots.states c.args.self.now in
    let old = c.args.self.now.queue in
    let found = c.in_ok-insert.ensures in
    let count = pending_len g.F.Slots.states c.args.self.now in
    let room : old.len < usable old.nodes.now = found.room.0 refl in
    let fits : length before.pending < before.nodes = omega arith in
    record {
      same =
          ap₂ (λ ws n. answered Done (with_bag before ws n)) found.ok (ap (min 4096) found.kept.number)
          ∙ sym (queue_taken g.F.Slots.fitting c.args.write before c.if-write-self.false c.if-write-gt-END_OF_TIME.false fits);
      nodes = found.kept;
    }
