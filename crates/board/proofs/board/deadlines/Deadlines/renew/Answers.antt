use Rattle.std.proofs.Common.{sym, subst}
use Rattle.agenda.specs.Waiting.{waiting}
use Rattle.board.specs.Deadlines.{comes_before, Watched}
use Rattle.board.proofs.Stillness.{renewed_watched, renewed_fewer}
use Rattle.board.proofs.board.deadlines.Deadlines.renew.Goals as goal

pub loop-deadline-preserved : goal.loop-deadline-preserved
loop-deadline-preserved g c = λ n ahead near watched.
    let taken = c.in-Some.ensures.taken in
    let told = c.announce.ensures.announced in
    renewed_watched g.F.Slots.fitting n ahead c.args.now c.in-Some.deadline told.0 (waiting comes_before c.loop-deadline.self.agenda) (waiting comes_before c.take_due.new.self.agenda) (waiting comes_before c.announce.new.self.agenda) (g.F.Slots.states c.args.slots.now) near told.1 taken.1 told.2 (c.loop-deadline.invariant n ahead near watched)

pub loop-deadline-smaller : goal.loop-deadline-smaller
loop-deadline-smaller g c =
    let taken = c.in-Some.ensures.taken in
    let told = c.announce.ensures.announced in
    renewed_fewer g.F.Slots.fitting c.args.now c.in-Some.deadline told.0 (waiting comes_before c.loop-deadline.self.agenda) (waiting comes_before c.take_due.new.self.agenda) (waiting comes_before c.announce.new.self.agenda) (g.F.Slots.states c.args.slots.now) taken.0 told.1 taken.1 told.2

pub returns-clause-watched : goal.returns-clause-watched
returns-clause-watched g c = λ n ahead near watched.
    subst (λ ds. Watched g.F.Slots.fitting n ahead c.args.now ds (g.F.Slots.states c.args.slots.now)) (sym c.in_default.ensures.taken.0) (c.loop-deadline.invariant n ahead near watched)
