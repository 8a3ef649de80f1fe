use Rattle.board.specs.View.{view}
use Rattle.standard.proofs.Carried.{was_read}
use Rattle.standard.proofs.operated.OperatedMachine.read.Goals as goal

pub returns : goal.returns
returns g c = λ place. was_read g.F.Slots.fitting (view g.F.Slots.states c.args.self.now.board) (view g.F.Slots.states c.read.new.self) place c.args.port c.read.result c.read.ensures.same
