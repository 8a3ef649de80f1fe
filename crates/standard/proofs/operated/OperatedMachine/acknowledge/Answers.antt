use Rattle.board.specs.View.{view}
use Rattle.standard.proofs.Carried.{acknowledged}
use Rattle.standard.proofs.operated.OperatedMachine.acknowledge.Goals as goal

pub returns : goal.returns
returns g c = λ place. acknowledged g.F.Slots.fitting (view g.F.Slots.states c.args.self.now.board) (view g.F.Slots.states c.acknowledge.new.self) place c.acknowledge.result c.acknowledge.ensures.same
