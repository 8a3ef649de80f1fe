use Rattle.board.specs.View.{view}
use Rattle.standard.proofs.Carried.{was_written}
use Rattle.standard.proofs.operated.OperatedMachine.write.Goals as goal

pub returns : goal.returns
returns g c = λ place. was_written g.F.Slots.fitting (view g.F.Slots.states c.args.self.now.board) (view g.F.Slots.states c.write.new.self) place c.args.port c.args.byte c.write.ensures.same
