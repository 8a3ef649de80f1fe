use Rattle.board.specs.View.{view}
use Rattle.standard.proofs.Carried.{queued}
use Rattle.standard.proofs.operated.OperatedMachine.queue.Goals as goal

pub returns : goal.returns
returns g c = λ place. queued g.F.Slots.fitting (view g.F.Slots.states c.args.self.now.board) (view g.F.Slots.states c.queue.new.self) place c.args.write.tick c.args.write.port c.args.write.byte c.queue.result c.queue.ensures.same
