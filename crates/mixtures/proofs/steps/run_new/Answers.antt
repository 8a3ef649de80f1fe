use Rattle.std.proofs.Common.{◌∙◌, ap}
use Rattle.rules.specs.Mixtures.{run}
use Rattle.board.proofs.Called.{stands_in}
use Rattle.mixtures.specs.Runs.{calls_of}
use Rattle.mixtures.proofs.steps.run_new.Goals as goal

pub returns : goal.returns
returns g c = record {
  same = c.run.ensures.same ∙ ap (run g.F.Slots.fitting (calls_of c.args.steps.now)) c.new-board.ensures.board;
  calls = c.run.ensures.calls;
  nodes = stands_in c.args.nodes c.new-board.result c.run.new.board c.new-board.ensures.nodes c.run.ensures.kept;
}
