use Rattle.mixtures.proofs.Stepping.{Partway}
use Rattle.mixtures.proofs.steps.run.Given as goal

abbrev pub invariant-loop-step : goal.invariant-loop-step
invariant-loop-step g l = Partway g.F.Slots l.step-index l.initial.steps l.steps l.initial.board l.board
