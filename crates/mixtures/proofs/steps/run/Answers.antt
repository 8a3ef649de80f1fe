use Rattle.std.proofs.Common.{◌<◌, ◌≤◌, length, refl, sym, ◌∙◌, arith}
use Rattle.rules.specs.declared.calls.Answer.TheVariants.{Edges}
use Rattle.rules.specs.declared.calls.Call.TheVariants.{Advance}
use Rattle.board.specs.View.{view}
use Rattle.board.proofs.Called.{keeps_same, keeps_both}
use Rattle.mixtures.specs.declared.steps.Step.{Step}
use Rattle.mixtures.proofs.Stepping.{calls_set, stepped, finished}
use Rattle.mixtures.proofs.steps.run.Goals as goal

pub loop-step-init : goal.loop-step-init
loop-step-init g c = record { same = refl; calls = refl; kept = keeps_same c.args.board.now }

pub loop-step-preserved : goal.loop-step-preserved
loop-step-preserved g c =
    let h : c.loop-step.step-index < length c.loop-step.steps = omega (arith, c.loop-step.auto.steps, c.loop-step-test.true) in
    let d : Step = record { call = Advance 0; answer = Edges 0 } in
    record {
      same =
          c.loop-step.invariant.same
          ∙ stepped g.F.Slots.fitting c.loop-step.steps c.loop-step.step-index d c.call-step.result (view g.F.Slots.states c.loop-step.board) (view g.F.Slots.states c.call-step.new.self) h c.call-step.ensures.same.same;
      calls = calls_set c.loop-step.steps c.loop-step.step-index d c.call-step.result h ∙ c.loop-step.invariant.calls;
      kept = keeps_both c.args.board.now c.loop-step.board c.call-step.new.self c.loop-step.invariant.kept c.call-step.ensures.same.nodes;
    }

pub returns : goal.returns
returns g c =
    let e : length c.loop-step.steps ≤ c.loop-step.step-index = omega (arith, c.loop-step.auto.steps, c.loop-step-test.false) in
    record {
      same = sym (c.loop-step.invariant.same ∙ finished g.F.Slots.fitting c.loop-step.steps c.loop-step.step-index (view g.F.Slots.states c.loop-step.board) e);
      calls = c.loop-step.invariant.calls;
      kept = c.loop-step.invariant.kept;
    }
