use Rattle.std.proofs.Common.{◌-◌, ap, ◌∙◌, arith}
use Rattle.rules.specs.Board.{tick_times}
use Rattle.board_laws.specs.Jump.{counted, split_ticks}
use Rattle.board.specs.View.{view}
use Rattle.board.specs.Steps.{Progress, ticking}
use Rattle.board.proofs.Called.{few_pending}
use Rattle.board.proofs.Progressing.{progress_both, same_end, ran_out}
use Rattle.board.proofs.board.Board.run.Goals as goal

pub run_stretch-edges-requires-clause-time : goal.run_stretch-edges-requires-clause-time
run_stretch-edges-requires-clause-time g c =
    let ends = same_end g.F.Slots.states g.F.Slots.fitting c.args.ticks c.loop-left.left c.args.self.now c.loop-left.self _ _ c.loop-left.invariant.passed in
    omega (arith, c.until_write-stretch.ensures.most, c.loop-left.invariant.fewer)

pub overflow_add-edges : goal.overflow_add-edges
overflow_add-edges g c = omega (arith, c.loop-left.invariant.passed.few, c.run_stretch-edges.ensures.few, few_pending g.F.Slots.states c.args.self.now)

pub loop-left-preserved : goal.loop-left-preserved
loop-left-preserved g c =
    let s = g.F.Slots.states in
    let f = g.F.Slots.fitting in
    let before = c.loop-left.self in
    let after = c.run_stretch-edges.new.self in
    let left = c.loop-left.left in
    let stretch = c.until_write-stretch.result in
    let within = c.until_write-stretch.ensures.most in
    let ran = c.run_stretch-edges.ensures in
    let next : Progress s f (ticking f left) (ticking f (left - stretch)) stretch c.run_stretch-edges.result before after = record {
      same = λ e. split_ticks f stretch left (counted f (view s before) e) within ∙ ap (tick_times f (left - stretch)) (ran.same e);
      few = ran.few;
      nodes = ran.nodes;
    } in
    record {
      passed = progress_both s f (c.args.ticks - left) stretch c.loop-left.edges c.run_stretch-edges.result _ before after _ _ c.loop-left.invariant.passed next (omega (arith, c.loop-left.invariant.fewer)) (omega arith);
      fewer = omega (arith, c.loop-left.invariant.fewer);
    }

pub returns : goal.returns
returns g c =
    ran_out g.F.Slots.states g.F.Slots.fitting c.args.ticks c.loop-left.left (c.args.ticks - c.loop-left.left) c.loop-left.edges c.args.self.now c.loop-left.self (omega arith) (omega arith) c.loop-left.invariant.passed
