use Rattle.std.proofs.Common.{◌≡◌, ◌+◌, ◌-◌, sym, ap, ◌∙◌, subst, arith}
use native.Mathlib.Nat.{min-eq_left}
use Rattle.slots.specs.Slots.{ticked, levels_of, AllStill}
use Rattle.board.specs.View.{view}
use Rattle.board.proofs.Progressing.{moved_to}
use Rattle.board.proofs.Stillness.{still_on}
use Rattle.board.proofs.board.Board.jump_quietly.Goals as goal

pub invariant_of-self : goal.invariant_of-self
invariant_of-self g c =
    let board = c.args.self.now in
    let f = g.F.Slots.fitting in
    let s = g.F.Slots.states board.ports.slots in
    let k = c.args.n in
    let skipped : g.F.Slots.states c.skip.new.self ≡ ticked f k s = c.skip.ensures ∙ ap (λ n. ticked f n s) (min-eq_left c.requires.near) in
    record {
      handed_over = board.handed_over ∙ sym (ap (levels_of f) skipped ∙ board.quiet k (omega (arith, c.requires.quiet)));
      driven = board.driven;
      quiet = subst (AllStill f (board.quiet_until - (board.time + k))) (sym skipped) (still_on f k board.time board.quiet_until s board.quiet);
    }

pub returns-clause-moved : goal.returns-clause-moved
returns-clause-moved g c =
    let board = c.args.self.now in
    let f = g.F.Slots.fitting in
    let s = g.F.Slots.states board.ports.slots in
    let skipped : g.F.Slots.states c.skip.new.self ≡ ticked f c.args.n s = c.skip.ensures ∙ ap (λ n. ticked f n s) (min-eq_left c.requires.near) in
    let b = view g.F.Slots.states board in
    ap (λ t. moved_to t (b.time + c.args.n) b) skipped
