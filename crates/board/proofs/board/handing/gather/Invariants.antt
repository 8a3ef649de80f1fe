use Rattle.std.proofs.Common.{◌≡◌, ◌≤◌, take}
use Rattle.rules.specs.Board.{edges_between}
use Rattle.board.proofs.Wiring.{word}
use Rattle.board.proofs.board.handing.gather.Given as goal

abbrev pub invariant-loop-slot : goal.invariant-loop-slot
invariant-loop-slot l =
    record {
      on_lines : l.lines ≡ word (take l.slot l.levels);
      counted : l.edges ≡ edges_between (take l.slot l.handed) (take l.slot l.levels);
      few : l.edges ≤ l.slot;
    }
