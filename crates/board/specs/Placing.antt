-- The tick board of some ports, with its time, its pending writes and its nodes.
use Rattle.std.specs.Prelude.{ℕ, List}
use Rattle.rules.specs.Board as rules
use Rattle.rules.specs.declared.queued.QueuedWrite.{QueuedWrite}
use Rattle.slots.specs.Slots.{States}
use Rattle.board.specs.declared.board.handing.Ports.{Ports}

abbrev pub placed : {F S0 S1 S2 S3 : Type 0} (states : F → States S0 S1 S2 S3) → Ports F → ℕ → List QueuedWrite → ℕ → rules.Board S0 S1 S2 S3
placed states p time pending nodes =
    record {
      time = time;
      slot_0 = (states p.slots).slot_0;
      slot_1 = (states p.slots).slot_1;
      slot_2 = (states p.slots).slot_2;
      slot_3 = (states p.slots).slot_3;
      handed = p.handed;
      pair = p.pair;
      pending = pending;
      nodes = nodes;
    }
