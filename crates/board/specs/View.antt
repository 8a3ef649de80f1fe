-- What the code's board stands for: the tick board of the rules.
use Rattle.std.specs.Prelude.{◌≡◌, List}
use Rattle.std.specs.Borrow.{MutBor}
use Rattle.rules.specs.Board as rules
use Rattle.rules.specs.declared.calls.Answer.{Answer}
use Rattle.rules.specs.declared.calls.Call.{Call}
use Rattle.rules.specs.declared.queued.QueuedWrite.{QueuedWrite}
use Rattle.agenda.specs.Nodes.{usable}
use Rattle.agenda.specs.Waiting.{waiting, WorksIn, Kept}
use Rattle.slots.specs.Slots.{States}
use Rattle.slots.specs.declared.fitted.Slots.{Ghosts}
use Rattle.board.specs.Placing.{placed}
use Rattle.board.specs.declared.board.Board.{Board}

module _ {F S0 S1 S2 S3 : Type 0} {slots : Ghosts F} (states : F → States S0 S1 S2 S3) where
  abbrev pub view : Board F slots → rules.Board S0 S1 S2 S3
  view b = placed states b.ports b.time (waiting rules.precedes b.queue) (usable b.queue.nodes.now)

  -- A call did on the board what the tick board does: it gave the same answer and left the same state. Of the lent nodes, those
  -- past the usable ones are as they were.
  pub record Does (f : rules.Fitting S0 S1 S2 S3) (call : Call) (before : Board F slots) (answer : Answer) (after : Board F slots) : Type 0 where
    pub same : record { answer = answer; board = view after } ≡ rules.call f call (view before)
    pub nodes : Kept before.queue after.queue

module _ {F : Type 0} {slots : Ghosts F} where
  -- A board works in the nodes that it was lent.
  abbrev pub StandsIn : MutBor (List QueuedWrite) → Board F slots → Type 0
  StandsIn lent b = WorksIn lent b.queue

  -- A board works on in the nodes that it worked in.
  abbrev pub KeepsNodes : Board F slots → Board F slots → Type 0
  KeepsNodes old new = Kept old.queue new.queue
