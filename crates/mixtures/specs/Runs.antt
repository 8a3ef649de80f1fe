-- What a program makes of a mixture of calls: steps, each a call and the place for its answer, and boards that take them.
use Rattle.std.specs.Prelude.{◌≡◌, List, map, length}
use Rattle.std.specs.Borrow.{MutBor}
use Rattle.rules.specs.Mixtures.{Mixture, run, SameAsTicking}
use Rattle.rules.specs.declared.calls.Answer.{Answer}
use Rattle.rules.specs.declared.calls.Call.{Call}
use Rattle.rules.specs.declared.queued.QueuedWrite.{QueuedWrite}
use Rattle.slots.specs.declared.fitted.Slots.{Ghosts}
use Rattle.board.specs.View.{view, StandsIn, KeepsNodes}
use Rattle.board.specs.declared.board.Board.{Board}
use Rattle.mixtures.specs.declared.steps.Step.{Step}

abbrev pub calls_of : List Step → List Call
calls_of steps = map (λ s. s.call) steps

abbrev pub answers_of : List Step → List Answer
answers_of steps = map (λ s. s.answer) steps

-- A run of steps on a board: their answers and the board at the end are the tick board's. The calls stand as they were.
pub record Runs {F : Type 0} (slots : Ghosts F) (before after : List Step) (old new : Board F slots) : Type 0 where
  pub same : record { answers = answers_of after; board = view slots.states new } ≡ run slots.fitting (calls_of before) (view slots.states old)
  pub calls : calls_of after ≡ calls_of before
  pub kept : KeepsNodes old new

-- The mixture that a new board was made for and given, by what it was made of, the steps before and after, and the board at the end.
abbrev pub mixture : {F : Type 0} (slots : Ghosts F) → F → MutBor (List QueuedWrite) → List Step → List Step → Board F slots → Mixture slots.S0 slots.S1 slots.S2 slots.S3
mixture slots devices nodes before after end =
    let states = slots.states devices in
    record {
      slot_0 = states.slot_0;
      slot_1 = states.slot_1;
      slot_2 = states.slot_2;
      slot_3 = states.slot_3;
      nodes = length nodes.now;
      calls = calls_of before;
      answers = answers_of after;
      end = view slots.states end;
    }

-- A board that was newly made and given a mixture does the same as ticking. The calls stand as they were.
pub record RunsNew {F : Type 0} (slots : Ghosts F) (devices : F) (lent : MutBor (List QueuedWrite)) (before after : List Step) (end : Board F slots) : Type 0 where
  pub same : SameAsTicking slots.fitting (mixture slots devices lent before after end)
  pub calls : calls_of after ≡ calls_of before
  pub nodes : StandsIn lent end
