-- What a line does to a board, and what is replied.
use Rattle.std.specs.Prelude.{◌≡◌, ℕ, List, length, Ok, Err}
use Rattle.rules.specs.I8259.{Chip}
use Rattle.rules.specs.Board as rules
use Rattle.rules.specs.declared.calls.Answer.{Answer}
use Rattle.rules.specs.declared.calls.Call.{Call}
use Rattle.slots.specs.Slots.{States}
use Rattle.slots.specs.declared.fitted.Slots.{Ghosts}
use Rattle.board.specs.View.{view, Does}
use Rattle.board.specs.declared.board.Board.{Board}
use Rattle.commands.specs.Meaning.{meaning}
use Rattle.commands.specs.declared.command.Command.{Command}
use Rattle.commands.specs.declared.command.Command.TheVariants.{Outb, Inb, ClockStep, Iack, Irq, Queue, State, Help, Quit}
use Rattle.replies.specs.declared.reply.Registers.{Registers}
use Rattle.replies.specs.declared.reply.State as shown
use Rattle.replies.specs.declared.reply.Reply.{Reply}
use Rattle.replies.specs.declared.reply.Reply.TheVariants as reply

abbrev pub registers_of : Chip → Registers
registers_of chip = record { irr = chip.irr; isr = chip.isr; imr = chip.imr }

abbrev pub state_of : {S0 S1 S2 S3 : Type 0} → rules.Board S0 S1 S2 S3 → shown.State
state_of b =
    record {
      time = b.time;
      pending = length b.pending;
      master = registers_of b.pair.master;
      slave = registers_of b.pair.slave;
    }

-- A command asks for a call of the board, or for a reply that leaves the board as it is.
pub data Asked : Type 0 where
  call : Call → Asked
  only : Reply → Asked

abbrev pub asked : {S0 S1 S2 S3 : Type 0} → Command → rules.Board S0 S1 S2 S3 → Asked
asked (Outb port byte) b = call (Call.Write port byte)
asked (Inb port) b = call (Call.Read port)
asked (ClockStep n) b = call (Call.Advance n)
asked Iack b = call Call.Acknowledge
asked Irq b = call Call.CheckRequest
asked (Queue write) b = call (Call.Queue write)
asked State b = only (reply.State (state_of b))
asked Help b = only reply.Help
asked Quit b = only reply.Quit

-- The reply to a call's answer, where the call ended at this time.
abbrev pub reply_to : Answer → ℕ → Reply
reply_to (Answer.Edges edges) time = reply.Stepped time edges
reply_to (Answer.Byte b) time = reply.Byte b
reply_to Answer.Done time = reply.Done
reply_to (Answer.Requested r) time = reply.Requested r
reply_to (Answer.Refused r) time = reply.Refused r

module _ {F S0 S1 S2 S3 : Type 0} {slots : Ghosts F} (states : F → States S0 S1 S2 S3) (f : rules.Fitting S0 S1 S2 S3) where
  -- The tick board's call, and the reply to its answer; or a reply and the same board, to its last node.
  abbrev pub Gives : Asked → Board F slots → Reply → Board F slots → Type 0
  Gives (call c) before r after = (answer : Answer) × Does states f c before answer after × (r ≡ reply_to answer after.time)
  Gives (only shown) before r after = (r ≡ shown) × (after ≡ before)

  abbrev pub CarriesOut : Command → Board F slots → Reply → Board F slots → Type 0
  CarriesOut c before = Gives (asked c (view states before)) before

  abbrev pub Answers : List ℕ → Board F slots → Reply → Board F slots → Type 0
  Answers line before r after =
      elim (meaning line) [
        | Ok c ↦ CarriesOut c before r after
        | Err why ↦ (r ≡ reply.Unreadable why) × (after ≡ before)
      ]
