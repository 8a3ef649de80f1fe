-- The ten refusals: each one's number and layer. Whatever speaks of a refusal's number or layer goes through `told`.
use Rattle.std.specs.Prelude.{ℕ}
use Rattle.rules.specs.declared.refusal.Refusal.{Refusal}
use Rattle.rules.specs.declared.refusal.Refusal.TheVariants.{NotATrace, CutOff, UnknownKind, WrongLength, NotPrintable, LongAdvance, PastEnd, BadTick, QueueFull, OutputFull}
use Rattle.rules.specs.declared.refusal.Layer.{Layer}
use Rattle.rules.specs.declared.refusal.Layer.TheVariants.{Trace, Board, Queue}

pub record Told : Type 0 where
  pub number : ℕ
  pub layer : Layer

abbrev pub told : Refusal → Told
told NotATrace = record { number = 1; layer = Trace }
told CutOff = record { number = 2; layer = Trace }
told UnknownKind = record { number = 3; layer = Trace }
told WrongLength = record { number = 4; layer = Trace }
told NotPrintable = record { number = 5; layer = Trace }
told LongAdvance = record { number = 6; layer = Board }
told PastEnd = record { number = 7; layer = Board }
told BadTick = record { number = 8; layer = Board }
told QueueFull = record { number = 9; layer = Queue }
told OutputFull = record { number = 10; layer = Trace }

-- The letter of a layer as it is printed: T, B or Q.
abbrev pub letter : Layer → ℕ
letter Trace = 84
letter Board = 66
letter Queue = 81
