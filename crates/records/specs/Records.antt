-- What the code's records are in the rules' words.
use Rattle.std.specs.Prelude.{Ok, Err, Result}
use Rattle.rules.specs.Trace as rules
use Rattle.rules.specs.declared.refusal.Refusal.{Refusal}
use Rattle.records.specs.declared.record.Record.{Record}
use Rattle.records.specs.declared.record.Record.TheVariants.{Advance, Read, Write, Acknowledge, Queue, Note}

abbrev pub meant : Record → rules.Record
meant (Advance n) = rules.Record.advance n
meant (Read port) = rules.Record.read port
meant (Write port byte) = rules.Record.write port byte
meant Acknowledge = rules.Record.acknowledge
meant (Queue write) = rules.Record.queue write.tick write.port write.byte
meant (Note text) = rules.Record.note text.now

abbrev pub decoded : Result Record Refusal → Result rules.Record Refusal
decoded (Ok r) = Ok (meant r)
decoded (Err e) = Err e
