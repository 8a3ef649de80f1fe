-- Every byte of a line.
use Rattle.std.specs.Prelude.{ℕ, true, false, List, [], ◌∷◌, ◌++◌, codes, decimal}
use Rattle.rules.specs.Refusals.{told, letter}
use Rattle.rules.specs.Trace.{hex_byte}
use Rattle.commands.specs.Reasons.{reason_of}
use Rattle.replies.specs.declared.line.Line.{Line}
use Rattle.replies.specs.declared.reply.Registers.{Registers}
use Rattle.replies.specs.declared.reply.State.{State}
use Rattle.replies.specs.declared.reply.Reply.{Reply}
use Rattle.replies.specs.declared.reply.Reply.TheVariants as reply

abbrev pub bytes_of : Line → List ℕ
bytes_of line = line.bytes.items

-- `0x` and two upper-case digits.
abbrev pub byte_text : ℕ → List ℕ
byte_text b = codes "0x" ++ hex_byte b

abbrev pub registers_text : Registers → List ℕ
registers_text r = codes " irr=" ++ byte_text r.irr ++ codes " isr=" ++ byte_text r.isr ++ codes " imr=" ++ byte_text r.imr

abbrev pub state_text : State → List ℕ
state_text s =
    codes "OK time=" ++ decimal s.time ++ codes " pending=" ++ decimal s.pending
    ++ codes " master" ++ registers_text s.master ++ codes " slave" ++ registers_text s.slave

abbrev pub text_of : Reply → List ℕ
text_of reply.Done = codes "OK"
text_of (reply.Byte b) = codes "OK " ++ byte_text b
text_of (reply.Requested true) = codes "OK 1"
text_of (reply.Requested false) = codes "OK 0"
text_of (reply.Stepped time edges) = codes "OK " ++ decimal time ++ codes " " ++ decimal edges
text_of (reply.State s) = state_text s
text_of reply.Help = codes "OK outb PORT BYTE, inb PORT, clock_step N, iack, irq, queue TICK PORT BYTE, state, help, quit"
text_of reply.Quit = codes "OK"
text_of (reply.Refused r) = codes "FAIL " ++ decimal (told r).number ++ 32 ∷ letter (told r).layer ∷ []
text_of (reply.Unreadable u) = codes "FAIL " ++ reason_of u

-- The text and a newline.
abbrev pub line_of : Reply → List ℕ
line_of r = text_of r ++ 10 ∷ []
