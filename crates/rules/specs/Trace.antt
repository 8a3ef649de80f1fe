-- A trace, byte for byte: how its records are read, in which order they are checked, and every line of a run.
use Rattle.std.specs.Prelude.{ℕ, zero, suc, ◌+◌, ◌-◌, ◌*◌, ◌/◌, ◌%◌, Bool, true, false, cond, ◌&&◌, List, [], ◌∷◌, ◌++◌, length, take, drop, Ok, Err, decimal, Result, ◌==◌, nat_le, nat_lt}
use Rattle.rules.specs.Refusals.{told, letter}
use Rattle.rules.specs.declared.refusal.Refusal.{Refusal}
use Rattle.rules.specs.declared.refusal.Refusal.TheVariants.{NotATrace, CutOff, UnknownKind, WrongLength, NotPrintable, OutputFull}
use Rattle.rules.specs.Board.{Board, Fitting, new_board, call}
use Rattle.rules.specs.declared.calls.Answer.{Answer}
use Rattle.rules.specs.declared.calls.Answer.TheVariants.{Edges, Byte, Done, Requested, Refused}
use Rattle.rules.specs.declared.calls.Call.TheVariants as calls
use Rattle.rules.specs.Device.{divided, divide, empty_device, Divided}
use Rattle.rules.specs.I8254.{timer, power_on_timer, Timer}

-- ---- reading

-- A number from its bytes, the highest first, behind what was read before.
unfoldable pub big_endian_from : ℕ → List ℕ → ℕ
big_endian_from n [] = n
big_endian_from n (b ∷ bs) = big_endian_from (256 * n + b) bs

abbrev pub big_endian : List ℕ → ℕ
big_endian bs = big_endian_from 0 bs

pub data Record : Type 0 where
  advance : (n : ℕ) → Record
  read : (port : ℕ) → Record
  write : (port value : ℕ) → Record
  acknowledge : Record
  queue : (tick port value : ℕ) → Record
  note : (text : List ℕ) → Record

-- Printable ASCII: 20h to 7Eh.
abbrev pub printable : ℕ → Bool
printable b = nat_le 0x20 b && nat_le b 0x7e

unfoldable pub all_printable : List ℕ → Bool
all_printable [] = true
all_printable (b ∷ bs) = printable b && all_printable bs

-- The record, if its fields are as long as its kind wants.
abbrev pub sized : ℕ → List ℕ → Record → Result Record Refusal
sized n fields r = cond (length fields == n) (Ok r) (Err WrongLength)

-- A note has at most 80 bytes of text, all printable.
abbrev pub noted : List ℕ → Result Record Refusal
noted text = cond (nat_le (length text) 80) (cond (all_printable text) (Ok (note text)) (Err NotPrintable)) (Err WrongLength)

-- The counted bytes of a record: its kind decides how the rest is read.
unfoldable pub decode : List ℕ → Result Record Refusal
decode [] = Err UnknownKind
decode (kind ∷ fields) =
    cond (kind == 1) (sized 8 fields (advance (big_endian fields)))
    (cond (kind == 2) (sized 2 fields (read (big_endian fields)))
    (cond (kind == 3) (sized 3 fields (write (big_endian (take 2 fields)) (big_endian (drop 2 fields))))
    (cond (kind == 4) (sized 0 fields acknowledge)
    (cond (kind == 5) (sized 11 fields (queue (big_endian (take 8 fields)) (big_endian (take 2 (drop 8 fields))) (big_endian (drop 10 fields))))
    (cond (kind == 6) (noted fields) (Err UnknownKind))))))

-- What stands at a place of the trace: nothing more, a fault, or a record of so many bytes behind its length field.
pub data Next : Type 0 where
  at_end : Next
  fault : Refusal → Next
  got : Record → (len : ℕ) → (rest : List ℕ) → Next

-- A record of len counted bytes, where that many are left.
abbrev pub counted_record : ℕ → List ℕ → Next
counted_record len bytes =
    cond (nat_lt (length bytes) len) (fault CutOff) (elim (decode (take len bytes)) [ Ok r ↦ got r len (drop len bytes) | Err e ↦ fault e ])

unfoldable pub next : List ℕ → Next
next [] = at_end
next (h ∷ []) = fault CutOff
next (h ∷ (l ∷ bytes)) = counted_record (256 * h + l) bytes

-- ---- printing

abbrev pub newline : ℕ
newline = 10

abbrev pub space : ℕ
space = 32

-- An upper-case hexadecimal digit, and a byte and a port in two and four of them.
abbrev pub hex_digit : ℕ → ℕ
hex_digit d = cond (nat_lt d 10) (48 + d) (55 + d)

abbrev pub hex_byte : ℕ → List ℕ
hex_byte b = hex_digit (b / 16 % 16) ∷ hex_digit (b % 16) ∷ []

abbrev pub hex_port : ℕ → List ℕ
hex_port p = hex_digit (p / 4096 % 16) ∷ hex_digit (p / 256 % 16) ∷ hex_digit (p / 16 % 16) ∷ hex_digit (p % 16) ∷ []

-- `+ time edges`
abbrev pub advance_line : ℕ → ℕ → List ℕ
advance_line time edges = 43 ∷ space ∷ (decimal time ++ (space ∷ (decimal edges ++ (newline ∷ []))))

-- `R pppp vv` and `W pppp vv`
abbrev pub access_line : ℕ → ℕ → ℕ → List ℕ
access_line mark port value = mark ∷ space ∷ (hex_port port ++ (space ∷ (hex_byte value ++ (newline ∷ []))))

-- `I vv`
abbrev pub vector_line : ℕ → List ℕ
vector_line v = 73 ∷ space ∷ (hex_byte v ++ (newline ∷ []))

-- `Q tick`
abbrev pub queue_line : ℕ → List ℕ
queue_line tick = 81 ∷ space ∷ (decimal tick ++ (newline ∷ []))

-- `# text`
abbrev pub note_line : List ℕ → List ℕ
note_line text = 35 ∷ space ∷ (text ++ (newline ∷ []))

-- `! number layer place`
abbrev pub refusal_line : Refusal → ℕ → List ℕ
refusal_line r place = 33 ∷ space ∷ (decimal (told r).number ++ (space ∷ letter (told r).layer ∷ space ∷ (decimal place ++ (newline ∷ []))))

-- `. records`
abbrev pub count_line : ℕ → List ℕ
count_line records = 46 ∷ space ∷ (decimal records ++ (newline ∷ []))

-- ---- a run

-- The line of a record that was carried out, and what it was carried out on afterwards.
pub record Performed (B : Type 0) : Type 0 where
  pub line : List ℕ
  pub board : B

-- What a run comes to: its lines, and what its records were carried out on, as it is left.
pub record Outcome (B : Type 0) : Type 0 where
  pub lines : List ℕ
  pub board : B

-- The end of a run: its last line.
abbrev pub ended : {B : Type 0} → List ℕ → B → Outcome B
ended last b = record { lines = last; board = b }

-- Before each record that much output has to remain.
abbrev pub room_needed : ℕ
room_needed = 100

-- The run from a place of the trace on: `bytes` are left of the trace, `room` of the output, and `count` records were read.
-- The room is looked at before a record's own checks, and only where a byte is left. A fault of the trace ends the run with
-- its line; at the end comes the count. `fuel` only bounds the recursion: a record takes at least two bytes.
unfoldable pub run_from : {B : Type 0} → (Record → ℕ → B → Performed B) → ℕ → ℕ → ℕ → ℕ → B → List ℕ → Outcome B
run_from perform fuel room place count b [] = ended (count_line count) b
run_from perform zero room place count b (x ∷ xs) = ended [] b
run_from perform (suc fuel) room place count b (x ∷ xs) =
    elim (nat_lt room room_needed) [
      | true ↦ ended (refusal_line OutputFull place) b
      | false ↦
          elim (next (x ∷ xs)) [
            | at_end ↦ ended (count_line count) b
            | fault r ↦ ended (refusal_line r place) b
            | got r len rest ↦
                (let p = perform r place b in
                let later = run_from perform fuel (room - length p.line) (place + 2 + len) (count + 1) p.board rest in
                record { lines = p.line ++ later.lines; board = later.board })
          ]
    ]

-- A trace has at most this many bytes, and starts with the version.
abbrev pub longest_trace : ℕ
longest_trace = 65536

abbrev pub version : ℕ
version = 1

-- The run of a whole trace, with `room` bytes of output.
unfoldable pub run : {B : Type 0} → (Record → ℕ → B → Performed B) → ℕ → B → List ℕ → Outcome B
run perform room b [] = ended (refusal_line NotATrace 0) b
run perform room b (v ∷ bytes) =
    elim (v == version && nat_lt (length bytes) longest_trace) [
      | true ↦ run_from perform (length bytes) room 1 0 b bytes
      | false ↦ ended (refusal_line NotATrace 0) b
    ]

-- All its lines, and what its records were carried out on, as it is left.
abbrev pub run_lines : {B : Type 0} → (Record → ℕ → B → Performed B) → ℕ → B → List ℕ → List ℕ
run_lines perform room b trace = (run perform room b trace).lines

abbrev pub run_board : {B : Type 0} → (Record → ℕ → B → Performed B) → ℕ → B → List ℕ → B
run_board perform room b trace = (run perform room b trace).board

module _ {A B C D : Type 0} (f : Fitting A B C D) where
  -- What a call prints: its own line, or the refusal's.
  abbrev pub answer_line : List ℕ → ℕ → Answer → List ℕ
  answer_line line place (Edges n) = line
  answer_line line place (Byte v) = line
  answer_line line place Done = line
  answer_line line place (Requested b) = line
  answer_line line place (Refused r) = refusal_line r place

  abbrev pub edges_of : Answer → ℕ
  edges_of (Edges n) = n
  edges_of (Byte v) = 0
  edges_of Done = 0
  edges_of (Requested b) = 0
  edges_of (Refused r) = 0

  abbrev pub byte_of : Answer → ℕ
  byte_of (Edges n) = 0
  byte_of (Byte v) = v
  byte_of Done = 0
  byte_of (Requested b) = 0
  byte_of (Refused r) = 0

  -- A record carried out on the tick board.
  unfoldable pub on_board : Record → ℕ → Board A B C D → Performed (Board A B C D)
  on_board (advance n) place b = (let a = call f (calls.Advance n) b in record { line = answer_line (advance_line a.board.time (edges_of a.answer)) place a.answer; board = a.board })
  on_board (read port) place b = (let a = call f (calls.Read port) b in record { line = access_line 82 port (byte_of a.answer); board = a.board })
  on_board (write port v) place b = (let a = call f (calls.Write port v) b in record { line = access_line 87 port v; board = a.board })
  on_board acknowledge place b = (let a = call f calls.Acknowledge b in record { line = vector_line (byte_of a.answer); board = a.board })
  on_board (queue t port v) place b = (let a = call f (calls.Queue (record { tick = t; port = port; byte = v })) b in record { line = answer_line (queue_line t) place a.answer; board = a.board })
  on_board (note text) place b = record { line = note_line text; board = b }

-- The standard fitting: slot 0 has the 8254 behind a divider of 12, the others are empty; the runner lends 256 nodes.
abbrev pub standard : Fitting (Divided Timer) (Unit {0}) (Unit {0}) (Unit {0})
standard = record { kind_0 = divided timer; kind_1 = empty_device; kind_2 = empty_device; kind_3 = empty_device }

abbrev pub standard_board : Board (Divided Timer) (Unit {0}) (Unit {0}) (Unit {0})
standard_board = new_board standard 256 (divide 12 power_on_timer) tt tt tt

-- What the runner prints of a trace when it has `room` bytes of output.
unfoldable pub printed : ℕ → List ℕ → List ℕ
printed room trace = run_lines (on_board standard) room standard_board trace
