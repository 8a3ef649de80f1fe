-- The tick board: four device slots, two interrupt controllers and a bag of timed writes, worked one tick at a time.
use Rattle.std.specs.Prelude.{ℕ, zero, suc, ◌+◌, ◌-◌, ◌^◌, min, Bool, true, false, cond, ◌&&◌, ◌||◌, List, [], ◌∷◌, length, ◌==◌, nat_le, nat_lt}
use Rattle.std.specs.Bool.{beq}
use Rattle.rules.specs.Ascending.{insert}
use Rattle.rules.specs.Device.{Meaning, horizon}
use Rattle.rules.specs.I8259.{Pair, standing_pair, drive_lines, vector, acknowledged, requests, read_chip, write_chip}
use Rattle.rules.specs.declared.calls.Answer.{Answer}
use Rattle.rules.specs.declared.calls.Answer.TheVariants.{Edges, Byte, Done, Requested, Refused}
use Rattle.rules.specs.declared.calls.Call.{Call}
use Rattle.rules.specs.declared.calls.Call.TheVariants.{Advance, Read, Write, Queue, Acknowledge, CheckRequest}
use Rattle.rules.specs.declared.queued.QueuedWrite.{QueuedWrite}
use Rattle.rules.specs.declared.refusal.Refusal.TheVariants.{LongAdvance, PastEnd, BadTick, QueueFull}

-- The four kinds of device in the slots, with states A, B, C and D.
pub record Fitting (A B C D : Type 0) : Type 0 where
  pub kind_0 : Meaning A
  pub kind_1 : Meaning B
  pub kind_2 : Meaning C
  pub kind_3 : Meaning D

-- Writes are ordered by tick, then port, then byte.
abbrev pub precedes : QueuedWrite → QueuedWrite → Bool
precedes v w =
    nat_lt v.tick w.tick
    || (v.tick == w.tick && (nat_lt v.port w.port || (v.port == w.port && nat_lt v.byte w.byte)))

pub record Board (A B C D : Type 0) : Type 0 where
  pub time : ℕ
  pub slot_0 : A
  pub slot_1 : B
  pub slot_2 : C
  pub slot_3 : D
  -- each slot's level last handed over
  pub handed : List Bool
  pub pair : Pair
  -- the bag of pending writes, ascending
  pub pending : List QueuedWrite
  -- how many writes the bag can hold
  pub nodes : ℕ

-- Where each slot answers, and the interrupt line of its level.
abbrev pub first_port_0 : ℕ
first_port_0 = 0x40

abbrev pub first_port_1 : ℕ
first_port_1 = 0x70

abbrev pub first_port_2 : ℕ
first_port_2 = 0x3f8

abbrev pub first_port_3 : ℕ
first_port_3 = 0x2f8

abbrev pub lines : List ℕ
lines = 0 ∷ 8 ∷ 4 ∷ 3 ∷ []

-- Time ends at 2^48.
abbrev pub end_of_time : ℕ
end_of_time = 2 ^ 48

-- However many nodes the caller lends, at most this many are used.
abbrev pub most_nodes : ℕ
most_nodes = 4096

-- The level of a line: that of the slot that is wired to it, and 0 where none is.
unfoldable pub on_line : List ℕ → List Bool → ℕ → Bool
on_line [] levels line = false
on_line (l ∷ ls) [] line = false
on_line (l ∷ ls) (v ∷ vs) line = cond (l == line) v (on_line ls vs line)

-- How many of the levels differ from those last handed over.
unfoldable pub edges_between : List Bool → List Bool → ℕ
edges_between [] new = 0
edges_between (v ∷ vs) [] = 0
edges_between (v ∷ vs) (w ∷ ws) = cond (beq v w) (edges_between vs ws) (1 + edges_between vs ws)

-- A port belongs to a controller, to a slot, or to nothing: an open bus.
pub data Target : Type 0 where
  master slave at_slot_0 at_slot_1 at_slot_2 at_slot_3 : ℕ → Target
  open_bus : Target

-- A port matches n ports from `from` on.
abbrev pub matches : ℕ → ℕ → ℕ → Bool
matches from n port = nat_le from port && nat_lt (port - from) n

-- A board, and the edges counted so far.
pub record Counted (A B C D : Type 0) : Type 0 where
  pub board : Board A B C D
  pub edges : ℕ

-- What a board answers to one of the six calls, and what it leaves.
pub record Answered (A B C D : Type 0) : Type 0 where
  pub answer : Answer
  pub board : Board A B C D

-- A board with other device states, other controllers or another bag.
abbrev pub with_slots : {A B C D : Type 0} → A → B → C → D → Board A B C D → Board A B C D
with_slots s0 s1 s2 s3 b =
    record { time = b.time; slot_0 = s0; slot_1 = s1; slot_2 = s2; slot_3 = s3; handed = b.handed; pair = b.pair; pending = b.pending; nodes = b.nodes }

abbrev pub with_pair : {A B C D : Type 0} → Pair → Board A B C D → Board A B C D
with_pair p b =
    record { time = b.time; slot_0 = b.slot_0; slot_1 = b.slot_1; slot_2 = b.slot_2; slot_3 = b.slot_3; handed = b.handed; pair = p; pending = b.pending; nodes = b.nodes }

abbrev pub with_pending : {A B C D : Type 0} → List QueuedWrite → Board A B C D → Board A B C D
with_pending ws b =
    record { time = b.time; slot_0 = b.slot_0; slot_1 = b.slot_1; slot_2 = b.slot_2; slot_3 = b.slot_3; handed = b.handed; pair = b.pair; pending = ws; nodes = b.nodes }

module _ {A B C D : Type 0} (f : Fitting A B C D) where
  -- The levels that the four devices show.
  abbrev pub levels : Board A B C D → List Bool
  levels b = f.kind_0.level b.slot_0 ∷ f.kind_1.level b.slot_1 ∷ f.kind_2.level b.slot_2 ∷ f.kind_3.level b.slot_3 ∷ []

  -- A handing gives each slot's level to its line's input, and the slave's request to the master.
  abbrev pub hand : Board A B C D → Board A B C D
  hand b =
      record {
        time = b.time;
        slot_0 = b.slot_0;
        slot_1 = b.slot_1;
        slot_2 = b.slot_2;
        slot_3 = b.slot_3;
        handed = levels b;
        pair = drive_lines (on_line lines (levels b)) b.pair;
        pending = b.pending;
        nodes = b.nodes;
      }

  -- The same, with each slot's level that differs from its last handed one counted as an edge.
  abbrev pub handing : Counted A B C D → Counted A B C D
  handing c = record { board = hand c.board; edges = c.edges + edges_between c.board.handed (levels c.board) }

  -- A port is tried against the controllers, then against slots 0 to 3, each as wide as its kind.
  abbrev pub target : ℕ → Target
  target port =
      cond (matches 0x20 2 port) (master (port - 0x20))
      (cond (matches 0xa0 2 port) (slave (port - 0xa0))
      (cond (matches first_port_0 f.kind_0.width port) (at_slot_0 (port - first_port_0))
      (cond (matches first_port_1 f.kind_1.width port) (at_slot_1 (port - first_port_1))
      (cond (matches first_port_2 f.kind_2.width port) (at_slot_2 (port - first_port_2))
      (cond (matches first_port_3 f.kind_3.width port) (at_slot_3 (port - first_port_3)) open_bus)))))

  -- A read at what a port reaches: the byte, and the board after it. An open bus reads FFh.
  abbrev pub byte_at : Target → Board A B C D → ℕ
  byte_at (master o) b = read_chip o b.pair.master
  byte_at (slave o) b = read_chip o b.pair.slave
  byte_at (at_slot_0 o) b = f.kind_0.byte_read b.slot_0 o
  byte_at (at_slot_1 o) b = f.kind_1.byte_read b.slot_1 o
  byte_at (at_slot_2 o) b = f.kind_2.byte_read b.slot_2 o
  byte_at (at_slot_3 o) b = f.kind_3.byte_read b.slot_3 o
  byte_at open_bus b = 255

  abbrev pub after_read_at : Target → Board A B C D → Board A B C D
  after_read_at (master o) b = b
  after_read_at (slave o) b = b
  after_read_at (at_slot_0 o) b = with_slots (f.kind_0.after_read b.slot_0 o) b.slot_1 b.slot_2 b.slot_3 b
  after_read_at (at_slot_1 o) b = with_slots b.slot_0 (f.kind_1.after_read b.slot_1 o) b.slot_2 b.slot_3 b
  after_read_at (at_slot_2 o) b = with_slots b.slot_0 b.slot_1 (f.kind_2.after_read b.slot_2 o) b.slot_3 b
  after_read_at (at_slot_3 o) b = with_slots b.slot_0 b.slot_1 b.slot_2 (f.kind_3.after_read b.slot_3 o) b
  after_read_at open_bus b = b

  -- A write at what a port reaches. An open bus ignores it.
  abbrev pub after_write_at : Target → ℕ → Board A B C D → Board A B C D
  after_write_at (master o) v b = with_pair (record { master = write_chip o v b.pair.master; slave = b.pair.slave }) b
  after_write_at (slave o) v b = with_pair (record { master = b.pair.master; slave = write_chip o v b.pair.slave }) b
  after_write_at (at_slot_0 o) v b = with_slots (f.kind_0.after_write b.slot_0 o v) b.slot_1 b.slot_2 b.slot_3 b
  after_write_at (at_slot_1 o) v b = with_slots b.slot_0 (f.kind_1.after_write b.slot_1 o v) b.slot_2 b.slot_3 b
  after_write_at (at_slot_2 o) v b = with_slots b.slot_0 b.slot_1 (f.kind_2.after_write b.slot_2 o v) b.slot_3 b
  after_write_at (at_slot_3 o) v b = with_slots b.slot_0 b.slot_1 b.slot_2 (f.kind_3.after_write b.slot_3 o v) b
  after_write_at open_bus v b = b

  -- An access of a port.
  abbrev pub byte_read : ℕ → Board A B C D → ℕ
  byte_read port b = byte_at (target port) b

  abbrev pub after_read : ℕ → Board A B C D → Board A B C D
  after_read port b = after_read_at (target port) b

  abbrev pub after_write : ℕ → ℕ → Board A B C D → Board A B C D
  after_write port v b = after_write_at (target port) v b

  -- Time goes up by one and each device ticks.
  abbrev pub devices_ticked : Board A B C D → Board A B C D
  devices_ticked b =
      record {
        time = b.time + 1;
        slot_0 = f.kind_0.tick b.slot_0;
        slot_1 = f.kind_1.tick b.slot_1;
        slot_2 = f.kind_2.tick b.slot_2;
        slot_3 = f.kind_3.tick b.slot_3;
        handed = b.handed;
        pair = b.pair;
        pending = b.pending;
        nodes = b.nodes;
      }

  -- The writes at the front of the list that are due now leave the bag and are carried out, each with a handing of its own.
  unfoldable pub carry_out : List QueuedWrite → Counted A B C D → Counted A B C D
  carry_out [] c = record { board = with_pending [] c.board; edges = c.edges }
  carry_out (w ∷ ws) c =
      elim (w.tick == c.board.time) [
        | true ↦ carry_out ws (handing (record { board = after_write w.port w.byte (with_pending ws c.board); edges = c.edges }))
        | false ↦ record { board = with_pending (w ∷ ws) c.board; edges = c.edges }
      ]

  -- One tick: time and devices, a handing, and then the writes for this time, lowest port first, then lowest byte.
  unfoldable pub tick : Counted A B C D → Counted A B C D
  tick c =
      let moved = handing (record { board = devices_ticked c.board; edges = c.edges }) in
      carry_out moved.board.pending moved

  -- n ticks, one after the other.
  unfoldable pub tick_times : ℕ → Counted A B C D → Counted A B C D
  tick_times zero c = c
  tick_times (suc n) c = tick_times n (tick c)

  -- An advance: refused above 2^32 or past the end of time, else its ticks' edges. Advance 0 does nothing.
  abbrev pub do_advance : ℕ → Board A B C D → Answered A B C D
  do_advance n b =
      elim (nat_lt horizon n) [
        | true ↦ record { answer = Refused LongAdvance; board = b }
        | false ↦
            elim (nat_lt (end_of_time - b.time) n) [
              | true ↦ record { answer = Refused PastEnd; board = b }
              | false ↦ (let after = tick_times n (record { board = b; edges = 0 }) in record { answer = Edges after.edges; board = after.board })
            ]
      ]

  -- A queued write: refused unless its tick lies ahead and within time, and where no node is free; else it joins the bag.
  abbrev pub do_queue : QueuedWrite → Board A B C D → Answered A B C D
  do_queue w b =
      elim (nat_lt b.time w.tick && nat_le w.tick end_of_time) [
        | false ↦ record { answer = Refused BadTick; board = b }
        | true ↦
            elim (nat_lt (length b.pending) b.nodes) [
              | false ↦ record { answer = Refused QueueFull; board = b }
              | true ↦ record { answer = Done; board = with_pending (insert precedes w b.pending) b }
            ]
      ]

  -- What each call answers and leaves. A direct read or write and an acknowledge each end in one handing; the request check
  -- changes nothing.
  abbrev pub call : Call → Board A B C D → Answered A B C D
  call (Advance n) b = do_advance n b
  call (Read port) b = record { answer = Byte (byte_read port b); board = hand (after_read port b) }
  call (Write port v) b = record { answer = Done; board = hand (after_write port v b) }
  call (Queue w) b = do_queue w b
  call Acknowledge b = record { answer = Byte (vector b.pair); board = hand (with_pair (acknowledged b.pair) b) }
  call CheckRequest b = record { answer = Requested (requests b.pair.master); board = b }

  -- A new board: time 0, an empty bag, and the levels that its devices show count as already handed over, without a rise.
  abbrev pub new_board : ℕ → A → B → C → D → Board A B C D
  new_board nodes a b c d =
      let shown : List Bool = f.kind_0.level a ∷ f.kind_1.level b ∷ f.kind_2.level c ∷ f.kind_3.level d ∷ [] in
      record {
        time = 0;
        slot_0 = a;
        slot_1 = b;
        slot_2 = c;
        slot_3 = d;
        handed = shown;
        pair = standing_pair (on_line lines shown);
        pending = [];
        nodes = min nodes most_nodes;
      }
