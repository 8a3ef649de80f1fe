-- Mixtures of calls: any finite list of the six calls, with any numbers, taken or refused, on a newly made board. What the tick board
-- answers to them, what it hands over along the way, and what is promised of every board: that it does the same as the tick board, that its
-- advances may be cut, and that a device may be exchanged for one that shows the same levels.
use Rattle.std.specs.Prelude.{◌≡◌, ℕ, zero, suc, ◌+◌, Bool, true, false, List, [], ◌∷◌, ◌++◌, map, length, ◌==◌, slice_index_or}
use Rattle.rules.specs.Board.{Board, Fitting, Counted, matches, first_port_0, first_port_1, first_port_2, first_port_3, edges_between, handing, devices_ticked, after_write, with_pending, tick, call, new_board}
use Rattle.rules.specs.declared.calls.Answer.{Answer}
use Rattle.rules.specs.declared.calls.Answer.TheVariants.{Edges, Byte, Done, Requested, Refused}
use Rattle.rules.specs.declared.calls.Call.{Call}
use Rattle.rules.specs.declared.calls.Call.TheVariants.{Advance, Read, Write, Queue, Acknowledge, CheckRequest}
use Rattle.rules.specs.declared.queued.QueuedWrite.{QueuedWrite}

-- ---- mixtures

-- A mixture of calls on a new board, and what came of it: the states of the devices and the number of nodes that the board was made of, the
-- calls, an answer to each, and the board at the end.
pub record Mixture (A B C D : Type 0) : Type 0 where
  pub slot_0 : A
  pub slot_1 : B
  pub slot_2 : C
  pub slot_3 : D
  pub nodes : ℕ
  pub calls : List Call
  pub answers : List Answer
  pub end : Board A B C D

-- What calls, one after the other, are answered, and the board that they leave.
pub record Ran (A B C D : Type 0) : Type 0 where
  pub answers : List Answer
  pub board : Board A B C D

module _ {A B C D : Type 0} (f : Fitting A B C D) where
  -- What the tick board answers, and leaves.
  unfoldable pub run : List Call → Board A B C D → Ran A B C D
  run [] b = record { answers = []; board = b }
  run (c ∷ cs) b =
      let first = call f c b in
      let rest = run cs first.board in
      record { answers = first.answer ∷ rest.answers; board = rest.board }

  -- The tick board that a mixture begins with.
  abbrev pub start : Mixture A B C D → Board A B C D
  start m = new_board f m.nodes m.slot_0 m.slot_1 m.slot_2 m.slot_3

  -- **Same as ticking.** Every answer, and the board at the end, are the tick board's.
  abbrev pub SameAsTicking : Mixture A B C D → Type 0
  SameAsTicking m = record { answers = m.answers; board = m.end } ≡ run m.calls (start m)

-- ---- two boards side by side

-- Two boards that are the same but for their devices: of these, what each slot's relation says.
pub record Alike {A B C D X Y Z W : Type 0} (R0 : A → X → Type 0) (R1 : B → Y → Type 0) (R2 : C → Z → Type 0) (R3 : D → W → Type 0) (b : Board A B C D) (x : Board X Y Z W) : Type 0 where
  pub at_0 : R0 b.slot_0 x.slot_0
  pub at_1 : R1 b.slot_1 x.slot_1
  pub at_2 : R2 b.slot_2 x.slot_2
  pub at_3 : R3 b.slot_3 x.slot_3
  pub time : b.time ≡ x.time
  pub handed : b.handed ≡ x.handed
  pub pair : b.pair ≡ x.pair
  pub pending : b.pending ≡ x.pending
  pub nodes : b.nodes ≡ x.nodes

-- Two mixtures whose boards are made alike.
pub record MadeAlike {A B C D X Y Z W : Type 0} (R0 : A → X → Type 0) (R1 : B → Y → Type 0) (R2 : C → Z → Type 0) (R3 : D → W → Type 0) (m : Mixture A B C D) (o : Mixture X Y Z W) : Type 0 where
  pub at_0 : R0 m.slot_0 o.slot_0
  pub at_1 : R1 m.slot_1 o.slot_1
  pub at_2 : R2 m.slot_2 o.slot_2
  pub at_3 : R3 m.slot_3 o.slot_3
  pub nodes : m.nodes ≡ o.nodes

-- The two relations of a slot that there are: the devices in it are in the same state; or they may be anything, of any kinds.
abbrev pub Same : {S : Type 0} → S → S → Type 0
Same s t = s ≡ t

abbrev pub Any : {S T : Type 0} → S → T → Type 0
Any s t = Unit {0}

-- ---- cutting

-- A piece of a mixture: a call as it is, or an advance by the parts that it is cut into.
pub data Piece : Type 0 where
  uncut : (c : Call) → Piece
  cut : (parts : List ℕ) → Piece

abbrev pub total : List ℕ → ℕ
total [] = 0
total (n ∷ ns) = n + total ns

-- The calls, whole.
unfoldable pub whole_calls : List Piece → List Call
whole_calls [] = []
whole_calls (uncut c ∷ ps) = c ∷ whole_calls ps
whole_calls (cut ns ∷ ps) = Advance (total ns) ∷ whole_calls ps

-- The same calls, with the advances cut.
unfoldable pub cut_calls : List Piece → List Call
cut_calls [] = []
cut_calls (uncut c ∷ ps) = c ∷ cut_calls ps
cut_calls (cut ns ∷ ps) = map Advance ns ++ cut_calls ps

-- Each advance that is cut was taken as a whole: these are the answers to the whole calls, and its own is a number of edges.
pub data CutsTaken : List Piece → List Answer → Type 0 where
  no_piece : CutsTaken [] []
  not_cut : (c : Call) (a : Answer) {ps : List Piece} {whole : List Answer} → CutsTaken ps whole → CutsTaken (uncut c ∷ ps) (a ∷ whole)
  taken : (ns : List ℕ) (edges : ℕ) {ps : List Piece} {whole : List Answer} → CutsTaken ps whole → CutsTaken (cut ns ∷ ps) (Edges edges ∷ whole)

-- The answers to the cut calls beside those to the whole ones. A call as it is has the same answer. Each part of an advance is taken, and
-- their edges add up to those of the advance.
pub data Joined : List Piece → List Answer → List Answer → Type 0 where
  all_joined : Joined [] [] []
  same : (c : Call) (a : Answer) {ps : List Piece} {parts whole : List Answer} → Joined ps parts whole → Joined (uncut c ∷ ps) (a ∷ parts) (a ∷ whole)
  added : (ns edges : List ℕ) → length edges ≡ length ns → {ps : List Piece} {parts whole : List Answer} → Joined ps parts whole → Joined (cut ns ∷ ps) (map Edges edges ++ parts) (Edges (total edges) ∷ whole)

-- **Cutting changes nothing.** Where one mixture's calls are another's with advances cut that were all taken, on boards that are made the
-- same, the answers join piece by piece and the boards at the end are the same.
abbrev pub CuttingChangesNothing : {A B C D : Type 0} → Mixture A B C D → Mixture A B C D → Type 0
CuttingChangesNothing m c =
    (pieces : List Piece) → MadeAlike Same Same Same Same m c → m.calls ≡ whole_calls pieces → c.calls ≡ cut_calls pieces → CutsTaken pieces m.answers
    → Joined pieces c.answers m.answers × (m.end ≡ c.end)

-- ---- what is handed over

-- What an advance hands over if it is taken, and so answers its edges; what is refused hands over nothing.
abbrev pub if_taken : Answer → List (List Bool) → List (List Bool)
if_taken (Edges edges) levels = levels
if_taken (Byte v) levels = []
if_taken Done levels = []
if_taken (Requested r) levels = []
if_taken (Refused r) levels = []

module _ {A B C D : Type 0} (f : Fitting A B C D) where
  -- The levels of the four slots that are handed over, handing by handing: after each of the writes that are due now;
  unfoldable pub handings_of_due : List QueuedWrite → Counted A B C D → List (List Bool)
  handings_of_due [] c = []
  handings_of_due (w ∷ ws) c =
      elim (w.tick == c.board.time) [
        | true ↦
            (let next = handing f (record { board = after_write f w.port w.byte (with_pending ws c.board); edges = c.edges }) in
            next.board.handed ∷ handings_of_due ws next)
        | false ↦ []
      ]

  -- of a tick, that of the devices' own changes first;
  abbrev pub handings_of_tick : Counted A B C D → List (List Bool)
  handings_of_tick c =
      let moved = handing f (record { board = devices_ticked f c.board; edges = c.edges }) in
      moved.board.handed ∷ handings_of_due moved.board.pending moved

  unfoldable pub handings_of_ticks : ℕ → Counted A B C D → List (List Bool)
  handings_of_ticks zero c = []
  handings_of_ticks (suc n) c = handings_of_tick c ++ handings_of_ticks n (tick f c)

  -- of a call: an advance that is taken has those of its ticks, a read, a write and an acknowledge one at their end, and what is refused, a
  -- queued write and a request check none;
  abbrev pub handings_of_call : Call → Board A B C D → List (List Bool)
  handings_of_call (Advance n) b = if_taken (call f (Advance n) b).answer (handings_of_ticks n (record { board = b; edges = 0 }))
  handings_of_call (Read port) b = (call f (Read port) b).board.handed ∷ []
  handings_of_call (Write port v) b = (call f (Write port v) b).board.handed ∷ []
  handings_of_call (Queue w) b = []
  handings_of_call Acknowledge b = (call f Acknowledge b).board.handed ∷ []
  handings_of_call CheckRequest b = []

  -- and of one call after the other.
  unfoldable pub handings : List Call → Board A B C D → List (List Bool)
  handings [] b = []
  handings (c ∷ cs) b = handings_of_call c b ++ handings cs (call f c b).board

-- How many levels change from one handing to the next, in all four slots, after `shown` was handed over.
unfoldable pub changes : List Bool → List (List Bool) → ℕ
changes shown [] = 0
changes shown (levels ∷ rest) = edges_between shown levels + changes levels rest

-- What was handed over last.
unfoldable pub last_handed : List Bool → List (List Bool) → List Bool
last_handed shown [] = shown
last_handed shown (levels ∷ rest) = last_handed levels rest

-- So the list of handings need not be believed: the edges that an advance answers are the changes along it, and its last entry is what the
-- board then holds as handed over.
pub record HandsOver {A B C D : Type 0} (f : Fitting A B C D) (c : Call) (before : Board A B C D) (answer : Answer) (after : Board A B C D) : Type 0 where
  pub edges : (n : ℕ) → answer ≡ Edges n → n ≡ changes before.handed (handings_of_call f c before)
  pub handed : after.handed ≡ last_handed before.handed (handings_of_call f c before)

-- ---- exchanging a device

-- The ports of a slot are its first port and the next seven, however many of them its device answers at.
abbrev pub first_port : ℕ → ℕ
first_port slot = slice_index_or (first_port_0 ∷ first_port_1 ∷ first_port_2 ∷ first_port_3 ∷ []) slot 0

abbrev pub is_port_of : ℕ → ℕ → Bool
is_port_of slot port = matches (first_port slot) 8 port

-- A call that reads one of the slot's ports.
abbrev pub reads_from : ℕ → Call → Bool
reads_from slot (Advance n) = false
reads_from slot (Read port) = is_port_of slot port
reads_from slot (Write port byte) = false
reads_from slot (Queue w) = false
reads_from slot Acknowledge = false
reads_from slot CheckRequest = false

-- Answers to the same calls are equal, but for reads of the slot's ports.
pub data EqualBut (slot : ℕ) : List Call → List Answer → List Answer → Type 0 where
  all_compared : EqualBut slot [] [] []
  next : (c : Call) (a b : Answer) → (reads_from slot c ≡ false → a ≡ b) → {cs : List Call} {ones others : List Answer} → EqualBut slot cs ones others → EqualBut slot (c ∷ cs) (a ∷ ones) (b ∷ others)

abbrev pub level_of : ℕ → List Bool → Bool
level_of slot levels = slice_index_or levels slot false

-- The levels that a slot shows on the tick board: at the start, and at every handing over.
abbrev pub shown : {A B C D : Type 0} → Fitting A B C D → ℕ → Mixture A B C D → List Bool
shown f slot m = level_of slot (start f m).handed ∷ map (level_of slot) (handings f m.calls (start f m))

-- **Exchanging a device.** Two mixtures have the same calls, on boards that are made alike but for one slot's device. If the two tick boards
-- show equal levels in that slot, then all answers but to reads of its ports are equal, and the boards at the end are alike. Nothing else is
-- asked of the two devices, whose kinds and widths may differ, and nothing of the other slots.
abbrev pub ExchangingIn : {A B C D X Y Z W : Type 0} → ℕ → (A → X → Type 0) → (B → Y → Type 0) → (C → Z → Type 0) → (D → W → Type 0)
    → Fitting A B C D → Fitting X Y Z W → Mixture A B C D → Mixture X Y Z W → Type 0
ExchangingIn slot R0 R1 R2 R3 f g m o =
    MadeAlike R0 R1 R2 R3 m o → m.calls ≡ o.calls → shown f slot m ≡ shown g slot o
    → EqualBut slot m.calls m.answers o.answers × Alike R0 R1 R2 R3 m.end o.end

-- The same for each slot: of its device nothing is said, and the other three are the same.
abbrev pub ExchangingSlot0 : {A B C D X : Type 0} → Fitting A B C D → Fitting X B C D → Mixture A B C D → Mixture X B C D → Type 0
ExchangingSlot0 = ExchangingIn 0 Any Same Same Same

abbrev pub ExchangingSlot1 : {A B C D X : Type 0} → Fitting A B C D → Fitting A X C D → Mixture A B C D → Mixture A X C D → Type 0
ExchangingSlot1 = ExchangingIn 1 Same Any Same Same

abbrev pub ExchangingSlot2 : {A B C D X : Type 0} → Fitting A B C D → Fitting A B X D → Mixture A B C D → Mixture A B X D → Type 0
ExchangingSlot2 = ExchangingIn 2 Same Same Any Same

abbrev pub ExchangingSlot3 : {A B C D X : Type 0} → Fitting A B C D → Fitting A B C X → Mixture A B C D → Mixture A B C X → Type 0
ExchangingSlot3 = ExchangingIn 3 Same Same Same Any
