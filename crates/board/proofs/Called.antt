-- Steps that the proofs of the calls share.
use Rattle.std.proofs.Common.{◌≡◌, ℕ, ◌<◌, ◌≤◌, min, true, ◌&&◌, ltb, leb, List, length, drop, refl, ap, ◌∙◌, subst, le-ltb, lt-ltb, le-leb, arith}
use Rattle.std.specs.Borrow.{MutBor}
use Rattle.agenda.specs.Nodes.{usable}
use Rattle.agenda.specs.Waiting.{waiting, WorksIn, Kept}
use Rattle.agenda.specs.declared.Entry.{Ghosts}
use Rattle.agenda.specs.declared.agenda.Agenda.{Agenda}
use Rattle.std.proofs.lemmas.Bool.{and_from}
use Rattle.rules.specs.Ascending.{insert}
use Rattle.rules.specs.Board.{Board, Fitting, do_queue, with_pending, precedes, end_of_time, most_nodes}
use Rattle.rules.specs.declared.calls.Answer.TheVariants.{Done, Refused}
use Rattle.rules.specs.declared.queued.QueuedWrite.{QueuedWrite}
use Rattle.rules.specs.declared.refusal.Refusal.TheVariants.{QueueFull}
use Rattle.agenda.proofs.Heaps.{length_held, sound_within}
use Rattle.slots.specs.Slots.{States}
use Rattle.slots.specs.declared.fitted.Slots.{Ghosts as Fittings}
use Rattle.board.specs.View.{view, StandsIn, KeepsNodes}
use Rattle.board.specs.declared.board.Board as B
use Rattle.board_laws.specs.Advances.{answered}

-- An agenda that is the same works in the same nodes.
pub kept_same : {E : Type 0} {entry : Ghosts E} (old new : Agenda E entry) → new ≡ old → Kept old new
kept_same old new e = record {
  lender = ap (λ q. q.nodes.ghost_name) e;
  number = ap (λ q. length q.nodes.now) e;
  unused = ap (λ q. drop (usable old.nodes.now) q.nodes.now) e;
}

-- Calls join.
pub kept_both : {E : Type 0} {entry : Ghosts E} (old mid new : Agenda E entry) → Kept old mid → Kept mid new → Kept old new
kept_both old mid new a b = record {
  lender = b.lender ∙ a.lender;
  number = b.number ∙ a.number;
  unused =
      subst (λ n. drop n new.nodes.now ≡ drop n mid.nodes.now) (ap (λ n. min 4096 n) a.number) b.unused ∙ a.unused;
}

-- The same of boards.
module _ {F : Type 0} {slots : Fittings F} where
  pub keeps_same : (b : B.Board F slots) → KeepsNodes b b
  keeps_same b = kept_same b.queue b.queue refl

  pub keeps_both : (old mid new : B.Board F slots) → KeepsNodes old mid → KeepsNodes mid new → KeepsNodes old new
  keeps_both old mid new = kept_both old.queue mid.queue new.queue

  -- A board that works in the nodes that it was made with goes on to stand in them.
  pub stands_in : (lent : MutBor (List QueuedWrite)) (old new : B.Board F slots) → old.queue.nodes ≡ lent → KeepsNodes old new → StandsIn lent new
  stands_in lent old new made kept = subst (λ n. WorksIn n new.queue) made kept

-- As many entries wait as nodes are taken, and no more than are usable.
pub waiting_len : {E : Type 0} {entry : Ghosts E} (q : Agenda E entry) → (length (waiting entry.before q) ≡ q.len) × (q.len ≤ usable q.nodes.now)
waiting_len {entry = e} q =
    let few = sound_within e.before q.nodes.now q.len q.ready in
    (length_held e.before q.nodes.now q.len (omega arith), few)

pub pending_len : {F S0 S1 S2 S3 : Type 0} {slots : Fittings F} (states : F → States S0 S1 S2 S3) (b : B.Board F slots) → (length (view states b).pending ≡ b.queue.len) × (b.queue.len ≤ usable b.queue.nodes.now)
pending_len states b = waiting_len b.queue

pub few_pending : {F S0 S1 S2 S3 : Type 0} {slots : Fittings F} (states : F → States S0 S1 S2 S3) (b : B.Board F slots) → length (view states b).pending ≤ most_nodes
few_pending states b = let all = pending_len states b in omega arith

-- A board with another bag, and with as many nodes as are usable.
abbrev pub with_bag : {S0 S1 S2 S3 : Type 0} → Board S0 S1 S2 S3 → List QueuedWrite → ℕ → Board S0 S1 S2 S3
with_bag b ws n =
    record { time = b.time; slot_0 = b.slot_0; slot_1 = b.slot_1; slot_2 = b.slot_2; slot_3 = b.slot_3; handed = b.handed; pair = b.pair; pending = ws; nodes = n }

-- What a queued write comes to, by its tests.
module _ {S0 S1 S2 S3 : Type 0} (f : Fitting S0 S1 S2 S3) (w : QueuedWrite) (b : Board S0 S1 S2 S3) (ahead : b.time < w.tick) (within : w.tick ≤ end_of_time) where
  in_time : (ltb b.time w.tick && leb w.tick end_of_time) ≡ true
  in_time = and_from (ltb b.time w.tick) (leb w.tick end_of_time) (lt-ltb b.time w.tick ahead) (le-leb w.tick end_of_time within)

  pub queue_taken : length b.pending < b.nodes → do_queue f w b ≡ answered Done (with_pending (insert precedes w b.pending) b)
  queue_taken room = rw (in_time, do_queue) (rw (lt-ltb (length b.pending) b.nodes room, do_queue))

  pub queue_full : b.nodes ≤ length b.pending → do_queue f w b ≡ answered (Refused QueueFull) b
  queue_full full = rw (in_time, do_queue) (rw (le-ltb (length b.pending) b.nodes full, do_queue))
