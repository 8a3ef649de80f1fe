-- What an advance and a queued write come to, by their tests.
use Rattle.std.specs.Prelude.{◌≡◌, ℕ, ◌-◌, ◌<◌, ◌≤◌, ◌&&◌, Bool, true, false, length, nat_lt, nat_le}
use Rattle.std.proofs.Common.{inl, inr, le-ltb, lt-ltb}
use Rattle.std.proofs.lemmas.Bool.{cases_lt}
use Rattle.rules.specs.Device.{horizon}
use Rattle.rules.specs.Ascending.{insert}
use Rattle.rules.specs.Board.{Board, Fitting, Counted, Answered, do_advance, do_queue, end_of_time, tick_times, with_pending, precedes}
use Rattle.rules.specs.declared.queued.QueuedWrite.{QueuedWrite}
use Rattle.rules.specs.declared.calls.Answer.{Answer}
use Rattle.rules.specs.declared.calls.Answer.TheVariants.{Edges, Done, Refused}
use Rattle.rules.specs.declared.refusal.Refusal.TheVariants.{LongAdvance, PastEnd, BadTick, QueueFull}
use Rattle.board_laws.specs.Jump.{counted}

abbrev pub answered : {A B C D : Type 0} → Answer → Board A B C D → Answered A B C D
answered a b = record { answer = a; board = b }

-- An advance that is taken.
pub record Within {A B C D : Type 0} (n : ℕ) (b : Board A B C D) : Type 0 where
  pub near : n ≤ horizon
  pub in_time : n ≤ end_of_time - b.time

module _ {A B C D : Type 0} (f : Fitting A B C D) where
  -- The board n ticks on, with their edges.
  abbrev pub after : ℕ → Board A B C D → Counted A B C D
  after n b = tick_times f n (counted f b 0)

  pub advance_taken : (n : ℕ) (b : Board A B C D) → Within n b → do_advance f n b ≡ answered (Edges (after n b).edges) (after n b).board
  advance_taken n b w = rw (le-ltb horizon n w.near, do_advance) (rw (le-ltb (end_of_time - b.time) n w.in_time, do_advance))

  pub advance_long : (n : ℕ) (b : Board A B C D) → horizon < n → do_advance f n b ≡ answered (Refused LongAdvance) b
  advance_long n b h = rw (lt-ltb horizon n h, do_advance)

  pub advance_past : (n : ℕ) (b : Board A B C D) → n ≤ horizon → end_of_time - b.time < n → do_advance f n b ≡ answered (Refused PastEnd) b
  advance_past n b near h = rw (le-ltb horizon n near, do_advance) (rw (lt-ltb (end_of_time - b.time) n h, do_advance))

  -- Whatever holds of an advance that is taken and of both refusals holds of every advance.
  pub advance_cases : (n : ℕ) (b : Board A B C D) (P : Answered A B C D → Type 0)
      → (horizon < n → P (answered (Refused LongAdvance) b))
      → (n ≤ horizon → end_of_time - b.time < n → P (answered (Refused PastEnd) b))
      → (Within n b → P (answered (Edges (after n b).edges) (after n b).board))
      → P (do_advance f n b)
  advance_cases n b P long past taken =
      elim (cases_lt horizon n) [
        | inl far ↦ rw (advance_long n b far) (long far)
        | inr near ↦
            elim (cases_lt (end_of_time - b.time) n) [
              | inl late ↦ rw (advance_past n b near late) (past near late)
              | inr in_time ↦ (let w : Within n b = record { near = near; in_time = in_time } in rw (advance_taken n b w) (taken w))
            ]
      ]

-- A queued write by its two tests: that its tick lies ahead and within time, and that a node is free.
abbrev pub queued : {A B C D : Type 0} → Bool → Bool → QueuedWrite → Board A B C D → Answered A B C D
queued in_time room w b =
    elim in_time [
      | false ↦ answered (Refused BadTick) b
      | true ↦
          elim room [
            | false ↦ answered (Refused QueueFull) b
            | true ↦ answered Done (with_pending (insert precedes w b.pending) b)
          ]
    ]

abbrev pub is_in_time : {A B C D : Type 0} → QueuedWrite → Board A B C D → Bool
is_in_time w b = nat_lt b.time w.tick && nat_le w.tick end_of_time

abbrev pub has_room : {A B C D : Type 0} → Board A B C D → Bool
has_room b = nat_lt (length b.pending) b.nodes

-- Whatever holds of both refusals and of a queued write that is taken holds of every one.
pub queue_cases : {A B C D : Type 0} (w : QueuedWrite) (b : Board A B C D) (P : Answered A B C D → Type 0)
    → P (answered (Refused BadTick) b)
    → P (answered (Refused QueueFull) b)
    → P (answered Done (with_pending (insert precedes w b.pending) b))
    → (f : Fitting A B C D) → P (do_queue f w b)
queue_cases {A} {B} {C} {D} w b P bad full taken f = of_tests (is_in_time w b) (has_room b)
  where
    of_tests : (in_time room : Bool) → P (queued in_time room w b)
    of_tests false room = bad
    of_tests true false = full
    of_tests true true = taken
