-- What the steps of an advance do, by the tick board.
use Rattle.std.specs.Prelude.{◌≡◌, ℕ, ◌+◌, ◌-◌, ◌*◌, ◌<◌, ◌≤◌, min, cond, Bool, true, false, List, [], ◌∷◌, length, Some, None, Option, nat_lt}
use Rattle.agenda.specs.Waiting.{Kept}
use Rattle.rules.specs.Board as rules
use Rattle.rules.specs.declared.queued.QueuedWrite.{QueuedWrite}
use Rattle.board_laws.specs.Jump.{counted, arrival}
use Rattle.slots.specs.Slots.{States}
use Rattle.slots.specs.declared.fitted.Slots.{Ghosts}
use Rattle.board.specs.View.{view}
use Rattle.board.specs.declared.board.Board.{Board}

module _ {S0 S1 S2 S3 : Type 0} (f : rules.Fitting S0 S1 S2 S3) where
  -- What the tick board has yet to do: to carry out the writes that are due, to arrive k ticks on, to let n ticks pass, or nothing.
  abbrev pub due : rules.Counted S0 S1 S2 S3 → rules.Counted S0 S1 S2 S3
  due c = rules.carry_out f c.board.pending c

  abbrev pub arriving : ℕ → rules.Counted S0 S1 S2 S3 → rules.Counted S0 S1 S2 S3
  arriving k c = arrival f k c.board c.edges

  abbrev pub ticking : ℕ → rules.Counted S0 S1 S2 S3 → rules.Counted S0 S1 S2 S3
  ticking n c = rules.tick_times f n c

  abbrev pub nothing : rules.Counted S0 S1 S2 S3 → rules.Counted S0 S1 S2 S3
  nothing c = c

module _ {F S0 S1 S2 S3 : Type 0} {slots : Ghosts F} (states : F → States S0 S1 S2 S3) (f : rules.Fitting S0 S1 S2 S3) where
  -- A part of an advance: what lay ahead of the board before is what is left of it on the board after, with so many edges counted
  -- more. They are at most four for each of the handings and for each write that is no longer pending.
  pub record Progress (ahead left : rules.Counted S0 S1 S2 S3 → rules.Counted S0 S1 S2 S3) (handings edges : ℕ) (before after : Board F slots) : Type 0 where
    pub same : (e : ℕ) → ahead (counted f (view states before) e) ≡ left (counted f (view states after) (e + edges))
    pub few : edges + 4 * length (view states after).pending ≤ 4 * handings + 4 * length (view states before).pending
    pub nodes : Kept before.queue after.queue

  -- One of the due writes was carried out, with so many edges; or none is due, and nothing was done.
  abbrev pub CarriesNext : Option ℕ → Board F slots → Board F slots → Type 0
  CarriesNext None before after = (after ≡ before) × Progress (due f) (nothing f) 0 0 before after
  CarriesNext (Some edges) before after = Progress (due f) (due f) 0 edges before after × (length (view states after).pending < length (view states before).pending)

  abbrev pub CarriesOut : ℕ → Board F slots → Board F slots → Type 0
  CarriesOut = Progress (due f) (nothing f) 0

  abbrev pub Jumps : ℕ → ℕ → Board F slots → Board F slots → Type 0
  Jumps k = Progress (arriving f k) (due f) 1

  abbrev pub Arrives : ℕ → ℕ → Board F slots → Board F slots → Type 0
  Arrives k = Progress (arriving f k) (nothing f) 1

  abbrev pub Runs : ℕ → ℕ → Board F slots → Board F slots → Type 0
  Runs n = Progress (ticking f n) (nothing f) n

  -- The ticks passed with no edge; or nothing was done.
  abbrev pub Passes : ℕ → Bool → Board F slots → Board F slots → Type 0
  Passes n true before after = Runs n 0 before after
  Passes n false before after = after ≡ before

-- How far it is to the first pending write, at most `left` ticks. One that is not ahead does not count.
abbrev pub to_write : ℕ → ℕ → List QueuedWrite → ℕ
to_write time left [] = left
to_write time left (w ∷ ws) = cond (nat_lt time w.tick) (min left (w.tick - time)) left
