-- Why time may jump: on a settled board, ticks on which no level changes and no write is due only move time and the devices.
use Rattle.std.specs.Prelude.{◌≡◌, ℕ, zero, suc, ◌+◌, ◌-◌, ◌≤◌, Bool, true, false, List, [], ◌∷◌}
use Rattle.std.proofs.Math.Path.{refl, sym, ap, subst}
use Rattle.std.proofs.Common.{ap₂, ◌∙◌, add-zero, add_assoc, add-one, arith, eq-eqb, ne_eqb}
use Rattle.std.proofs.Math.Nat.{zero-add, suc-add}
use Rattle.std.proofs.Common.{inl, inr}
use Rattle.std.proofs.lemmas.Bool.{cases_eq}
use Rattle.rules.specs.Device.{ticks}
use Rattle.rules.specs.TickLaws.{ticks_last}
use Rattle.board_laws.specs.Driving.{drive_lines_again}
use Rattle.rules.specs.I8259.{Pair, drive_lines}
use Rattle.rules.specs.Board.{Board, Fitting, Counted, levels, hand, handing, lines, on_line, edges_between, devices_ticked, carry_out, tick, tick_times, with_pending, after_write, after_write_at, target, Target, master, slave, at_slot_0, at_slot_1, at_slot_2, at_slot_3, open_bus}
use Rattle.rules.specs.declared.queued.QueuedWrite.{QueuedWrite}

-- No write at the front of the list is due at time t.
abbrev pub NoneDue : ℕ → List QueuedWrite → Type 0
NoneDue t [] = Unit {0}
NoneDue t (w ∷ ws) = w.tick ≡ t → ⊥

-- Levels that did not change give no edge.
pub no_edges : (vs : List Bool) → edges_between vs vs ≡ 0
unfolding edges_between
no_edges [] = refl
no_edges (true ∷ vs) = no_edges vs
no_edges (false ∷ vs) = no_edges vs

module _ {A B C D : Type 0} (f : Fitting A B C D) where
  -- The board n ticks later, where only time and the devices move.
  abbrev pub later : ℕ → Board A B C D → Board A B C D
  later n b =
      record {
        time = b.time + n;
        slot_0 = ticks f.kind_0 n b.slot_0;
        slot_1 = ticks f.kind_1 n b.slot_1;
        slot_2 = ticks f.kind_2 n b.slot_2;
        slot_3 = ticks f.kind_3 n b.slot_3;
        handed = b.handed;
        pair = b.pair;
        pending = b.pending;
        nodes = b.nodes;
      }

  -- A board is settled where a handing changes nothing and gives no edge.
  pub record Settled (b : Board A B C D) : Type 0 where
    pub handed : b.handed ≡ levels f b
    pub driven : drive_lines (on_line lines (levels f b)) b.pair ≡ b.pair

  -- No level differs from the present one on any of the next n ticks.
  abbrev pub Quiet : ℕ → Board A B C D → Type 0
  Quiet n b = (j : ℕ) → j ≤ n → levels f (later j b) ≡ levels f b

  -- No write is due on any of the next n ticks.
  abbrev pub Idle : ℕ → Board A B C D → Type 0
  Idle n b = (i : ℕ) → 1 ≤ i → i ≤ n → NoneDue (b.time + i) b.pending

  -- a board by its parts that a handing can change
  abbrev pub rewired : Board A B C D → List Bool → Pair → Board A B C D
  rewired b handed pair =
      record {
        time = b.time;
        slot_0 = b.slot_0;
        slot_1 = b.slot_1;
        slot_2 = b.slot_2;
        slot_3 = b.slot_3;
        handed = handed;
        pair = pair;
        pending = b.pending;
        nodes = b.nodes;
      }

  pub hand_settled : (b : Board A B C D) → Settled b → hand f b ≡ b
  hand_settled b s = ap₂ (rewired b) (sym s.handed) s.driven

  abbrev pub counted : Board A B C D → ℕ → Counted A B C D
  counted b e = record { board = b; edges = e }

  pub handing_settled : (b : Board A B C D) (e : ℕ) → Settled b → handing f (counted b e) ≡ counted b e
  handing_settled b e s =
      ap₂ counted (hand_settled b s)
      (ap (λ vs. e + edges_between b.handed vs) (sym s.handed) ∙ ap (λ n. e + n) (no_edges b.handed) ∙ add-zero e)

  -- Where no write is due, none is carried out.
  pub carry_none : (ws : List QueuedWrite) (b : Board A B C D) (e : ℕ) → NoneDue b.time ws → carry_out f ws (counted b e) ≡ counted (with_pending ws b) e
  unfolding carry_out
  carry_none [] b e h = refl
  carry_none (w ∷ ws) b e h = rw (ne_eqb w.tick b.time h, carry_out)

  -- A write that is due is carried out, and then the rest.
  pub carry_due : (w : QueuedWrite) (ws : List QueuedWrite) (b : Board A B C D) (e : ℕ) → w.tick ≡ b.time
      → carry_out f (w ∷ ws) (counted b e) ≡ carry_out f ws (handing f (counted (after_write f w.port w.byte (with_pending ws b)) e))
  unfolding carry_out
  carry_due w ws b e due = rw (eq-eqb w.tick b.time due, carry_out)

  -- A settled board whose levels are the same n ticks later is settled then.
  pub settled_later : (n : ℕ) (b : Board A B C D) → Settled b → levels f (later n b) ≡ levels f b → Settled (later n b)
  settled_later n b s e = record {
    handed = s.handed ∙ sym e;
    driven = ap (λ vs. drive_lines (on_line lines vs) b.pair) e ∙ s.driven;
  }

  tick_quiet : (b : Board A B C D) (e : ℕ) → Settled b → levels f (later 1 b) ≡ levels f b → NoneDue (b.time + 1) b.pending → tick f (counted b e) ≡ counted (later 1 b) e
  unfolding tick ticks
  tick_quiet b e s q none =
      ap (λ c. carry_out f c.board.pending c) (handing_settled (later 1 b) e (settled_later 1 b s q))
      ∙ carry_none b.pending (later 1 b) e none

  -- later, by one tick and then by n
  later_suc : (n : ℕ) (b : Board A B C D) → later n (later 1 b) ≡ later (suc n) b
  unfolding ticks
  later_suc n b = let moved : b.time + 1 + n ≡ b.time + suc n = omega arith in rw moved

  -- The jump: n ticks of a settled board on which no level changes and no write is due.
  pub jump : (n : ℕ) (b : Board A B C D) (e : ℕ) → Settled b → Quiet n b → Idle n b → tick_times f n (counted b e) ≡ counted (later n b) e
  unfolding tick_times ticks
  jump zero b e s q i = rw add-zero
  jump (suc n) b e s q i =
      let here : levels f (later 1 b) ≡ levels f b = q 1 (omega arith) in
      ap (tick_times f n) (tick_quiet b e s here (i 1 (omega arith) (omega arith)))
      ∙ jump n (later 1 b) e (settled_later 1 b s here)
      (λ j h. ap (levels f) (later_suc j b) ∙ q (suc j) (omega arith) ∙ sym here)
      (λ k low high. shift k low high)
      ∙ ap (λ c. counted c e) (later_suc n b)
    where
      shift : (k : ℕ) → 1 ≤ k → k ≤ n → NoneDue (b.time + 1 + k) b.pending
      shift k low high = subst (λ t. NoneDue t b.pending) (omega arith) (i (suc k) (omega arith) (omega arith))

  -- Ticks, one after the other, at either end of a run.
  pub tick_times_last : (n : ℕ) (c : Counted A B C D) → tick_times f (suc n) c ≡ tick f (tick_times f n c)
  unfolding tick_times
  tick_times_last zero c = refl
  tick_times_last (suc n) c = tick_times_last n (tick f c)

  pub tick_times_add : (n k : ℕ) (c : Counted A B C D) → tick_times f (n + k) c ≡ tick_times f k (tick_times f n c)
  unfolding tick_times
  tick_times_add zero k c = rw zero-add
  tick_times_add (suc n) k c = rw suc-add (tick_times_add n k (tick f c))

  -- Time and devices n + 1 ticks on: what the last tick of a jump hands over.
  ticked_later : (n : ℕ) (b : Board A B C D) → devices_ticked f (later n b) ≡ later (n + 1) b
  ticked_later n b = simp (ticks_last, add_assoc)

  -- A jump to the tick on which something may happen: one handing, and then the writes that are due.
  pub arrive : (n : ℕ) (b : Board A B C D) (e : ℕ) → Settled b → Quiet n b → Idle n b
      → tick_times f (n + 1) (counted b e) ≡ carry_out f b.pending (handing f (counted (later (n + 1) b) e))
  unfolding tick
  arrive n b e s q i =
      ap (λ k. tick_times f k (counted b e)) (add-one n)
      ∙ tick_times_last n (counted b e)
      ∙ ap (tick f) (jump n b e s q i)
      ∙ ap (λ d. carry_out f b.pending (handing f (counted d e))) (ticked_later n b)

  -- A single tick asks nothing of the board.
  pub arrive_next : (b : Board A B C D) (e : ℕ) → tick_times f 1 (counted b e) ≡ carry_out f b.pending (handing f (counted (later 1 b) e))
  unfolding tick tick_times ticks
  arrive_next b e = refl

  -- After a handing a board is settled, and so it is after the writes of a tick, each with its own handing.
  pub settled_hand : (b : Board A B C D) → Settled (hand f b)
  settled_hand b = record { handed = refl; driven = drive_lines_again (on_line lines (levels f b)) b.pair }

  settled_pending : (ws : List QueuedWrite) (b : Board A B C D) → Settled b → Settled (with_pending ws b)
  settled_pending ws b s = record { handed = s.handed; driven = s.driven }

  pub settled_carried : (ws : List QueuedWrite) (b : Board A B C D) (e : ℕ) → Settled b → Settled (carry_out f ws (counted b e)).board
  unfolding carry_out
  settled_carried [] b e s = settled_pending [] b s
  settled_carried (w ∷ ws) b e s =
      let written = after_write f w.port w.byte (with_pending ws b) in
      elim (cases_eq w.tick b.time) [
        | inl due ↦ rw (carry_due w ws b e due) (settled_carried ws (hand f written) (handing f (counted written e)).edges (settled_hand written))
        | inr later ↦ rw (carry_none (w ∷ ws) b e later) (settled_pending (w ∷ ws) b s)
      ]

  -- What no access touches.
  pub record Apart (b c : Board A B C D) : Type 0 where
    pub time : c.time ≡ b.time
    pub handed : c.handed ≡ b.handed
    pub pending : c.pending ≡ b.pending

  pub write_keeps : (t : Target) (v : ℕ) (b : Board A B C D) → Apart b (after_write_at f t v b)
  write_keeps (master o) v b = record { time = refl; handed = refl; pending = refl }
  write_keeps (slave o) v b = record { time = refl; handed = refl; pending = refl }
  write_keeps (at_slot_0 o) v b = record { time = refl; handed = refl; pending = refl }
  write_keeps (at_slot_1 o) v b = record { time = refl; handed = refl; pending = refl }
  write_keeps (at_slot_2 o) v b = record { time = refl; handed = refl; pending = refl }
  write_keeps (at_slot_3 o) v b = record { time = refl; handed = refl; pending = refl }
  write_keeps open_bus v b = record { time = refl; handed = refl; pending = refl }

  -- Nor does carrying out writes move time.
  carry_keeps_time : (ws : List QueuedWrite) (b : Board A B C D) (e : ℕ) → (carry_out f ws (counted b e)).board.time ≡ b.time
  unfolding carry_out
  carry_keeps_time [] b e = refl
  carry_keeps_time (w ∷ ws) b e =
      let written = after_write f w.port w.byte (with_pending ws b) in
      elim (cases_eq w.tick b.time) [
        | inl due ↦ rw (carry_due w ws b e due) (carry_keeps_time ws (hand f written) (handing f (counted written e)).edges ∙ (write_keeps (target f w.port) w.byte (with_pending ws b)).time)
        | inr later ↦ rw (carry_none (w ∷ ws) b e later)
      ]

  -- The board that a jump of k ticks arrives at, and how many edges were counted there.
  abbrev pub arrival : ℕ → Board A B C D → ℕ → Counted A B C D
  arrival k b e = carry_out f b.pending (handing f (counted (later k b) e))

  pub arrival_time : (k : ℕ) (b : Board A B C D) (e : ℕ) → (arrival k b e).board.time ≡ b.time + k
  arrival_time k b e = carry_keeps_time b.pending (hand f (later k b)) (handing f (counted (later k b) e)).edges

  pub arrival_settled : (k : ℕ) (b : Board A B C D) (e : ℕ) → Settled (arrival k b e).board
  arrival_settled k b e = settled_carried b.pending (hand f (later k b)) (handing f (counted (later k b) e)).edges (settled_hand (later k b))

  -- Where no write is due there, it is one handing.
  pub arrival_none : (k : ℕ) (b : Board A B C D) (e : ℕ) → NoneDue (b.time + k) b.pending → arrival k b e ≡ handing f (counted (later k b) e)
  arrival_none k b e none = carry_none b.pending (hand f (later k b)) (handing f (counted (later k b) e)).edges none

  -- Ticks are what time counts.
  tick_time : (c : Counted A B C D) → (tick f c).board.time ≡ c.board.time + 1
  unfolding tick
  tick_time c =
      let ticked = devices_ticked f c.board in
      carry_keeps_time c.board.pending (hand f ticked) (handing f (counted ticked c.edges)).edges

  pub tick_times_time : (n : ℕ) (c : Counted A B C D) → (tick_times f n c).board.time ≡ c.board.time + n
  unfolding tick_times
  tick_times_time zero c = sym (add-zero c.board.time)
  tick_times_time (suc n) c = omega (arith, tick_times_time n (tick f c), tick_time c)

  pub split_ticks : (k n : ℕ) (c : Counted A B C D) → k ≤ n → tick_times f n c ≡ tick_times f (n - k) (tick_times f k c)
  split_ticks k n c h = ap (λ m. tick_times f m c) (omega arith) ∙ tick_times_add k (n - k) c

  -- Of n ticks, the first k in one jump.
  pub jump_first : (k n : ℕ) (b : Board A B C D) (e : ℕ) → 1 ≤ k → k ≤ n → Settled b → Quiet (k - 1) b → Idle (k - 1) b
      → tick_times f n (counted b e) ≡ tick_times f (n - k) (arrival k b e)
  jump_first k n b e some within s q i =
      let whole : k - 1 + 1 ≡ k = omega arith in
      split_ticks k n (counted b e) within
      ∙ ap (tick_times f (n - k)) (subst (λ m. tick_times f m (counted b e) ≡ arrival m b e) whole (arrive (k - 1) b e s q i))

  -- Of n ticks, the first by itself, which asks nothing of the board.
  pub tick_first : (n : ℕ) (b : Board A B C D) (e : ℕ) → 1 ≤ n → tick_times f n (counted b e) ≡ tick_times f (n - 1) (arrival 1 b e)
  tick_first n b e some = split_ticks 1 n (counted b e) some ∙ ap (tick_times f (n - 1)) (arrive_next b e)

  pub tick_none : (n : ℕ) (c : Counted A B C D) → n ≡ 0 → tick_times f n c ≡ c
  unfolding tick_times
  tick_none n c none = ap (λ m. tick_times f m c) none
