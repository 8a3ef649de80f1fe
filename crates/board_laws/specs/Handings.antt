-- The edges that a call answers are the changes along the levels that it hands over.
use Rattle.std.specs.Prelude.{◌≡◌, ℕ, zero, suc, ◌+◌, Bool, List, [], ◌∷◌, ◌++◌}
use Rattle.std.proofs.Common.{refl, sym, ap, ◌∙◌, inl, inr, add-zero, arith, eq-eqb, ne_eqb}
use Rattle.std.proofs.lemmas.Bool.{cases_eq}
use Rattle.rules.specs.Board.{Board, Fitting, Counted, Answered, call, do_advance, do_queue, edges_between, levels, hand, handing, devices_ticked, after_write, with_pending, carry_out, tick, tick_times, target}
use Rattle.rules.specs.Mixtures.{changes, last_handed, handings_of_due, handings_of_tick, handings_of_ticks, if_taken, HandsOver}
use Rattle.rules.specs.declared.queued.QueuedWrite.{QueuedWrite}
use Rattle.rules.specs.declared.calls.Answer.TheVariants.{Edges}
use Rattle.rules.specs.declared.calls.Call.{Call}
use Rattle.rules.specs.declared.calls.Call.TheVariants.{Advance, Read, Write, Queue, Acknowledge, CheckRequest}
use Rattle.board_laws.specs.Jump.{counted, carry_none, carry_due, write_keeps}
use Rattle.board_laws.specs.Advances.{after, advance_cases, queue_cases}

pub changes-append : (shown : List Bool) (us vs : List (List Bool)) → changes shown (us ++ vs) ≡ changes shown us + changes (last_handed shown us) vs
unfolding changes last_handed
changes-append shown [] vs = omega arith
changes-append shown (u ∷ us) vs = omega (arith, changes-append u us vs)

pub last_handed-append : (shown : List Bool) (us vs : List (List Bool)) → last_handed shown (us ++ vs) ≡ last_handed (last_handed shown us) vs
unfolding last_handed
last_handed-append shown [] vs = refl
last_handed-append shown (u ∷ us) vs = last_handed-append u us vs

module _ {A B C D : Type 0} (f : Fitting A B C D) where
  -- What is handed over while a board becomes another one, and edges are counted.
  pub record Counts (us : List (List Bool)) (before then : Counted A B C D) : Type 0 where
    pub edges : then.edges ≡ before.edges + changes before.board.handed us
    pub handed : then.board.handed ≡ last_handed before.board.handed us

  counts_none : (b c : Board A B C D) (e : ℕ) → c.handed ≡ b.handed → Counts [] (counted f b e) (counted f c e)
  unfolding changes last_handed
  counts_none b c e same = record { edges = sym (add-zero e); handed = same }

  counts_both : (us vs : List (List Bool)) (a b c : Counted A B C D) → Counts us a b → Counts vs b c → Counts (us ++ vs) a c
  counts_both us vs a b c p q =
      let edges : changes b.board.handed vs ≡ changes (last_handed a.board.handed us) vs = ap (λ v. changes v vs) p.handed in
      let handed : last_handed b.board.handed vs ≡ last_handed (last_handed a.board.handed us) vs = ap (λ v. last_handed v vs) p.handed in
      record {
        edges = omega (arith, p.edges, q.edges, edges, changes-append a.board.handed us vs);
        handed = q.handed ∙ handed ∙ sym (last_handed-append a.board.handed us vs);
      }

  -- A write that is due is handed over, and then the rest; where none is due, nothing is.
  pub due_first : (w : QueuedWrite) (ws : List QueuedWrite) (b : Board A B C D) (e : ℕ) → w.tick ≡ b.time
      → let next = handing f (counted f (after_write f w.port w.byte (with_pending ws b)) e) in
      handings_of_due f (w ∷ ws) (counted f b e) ≡ next.board.handed ∷ handings_of_due f ws next
  unfolding handings_of_due
  due_first w ws b e due = rw (eq-eqb w.tick b.time due, handings_of_due)

  pub due_none : (w : QueuedWrite) (ws : List QueuedWrite) (b : Board A B C D) (e : ℕ) → (w.tick ≡ b.time → ⊥) → handings_of_due f (w ∷ ws) (counted f b e) ≡ []
  unfolding handings_of_due
  due_none w ws b e later = rw (ne_eqb w.tick b.time later, handings_of_due)

  -- One handing, after something that touched no level last handed over.
  counts_handing : (b c : Board A B C D) (e : ℕ) → c.handed ≡ b.handed → Counts ((hand f c).handed ∷ []) (counted f b e) (handing f (counted f c e))
  unfolding changes last_handed
  counts_handing b c e same =
      record { edges = ap (λ n. e + n) (ap (λ vs. edges_between vs (levels f c)) same ∙ sym (add-zero (edges_between b.handed (levels f c)))); handed = refl }

  -- The writes that are due.
  counts_due : (ws : List QueuedWrite) (b : Board A B C D) (e : ℕ) → Counts (handings_of_due f ws (counted f b e)) (counted f b e) (carry_out f ws (counted f b e))
  unfolding carry_out handings_of_due
  counts_due [] b e = counts_none b (with_pending [] b) e refl
  counts_due (w ∷ ws) b e =
      let written = after_write f w.port w.byte (with_pending ws b) in
      let next = handing f (counted f written e) in
      let same : written.handed ≡ b.handed = (write_keeps f (target f w.port) w.byte (with_pending ws b)).handed in
      elim (cases_eq w.tick b.time) [
        | inl due ↦
            rw (due_first w ws b e due, carry_due f w ws b e due)
            (counts_both ((hand f written).handed ∷ []) (handings_of_due f ws next) (counted f b e) next (carry_out f ws next)
            (counts_handing b written e same)
            (counts_due ws (hand f written) next.edges))
        | inr later ↦ rw (due_none w ws b e later, carry_none f (w ∷ ws) b e later) (counts_none b (with_pending (w ∷ ws) b) e refl)
      ]

  counts_tick : (c : Counted A B C D) → Counts (handings_of_tick f c) c (tick f c)
  unfolding tick
  counts_tick c =
      let ticked = devices_ticked f c.board in
      let moved = handing f (counted f ticked c.edges) in
      counts_both ((hand f ticked).handed ∷ []) (handings_of_due f moved.board.pending moved) c moved (carry_out f moved.board.pending moved)
      (counts_handing c.board ticked c.edges refl)
      (counts_due moved.board.pending moved.board moved.edges)

  counts_ticks : (n : ℕ) (c : Counted A B C D) → Counts (handings_of_ticks f n c) c (tick_times f n c)
  unfolding tick_times handings_of_ticks
  counts_ticks zero c = counts_none c.board c.board c.edges refl
  counts_ticks (suc n) c = counts_both (handings_of_tick f c) (handings_of_ticks f n (tick f c)) c (tick f c) (tick_times f n (tick f c)) (counts_tick c) (counts_ticks n (tick f c))

  -- The same of an advance, by what it comes to.
  abbrev AdvanceCounts : ℕ → Board A B C D → Answered A B C D → Type 0
  AdvanceCounts n b t =
      let us = if_taken t.answer (handings_of_ticks f n (counted f b 0)) in
      ((k : ℕ) → t.answer ≡ Edges k → k ≡ changes b.handed us) × (t.board.handed ≡ last_handed b.handed us)

  edges_is : (j k : ℕ) → Edges j ≡ Edges k → j ≡ k
  edges_is j k e = cc

  advance_counts : (n : ℕ) (b : Board A B C D) → AdvanceCounts n b (do_advance f n b)
  unfolding changes last_handed
  advance_counts n b =
      let counts = counts_ticks n (counted f b 0) in
      advance_cases f n b (AdvanceCounts n b)
      (λ far. ((λ k e. cc), refl))
      (λ near late. ((λ k e. cc), refl))
      (λ w. ((λ k e. omega (arith, edges_is (after f n b).edges k e, counts.edges)), counts.handed))

  queue_counts : (w : QueuedWrite) (b : Board A B C D) → let t = do_queue f w b in ((k : ℕ) → t.answer ≡ Edges k → k ≡ changes b.handed []) × (t.board.handed ≡ b.handed)
  queue_counts w b =
      queue_cases w b (λ t. ((k : ℕ) → t.answer ≡ Edges k → k ≡ changes b.handed []) × (t.board.handed ≡ b.handed)) ((λ k e. cc), refl) ((λ k e. cc), refl) ((λ k e. cc), refl) f

  -- The edges that a call answers are the changes along what it hands over, the last of which the board then holds.
  pub call_hands_over : (c : Call) (b : Board A B C D) → HandsOver f c b (call f c b).answer (call f c b).board
  unfolding changes last_handed
  call_hands_over (Advance n) b = (let counts = advance_counts n b in record { edges = counts.0; handed = counts.1 })
  call_hands_over (Read port) b = record { edges = λ n e. cc; handed = refl }
  call_hands_over (Write port v) b = record { edges = λ n e. cc; handed = refl }
  call_hands_over (Queue w) b = (let counts = queue_counts w b in record { edges = counts.0; handed = counts.1 })
  call_hands_over Acknowledge b = record { edges = λ n e. cc; handed = refl }
  call_hands_over CheckRequest b = record { edges = λ n e. cc; handed = refl }
