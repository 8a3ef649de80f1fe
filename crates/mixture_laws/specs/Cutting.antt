-- An advance that is taken may be cut.
use Rattle.std.specs.Prelude.{◌≡◌, ℕ, zero, suc, ◌+◌, ◌-◌, ◌≤◌, List, [], ◌∷◌, ◌++◌, map, length}
use Rattle.std.proofs.Common.{refl, sym, ap, ap₂, ◌∙◌, subst, inl, inr, add-zero, add_assoc, arith}
use Rattle.std.proofs.lemmas.Bool.{cases_eq}
use Rattle.rules.specs.Device.{horizon}
use Rattle.rules.specs.Board.{Board, Fitting, Counted, call, do_advance, end_of_time, levels, hand, handing, edges_between, devices_ticked, after_write, with_pending, carry_out, tick, tick_times}
use Rattle.rules.specs.Mixtures.{Mixture, Ran, run, start, SameAsTicking, Piece, uncut, cut, total, whole_calls, cut_calls, CutsTaken, not_cut, taken, Joined, all_joined, same, added, CuttingChangesNothing}
use Rattle.rules.specs.declared.queued.QueuedWrite.{QueuedWrite}
use Rattle.rules.specs.declared.calls.Answer.{Answer}
use Rattle.rules.specs.declared.calls.Answer.TheVariants.{Edges}
use Rattle.rules.specs.declared.calls.Call.{Call}
use Rattle.rules.specs.declared.calls.Call.TheVariants.{Advance}
use Rattle.board_laws.specs.Jump.{counted, carry_none, carry_due, tick_times_add, tick_times_time}
use Rattle.board_laws.specs.Advances.{answered, Within, after, advance_taken, advance_cases}

-- What the answers say of a piece, and of the pieces behind it.
behind_call : (c : Call) (ps : List Piece) (a : Answer) (whole : List Answer) → CutsTaken (uncut c ∷ ps) (a ∷ whole) → CutsTaken ps whole
behind_call c ps a whole (not_cut d b rest) = rest

behind_cut : (ns : List ℕ) (ps : List Piece) (a : Answer) (whole : List Answer) → CutsTaken (cut ns ∷ ps) (a ∷ whole) → ((edges : ℕ) × (a ≡ Edges edges)) × CutsTaken ps whole
behind_cut ns ps a whole (taken ms edges rest) = ((edges, refl), rest)

-- A run with some answers before its own.
abbrev pub preceded : {A B C D : Type 0} → List Answer → Ran A B C D → Ran A B C D
preceded qs r = record { answers = qs ++ r.answers; board = r.board }

module _ {A B C D : Type 0} (f : Fitting A B C D) where
  -- With so many edges counted before.
  abbrev more : ℕ → Counted A B C D → Counted A B C D
  more k c = record { board = c.board; edges = k + c.edges }

  handing_more : (k : ℕ) (c : Counted A B C D) → handing f (more k c) ≡ more k (handing f c)
  handing_more k c = ap (counted f (hand f c.board)) (add_assoc k c.edges (edges_between c.board.handed (levels f c.board)))

  carry_more : (ws : List QueuedWrite) (k : ℕ) (b : Board A B C D) (e : ℕ) → carry_out f ws (counted f b (k + e)) ≡ more k (carry_out f ws (counted f b e))
  unfolding carry_out
  carry_more [] k b e = refl
  carry_more (w ∷ ws) k b e =
      let written = after_write f w.port w.byte (with_pending ws b) in
      elim (cases_eq w.tick b.time) [
        | inl due ↦
            carry_due f w ws b (k + e) due
            ∙ ap (carry_out f ws) (handing_more k (counted f written e))
            ∙ carry_more ws k (hand f written) (handing f (counted f written e)).edges
            ∙ ap (more k) (sym (carry_due f w ws b e due))
        | inr later ↦ carry_none f (w ∷ ws) b (k + e) later ∙ ap (more k) (sym (carry_none f (w ∷ ws) b e later))
      ]

  tick_more : (k : ℕ) (c : Counted A B C D) → tick f (more k c) ≡ more k (tick f c)
  unfolding tick
  tick_more k c =
      let ticked = devices_ticked f c.board in
      ap (λ m. carry_out f m.board.pending m) (handing_more k (counted f ticked c.edges))
      ∙ carry_more c.board.pending k (hand f ticked) (handing f (counted f ticked c.edges)).edges

  -- Edges counted before only add.
  times_more : (n k : ℕ) (c : Counted A B C D) → tick_times f n (more k c) ≡ more k (tick_times f n c)
  unfolding tick_times
  times_more zero k c = refl
  times_more (suc n) k c = ap (tick_times f n) (tick_more k c) ∙ times_more n k (tick f c)

  -- Ticks in two parts, each counted from none.
  two_parts : (n m : ℕ) (b : Board A B C D) → after f (n + m) b ≡ more (after f n b).edges (after f m (after f n b).board)
  two_parts n m b =
      let first = after f n b in
      tick_times_add f n m (counted f b 0)
      ∙ ap (λ e. tick_times f m (counted f first.board e)) (sym (add-zero first.edges))
      ∙ times_more m first.edges (counted f first.board 0)

  -- The parts of an advance, with calls behind them: each part is taken, their edges add up to those of the whole, and then the calls run as
  -- behind the whole.
  record Parts (ns : List ℕ) (cs : List Call) (b : Board A B C D) (whole : Counted A B C D) : Type 0 where
    edges : List ℕ
    each : length edges ≡ length ns
    sum : total edges ≡ whole.edges
    runs : run f (map Advance ns ++ cs) b ≡ preceded (map Edges edges) (run f cs whole.board)

  parts_run : (ns : List ℕ) (cs : List Call) (b : Board A B C D) → Within (total ns) b → Parts ns cs b (after f (total ns) b)
  unfolding run tick_times
  parts_run [] cs b w = record { edges = []; each = refl; sum = refl; runs = refl }
  parts_run (n ∷ ns) cs b w =
      let first = after f n b in
      let time : first.board.time ≡ b.time + n = tick_times_time f n (counted f b 0) in
      let near : n + total ns ≤ horizon = w.near in
      let in_time : n + total ns ≤ end_of_time - b.time = w.in_time in
      let rest : Parts ns cs first.board (after f (total ns) first.board) = parts_run ns cs first.board (record { near = omega arith; in_time = omega arith }) in
      let here : do_advance f n b ≡ answered (Edges first.edges) first.board = advance_taken f n b (record { near = omega arith; in_time = omega arith }) in
      let both : Parts (n ∷ ns) cs b (more first.edges (after f (total ns) first.board)) =
      record {
        edges = first.edges ∷ rest.edges;
        each = ap suc rest.each;
        sum = ap (λ k. first.edges + k) rest.sum;
        runs =
            ap (λ t. preceded (t.answer ∷ []) (run f (map Advance ns ++ cs) t.board)) here
            ∙ ap (preceded (Edges first.edges ∷ [])) rest.runs;
      } in
      subst (Parts (n ∷ ns) cs b) (sym (two_parts n (total ns) b)) both

  -- An advance that is answered by its edges was taken.
  taken_within : (n : ℕ) (b : Board A B C D) (edges : ℕ) → (do_advance f n b).answer ≡ Edges edges → Within n b
  taken_within n b edges = advance_cases f n b (λ t. t.answer ≡ Edges edges → Within n b) (λ far e. cc) (λ near late e. cc) (λ w e. w)

  -- What calls and the same calls with advances cut come to.
  abbrev Joins : List Piece → Ran A B C D → Ran A B C D → Type 0
  Joins ps parts whole = Joined ps parts.answers whole.answers × (whole.board ≡ parts.board)

  cuts_join : (ps : List Piece) (b : Board A B C D) → CutsTaken ps (run f (whole_calls ps) b).answers → Joins ps (run f (cut_calls ps) b) (run f (whole_calls ps) b)
  unfolding run whole_calls cut_calls
  cuts_join [] b h = (all_joined, refl)
  cuts_join (uncut c ∷ ps) b h =
      let first = call f c b in
      let rest = cuts_join ps first.board (behind_call c ps first.answer (run f (whole_calls ps) first.board).answers h) in
      (same c first.answer rest.0, rest.1)
  cuts_join (cut ns ∷ ps) b h =
      let first = do_advance f (total ns) b in
      let all = after f (total ns) b in
      let was = behind_cut ns ps first.answer (run f (whole_calls ps) first.board).answers h in
      let w = taken_within (total ns) b was.0.0 was.0.1 in
      let is : first ≡ answered (Edges all.edges) all.board = advance_taken f (total ns) b w in
      let parts = parts_run ns (cut_calls ps) b w in
      let rest = cuts_join ps all.board (subst (λ t. CutsTaken ps (run f (whole_calls ps) t.board).answers) is was.1) in
      let joined : Joins (cut ns ∷ ps) (preceded (map Edges parts.edges) (run f (cut_calls ps) all.board)) (preceded (Edges (total parts.edges) ∷ []) (run f (whole_calls ps) all.board)) =
      (added ns parts.edges parts.each rest.0, rest.1) in
      let summed : Joins (cut ns ∷ ps) (preceded (map Edges parts.edges) (run f (cut_calls ps) all.board)) (preceded (Edges all.edges ∷ []) (run f (whole_calls ps) all.board)) =
      subst (λ e. Joins (cut ns ∷ ps) (preceded (map Edges parts.edges) (run f (cut_calls ps) all.board)) (preceded (Edges e ∷ []) (run f (whole_calls ps) all.board))) parts.sum joined in
      let cut_run : Joins (cut ns ∷ ps) (run f (map Advance ns ++ cut_calls ps) b) (preceded (Edges all.edges ∷ []) (run f (whole_calls ps) all.board)) =
      subst (λ r. Joins (cut ns ∷ ps) r (preceded (Edges all.edges ∷ []) (run f (whole_calls ps) all.board))) (sym parts.runs) summed in
      subst (λ t. Joins (cut ns ∷ ps) (run f (map Advance ns ++ cut_calls ps) b) (preceded (t.answer ∷ []) (run f (whole_calls ps) t.board))) (sym is) cut_run

  -- Cutting changes nothing, of two mixtures that were each the same as ticking.
  pub cutting : (m c : Mixture A B C D) → SameAsTicking f m → SameAsTicking f c → CuttingChangesNothing m c
  cutting m c as_m as_c ps made m_is c_is were_taken =
      let starts : start f c ≡ start f m = rw (made.at_0, made.at_1, made.at_2, made.at_3, made.nodes) in
      let whole : record { answers = m.answers; board = m.end } ≡ run f (whole_calls ps) (start f m) = as_m ∙ ap (λ cs. run f cs (start f m)) m_is in
      let parts : record { answers = c.answers; board = c.end } ≡ run f (cut_calls ps) (start f m) = as_c ∙ ap₂ (run f) c_is starts in
      let joins = cuts_join ps (start f m) (subst (λ r. CutsTaken ps r.answers) whole were_taken) in
      subst (λ r. Joins ps (record { answers = c.answers; board = c.end }) r) (sym whole) (subst (λ r. Joins ps r (run f (whole_calls ps) (start f m))) (sym parts) joins)
