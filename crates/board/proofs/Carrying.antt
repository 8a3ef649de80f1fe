-- One due write, and the front of the bag.
use Rattle.std.proofs.Common.{◌≡◌, ℕ, ◌+◌, Bool, true, false, cond, ◌==◌, refl, subst, eq-eqb, List, [], ◌∷◌, Some, None, Option, sym, ap, ◌∙◌, ap₂, arith, MatchOption}
use Rattle.std.specs.Bool.{then_some}
use Rattle.std.proofs.lemmas.Bool.{eqb-true}
use Rattle.std.proofs.lemmas.Option.{cond_some}
use Rattle.agenda.specs.Waiting.{first_of}
use Rattle.rules.specs.I8259.{drive_lines}
use Rattle.slots.specs.Slots.{States, levels_of}
use Rattle.board.specs.Placing.{placed}
use Rattle.board.specs.declared.board.handing.Ports.{Ports}
use Rattle.rules.specs.Board.{Board, Fitting, on_line, lines, carry_out, hand, levels, edges_between, after_write, target, with_pending}
use Rattle.rules.specs.declared.queued.QueuedWrite.{QueuedWrite}
use Rattle.board_laws.specs.Jump.{NoneDue, counted, carry_due, write_keeps}

-- What was taken is what was seen first.
pub taken_first : {E : Type 0} (w : E) (old new : List E) (r : Option E) (P : Type 0) → Some w ≡ first_of old → MatchOption r ((old ≡ []) × P) (λ x. old ≡ x ∷ new) → old ≡ w ∷ new
taken_first w [] new r P e t = absurd (let z : ◌≡◌ {A = ℕ} 0 1 = cc in omega arith)
taken_first w (x ∷ old) new None P e t = absurd (let q = t.0 in let z : ◌≡◌ {A = ℕ} 0 1 = cc in omega arith)
taken_first w (x ∷ old) new (Some y) P e t = (let q = t in cc)

-- The first of the bag, where it is due at time t.
abbrev pub first_due : ℕ → List QueuedWrite → Option QueuedWrite
first_due t [] = None
first_due t (w ∷ ws) = then_some (w.tick == t) w

-- A test of the first for whether it is due finds it.
pub first_due-found : {Test : QueuedWrite → Bool → Type 0} (t : ℕ) (ws : List QueuedWrite) (first r : Option QueuedWrite) → first ≡ first_of ws
    → MatchOption first (r ≡ None) (λ w. (b : Bool) × Test w b × (r ≡ then_some b w)) → ((w : QueuedWrite) (b : Bool) → Test w b → b ≡ (w.tick == t)) → r ≡ first_due t ws
first_due-found {Test} t ws first r e found tests = go ws (subst (λ o. MatchOption o (r ≡ None) (λ w. (b : Bool) × Test w b × (r ≡ then_some b w))) e found)
  where
    go : (ws : List QueuedWrite) → MatchOption (first_of ws) (r ≡ None) (λ w. (b : Bool) × Test w b × (r ≡ then_some b w)) → r ≡ first_due t ws
    go [] none = none
    go (w ∷ ws) some = some.2 ∙ ap (λ b. then_some b w) (tests w some.0 some.1)

pub none_due : (t : ℕ) (ws : List QueuedWrite) → first_due t ws ≡ None → NoneDue t ws
none_due t [] e = tt
none_due t (w ∷ ws) e = λ due. (let at : then_some true w ≡ None = ap (λ b. then_some b w) (sym (eq-eqb w.tick t due)) ∙ e in cc)

pub due_first : (t : ℕ) (w : QueuedWrite) (ws : List QueuedWrite) → first_due t ws ≡ Some w → (Some w ≡ first_of ws) × (w.tick ≡ t)
due_first t w [] e = cc
due_first t w (v ∷ ws) e =
    let is = cond_some (v.tick == t) v w (cond_then_some (v.tick == t) v ∙ e) in
    (ap Some (sym is.1), ap (λ x. x.tick) (sym is.1) ∙ eqb-true v.tick t is.0)
  where
    cond_then_some : (b : Bool) (x : QueuedWrite) → cond b (Some x) None ≡ then_some b x
    cond_then_some true x = refl
    cond_then_some false x = refl

module _ {S0 S1 S2 S3 : Type 0} (f : Fitting S0 S1 S2 S3) where
  pub carried_one : (b a : Board S0 S1 S2 S3) (w : QueuedWrite) (ws : List QueuedWrite) (more : ℕ)
      → b.pending ≡ w ∷ ws → w.tick ≡ b.time
      → a ≡ hand f (after_write f w.port w.byte (with_pending ws b))
      → more ≡ edges_between (after_write f w.port w.byte (with_pending ws b)).handed (levels f (after_write f w.port w.byte (with_pending ws b)))
      → (e : ℕ) → carry_out f b.pending (counted f b e) ≡ carry_out f a.pending (counted f a (e + more))
  carried_one b a w ws more bag due is-hand is-more e =
      let written = after_write f w.port w.byte (with_pending ws b) in
      let left : a.pending ≡ ws = ap (λ x. x.pending) is-hand ∙ (write_keeps f (target f w.port) w.byte (with_pending ws b)).pending in
      ap (λ p. carry_out f p (counted f b e)) bag
      ∙ carry_due f w ws b e due
      ∙ ap (carry_out f ws) (ap₂ (counted f) (sym is-hand) (ap (λ m. e + m) (sym is-more)))
      ∙ ap (λ p. carry_out f p (counted f a (e + more))) (sym left)

-- What a handing leaves of the ports, of the whole board.
pub placed-hand : {F S0 S1 S2 S3 : Type 0} (states : F → States S0 S1 S2 S3) (f : Fitting S0 S1 S2 S3) (old new : Ports F) (time nodes : ℕ) (pending : List QueuedWrite)
    → new.slots ≡ old.slots → new.handed ≡ levels_of f (states old.slots) → new.pair ≡ drive_lines (on_line lines (levels_of f (states old.slots))) old.pair
    → placed states new time pending nodes ≡ hand f (placed states old time pending nodes)
placed-hand states f old new time nodes pending slots handed pair = λ i. record {
  time = time;
  slot_0 = (states (slots i)).slot_0;
  slot_1 = (states (slots i)).slot_1;
  slot_2 = (states (slots i)).slot_2;
  slot_3 = (states (slots i)).slot_3;
  handed = handed i;
  pair = pair i;
  pending = pending;
  nodes = nodes;
}
