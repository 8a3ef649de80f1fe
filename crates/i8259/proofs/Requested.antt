-- The rules' request is the request in terms of bits and ranks, by what its two searches find.
use Rattle.std.proofs.Common.{◌≡◌, ℕ, ◌+◌, ◌-◌, ◌%◌, ◌<◌, Bool, true, false, cond, not, ◌&&◌, ltb, Some, None, Option, sym, refl, ap, ◌∙◌, subst, arith}
use lib.Bits.{bit_and}
use Rattle.std.proofs.lemmas.Bool.{and_parts, and_from, not-true, both_ways, ltb-true, ltb-false}
use Rattle.rules.specs.I8259.{bit, rank, first, Chip, initialised, request, requests}
use Rattle.i8259.specs.Priority.{ComesFirst, Asks, Requesting}
use Rattle.i8259.proofs.Bytes.{and_bit, complement_bit}
use Rattle.i8259.proofs.Searched.{found_nothing}

module _ (c : Chip) (masks : c.imr < 256) where
  asking_bit : (i : ℕ) → i < 8 → bit (bit_and c.irr (255 - c.imr)) i ≡ (bit c.irr i && not (bit c.imr i))
  asking_bit i h = and_bit c.irr (255 - c.imr) i ∙ ap (λ b. bit c.irr i && b) (complement_bit c.imr i masks h)

  asks : (i : ℕ) → i < 8 → bit (bit_and c.irr (255 - c.imr)) i ≡ true → Asks c i
  asks i h e =
      let parts = and_parts (bit c.irr i) (not (bit c.imr i)) (sym (asking_bit i h) ∙ e) in
      record { input = h; requested = parts.0; unmasked = not-true (bit c.imr i) parts.1 }

  asked : (i : ℕ) → Asks c i → bit (bit_and c.irr (255 - c.imr)) i ≡ true
  asked i a = asking_bit i a.input ∙ and_from (bit c.irr i) (not (bit c.imr i)) a.requested (ap not a.unmasked)

  pub none_asks : ComesFirst c.lowest (bit_and c.irr (255 - c.imr)) None → Requesting c None
  none_asks a = λ _ j p. absurd (both_ways (bit (bit_and c.irr (255 - c.imr)) j) (a j p.input) (asked j p))

  chosen : Bool → Option ℕ → Option ℕ → Option ℕ
  chosen ready asking serving =
      cond ready (elim asking [ Some i ↦ elim serving [ Some j ↦ cond (ltb (rank c.lowest i) (rank c.lowest j)) (Some i) None | None ↦ Some i ] | None ↦ None ]) None

  asks_nothing : (ready : Bool) (asking serving : Option ℕ) → asking ≡ None → elim (chosen ready asking serving) [ Some i ↦ true | None ↦ false ] ≡ false
  unfolding chosen
  asks_nothing false asking serving e = refl
  asks_nothing true None serving e = refl
  asks_nothing true (Some i) serving e = cc

  -- Where nothing is asked for, nothing requests.
  pub nothing_requests : bit_and c.irr (255 - c.imr) ≡ 0 → requests c ≡ false
  unfolding chosen
  nothing_requests none = asks_nothing (initialised c.stage) (first c.lowest (bit_and c.irr (255 - c.imr))) (first c.lowest c.isr) (ap (first c.lowest) none ∙ found_nothing 8 ((c.lowest + 1) % 8))

  before_served : (i j : ℕ) (b : Bool) → ltb (rank c.lowest i) (rank c.lowest j) ≡ b → initialised c.stage ≡ true
      → ComesFirst c.lowest (bit_and c.irr (255 - c.imr)) (Some i) → ComesFirst c.lowest c.isr (Some j)
      → Requesting c (cond b (Some i) None)
  before_served i j true e ready asking serving = (
    ready,
    asks i asking.0 asking.1,
    λ k a. asking.2 k a.input (asked k a),
    λ k h set. omega (arith, ltb-true (rank c.lowest i) (rank c.lowest j) e, serving.2 k h set),
  )
  before_served i j false e ready asking serving =
      λ _ k a. (j, serving.0, serving.1, omega (arith, ltb-false (rank c.lowest i) (rank c.lowest j) e, asking.2 k a.input (asked k a)))

  by_search : (ready : Bool) (asking serving : Option ℕ) → initialised c.stage ≡ ready
      → ComesFirst c.lowest (bit_and c.irr (255 - c.imr)) asking → ComesFirst c.lowest c.isr serving
      → Requesting c (chosen ready asking serving)
  unfolding chosen
  by_search false asking serving e a s = λ r. absurd (both_ways (initialised c.stage) e r)
  by_search true None serving e a s = none_asks a
  by_search true (Some i) None e a s =
      (e, asks i a.0 a.1, λ k p. a.2 k p.input (asked k p), λ k h set. absurd (both_ways (bit c.isr k) (s k h) set))
  by_search true (Some i) (Some j) e a s = before_served i j (ltb (rank c.lowest i) (rank c.lowest j)) refl e a s

  pub answers_request : (asking serving r : Option ℕ)
      → asking ≡ first c.lowest (bit_and c.irr (255 - c.imr)) → ComesFirst c.lowest (bit_and c.irr (255 - c.imr)) asking
      → serving ≡ first c.lowest c.isr → ComesFirst c.lowest c.isr serving
      → r ≡ request c → Requesting c r
  unfolding chosen
  answers_request asking serving r e a f s q =
      subst (Requesting c) (sym q)
      (by_search (initialised c.stage) (first c.lowest (bit_and c.irr (255 - c.imr))) (first c.lowest c.isr) refl
      (subst (ComesFirst c.lowest (bit_and c.irr (255 - c.imr))) e a) (subst (ComesFirst c.lowest c.isr) f s))
