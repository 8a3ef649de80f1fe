-- What stands at a place of a trace, by the slices that the reader takes there.
use Rattle.std.proofs.Common.{◌≡◌, ℕ, ◌+◌, ◌-◌, ◌*◌, ◌<◌, ◌≤◌, List, [], ◌∷◌, length, get_or, take, drop, Ok, Err, None, Some, Option, Result, subst, sym, refl, ap, ◌∙◌, inl, inr, arith, length-drop}
use Rattle.std.proofs.lemmas.List.{take_rest, drop_all, drop-drop}
use Rattle.std.proofs.lemmas.Bool.{lt-ltb, le-ltb, cases_lt}
use Rattle.std.specs.List.{between}
use Rattle.rules.specs.declared.refusal.Refusal.{Refusal}
use Rattle.rules.specs.declared.refusal.Refusal.TheVariants.{CutOff}
use Rattle.rules.specs.Trace.{Record, Next, at_end, fault, got, decode, counted_record, next}
use Rattle.records.specs.declared.reader.Reader.{Reader}
use Rattle.records.specs.declared.record.Record as code
use Rattle.std.specs.Option.{ok_or}
use Rattle.std.specs.Result.{IsErrAnd}
use Rattle.std.proofs.lemmas.Result.{err_from_is_err_and}
use Rattle.records.specs.Reading.{whole, left, moved, GivesNext}
use Rattle.records.specs.Records.{meant}

pub next_end : (xs : List ℕ) (p : ℕ) → length xs ≤ p → next (drop p xs) ≡ at_end
unfolding next
next_end xs p h = ap next (drop_all p xs h)

pub next_short : (ys : List ℕ) → 0 < length ys → length ys < 2 → next ys ≡ fault CutOff
unfolding next
next_short [] h l = absurd (omega arith)
next_short (x ∷ []) h l = refl
next_short (x ∷ (y ∷ ys)) h l = absurd (omega arith)

next_counted : (ys : List ℕ) (len : ℕ) → 2 ≤ length ys → len ≡ get_or (take 2 ys) 0 0 * 256 + get_or (take 2 ys) 1 0 → next ys ≡ counted_record len (drop 2 ys)
unfolding next
next_counted [] len h e = absurd (omega arith)
next_counted (x ∷ []) len h e = absurd (omega arith)
next_counted (x ∷ (y ∷ ys)) len h e = ap (λ (n : ℕ). counted_record n ys) (omega arith)

pub counted_cut : (len : ℕ) (bytes : List ℕ) → length bytes < len → counted_record len bytes ≡ fault CutOff
counted_cut len bytes h = rw (lt-ltb _ _ h) refl

pub counted_bad : (len : ℕ) (bytes : List ℕ) (e : Refusal) → len ≤ length bytes → Err e ≡ decode (take len bytes) → counted_record len bytes ≡ fault e
counted_bad len bytes e h d = rw (le-ltb (length bytes) len h, ← d) refl

pub counted_got : (len : ℕ) (bytes : List ℕ) (r : Record) → len ≤ length bytes → Ok r ≡ decode (take len bytes) → counted_record len bytes ≡ got r len (drop len bytes)
counted_got len bytes r h d = rw (le-ltb (length bytes) len h, ← d) refl

module _ (len : ℕ) (bytes : List ℕ) (e : at_end ≡ counted_record len bytes) where
  no_end_decoded : (d : Result Record Refusal) → len ≤ length bytes → d ≡ decode (take len bytes) → ⊥
  no_end_decoded (Ok r) h d = (let g = counted_got len bytes r h d in let z : ◌≡◌ {A = ℕ} 0 1 = cc in omega arith)
  no_end_decoded (Err f) h d = (let g = counted_bad len bytes f h d in let z : ◌≡◌ {A = ℕ} 0 1 = cc in omega arith)

  no_end_counted : ⊥
  no_end_counted =
      elim (cases_lt (length bytes) len) [
        | inl h ↦ (let g = counted_cut len bytes h in let z : ◌≡◌ {A = ℕ} 0 1 = cc in omega arith)
        | inr h ↦ no_end_decoded (decode (take len bytes)) h refl
      ]

-- only where no byte is left is the trace at its end
pub nothing_left : (ys : List ℕ) → at_end ≡ next ys → length ys ≡ 0
unfolding next
nothing_left [] e = refl
nothing_left (x ∷ []) e = (let z : ◌≡◌ {A = ℕ} 0 1 = cc in absurd (omega arith))
nothing_left (x ∷ (y ∷ ys)) e = absurd (no_end_counted (256 * x + y) ys e)

-- an answer that leaves the reader as it was
pub gives_end : (r : Reader) → next (left r) ≡ at_end → GivesNext r None r
gives_end r e = record { same = refl; place = sym (ap (λ (n : Next). moved n r.place) e); next = sym e }

pub gives_fault : (r : Reader) {e : Refusal} → next (left r) ≡ fault e → GivesNext r (Some (Err e)) r
gives_fault r {e} n = record { same = refl; place = sym (ap (λ (k : Next). moved k r.place) n); next = sym n }

-- the answer at the exit of a `?`
pub gives_passed : (r : Reader) {x : Result code.Record Refusal} {e : Refusal} → IsErrAnd x (λ y. y ≡ e) → next (left r) ≡ fault e → GivesNext r (Some x) r
gives_passed r {x} {e} is n = (let (y, was, same) = err_from_is_err_and x is in subst (λ (z : Result code.Record Refusal). GivesNext r (Some z) r) (sym (was ∙ ap (λ (z : Refusal). Err z) same)) (gives_fault r n))

-- a record of `len` counted bytes
pub gives_record : (r : Reader) (x : code.Record) (len : ℕ) → next (left r) ≡ got (meant x) len (drop (r.place + (2 + len)) (whole r)) → GivesNext r (Some (Ok x)) (record { trace = r.trace; place = r.place + (2 + len) })
gives_record r x len n =
    let moves : r.place + (2 + len) ≡ r.place + 2 + len = omega arith in
    let length_is : r.place + (2 + len) - r.place - 2 ≡ len = omega arith in
    record { same = refl; place = moves ∙ sym (ap (λ (k : Next). moved k r.place) n); next = ap (λ (m : ℕ). got (meant x) m (drop (r.place + (2 + len)) (whole r))) length_is ∙ sym n }

-- the refusal that stands for a missing part
pub is_cut_off : {T : Type 0} {e : Refusal} (o : Option T) → o ≡ None → ◌≡◌ {A = Result T Refusal} (Err e) (ok_or o CutOff) → e ≡ CutOff
is_cut_off {T} {e} o none is = (let h : ◌≡◌ {A = Result T Refusal} (Err e) (Err CutOff) = is ∙ ap (λ (p : Option T). ok_or p CutOff) none in cc)

-- what is left at a place
abbrev pub rest_at : List ℕ → ℕ → List ℕ
rest_at xs p = between p (length xs) xs

module _ (xs : List ℕ) (p : ℕ) where
  rest_is : rest_at xs p ≡ drop p xs
  rest_is = take_rest xs p

  pub next_cut_field : p < length xs → length (rest_at xs p) < 2 → next (drop p xs) ≡ fault CutOff
  next_cut_field h l = ap next (sym rest_is) ∙ next_short (rest_at xs p) (omega (arith, ap length rest_is, length-drop p xs)) l

  -- the length field `field`, and the bytes `bytes` behind it
  module _ (len : ℕ) {field bytes : List ℕ} (split : (field ≡ take 2 (rest_at xs p)) × (bytes ≡ drop 2 (rest_at xs p)) × (length bytes + 2 ≡ length (rest_at xs p))) (len_is : len ≡ get_or field 0 0 * 256 + get_or field 1 0) where
    next_is : next (drop p xs) ≡ counted_record len bytes
    next_is = ap next (sym rest_is) ∙ next_counted (rest_at xs p) len (omega (arith, split.2)) (len_is ∙ ap (λ (zs : List ℕ). get_or zs 0 0 * 256 + get_or zs 1 0) split.0) ∙ ap (counted_record len) (sym split.1)

    pub next_cut : length bytes < len → next (drop p xs) ≡ fault CutOff
    next_cut h = next_is ∙ counted_cut len bytes h

    pub next_bad : (e : Refusal) → len ≤ length bytes → Err e ≡ decode (take len bytes) → next (drop p xs) ≡ fault e
    next_bad e h d = next_is ∙ counted_bad len bytes e h d

    pub next_got : (r : Record) → len ≤ length bytes → Ok r ≡ decode (take len bytes) → next (drop p xs) ≡ got r len (drop (p + (2 + len)) xs)
    next_got r h d =
        next_is
        ∙ counted_got len bytes r h d
        ∙ ap (got r len) (ap (drop len) (split.1 ∙ ap (drop 2) rest_is ∙ drop-drop 2 p xs) ∙ drop-drop len (p + 2) xs ∙ ap (λ (n : ℕ). drop n xs) (omega arith))
