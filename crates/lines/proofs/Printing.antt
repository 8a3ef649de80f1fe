-- One line printed after another.
use Rattle.std.proofs.Common.{◌≡◌, ℕ, suc, ◌+◌, ◌-◌, ◌/◌, ◌%◌, ◌<◌, ◌≤◌, min, List, [], ◌∷◌, ◌++◌, length, get_or, take, drop, set, sym, refl, ap, ◌∙◌, subst, ap₂, inl, inr, append_assoc, add-zero, arith, length-append, length-drop, length-set, length-take}
use Rattle.std.proofs.lemmas.List.{append-nil, take_all, drop_all, take_more_set, drop-set-lt, take-append-drop}
use Rattle.std.proofs.lemmas.Bool.{cases_lt}
use Rattle.rules.specs.Trace.{hex_byte, hex_port}
use Rattle.lines.specs.declared.output.Output.{Output}
use Rattle.lines.specs.Printing.{Printed, bytes_of, with_line}

abbrev pub place_after : List ℕ → ℕ → List ℕ → ℕ
place_after bs p line = p + length (take (length bs - p) line)

pub place_after_is : (bs : List ℕ) (p : ℕ) (line : List ℕ) → place_after bs p line ≡ p + min (length bs - p) (length line)
place_after_is bs p line = ap (λ (n : ℕ). p + n) (length-take (length bs - p) line)

pub length_with_line : (bs : List ℕ) (p : ℕ) (line : List ℕ) → length (with_line bs p line) ≡ length bs
length_with_line bs p line = simp (length-append, length-take, length-drop) (omega arith)

-- past the end nothing is printed
full : (bs : List ℕ) (p : ℕ) (line : List ℕ) → length bs ≤ p → with_line bs p line ≡ bs
full bs p line h =
    let none : length bs - p ≡ 0 = omega arith in
    let past : length bs ≤ p + length line = omega arith in
    ap₂ ◌++◌ (take_all p bs h) (ap₂ ◌++◌ (ap (λ (n : ℕ). take n line) none) (drop_all (p + length line) bs past)) ∙ append-nil bs

pub with_none : (bs : List ℕ) (p : ℕ) → with_line bs p [] ≡ bs
with_none bs p = ap₂ (λ (s : List ℕ) (n : ℕ). take p bs ++ (s ++ drop n bs)) (take_all (length bs - p) [] (omega arith)) (add-zero p) ∙ take-append-drop p bs

with_more : (bs : List ℕ) (p x : ℕ) (xs : List ℕ) → p < length bs → with_line bs p (x ∷ xs) ≡ with_line (set bs p x) (p + 1) xs
with_more bs p x xs h =
    let room : length bs - p ≡ suc (length bs - (p + 1)) = omega arith in
    let kept : length (set bs p x) - (p + 1) ≡ length bs - (p + 1) = ap (λ (n : ℕ). n - (p + 1)) (length-set bs p x) in
    let far : p + suc (length xs) ≡ p + 1 + length xs = omega arith in
    let below : p < p + 1 + length xs = omega arith in
    ap₂ (λ (n m : ℕ). take p bs ++ (take n (x ∷ xs) ++ drop m bs)) room far
    ∙ sym (append_assoc (take p bs) (x ∷ []) (take (length bs - (p + 1)) xs ++ drop (p + 1 + length xs) bs))
    ∙ ap₂ ◌++◌ (sym (take_more_set bs p x h)) (ap₂ ◌++◌ (ap (λ (n : ℕ). take n xs) (sym kept)) (sym (drop-set-lt (p + 1 + length xs) bs p x below)))

place_more : (bs : List ℕ) (p x : ℕ) (xs : List ℕ) → p < length bs → place_after bs p (x ∷ xs) ≡ place_after (set bs p x) (p + 1) xs
place_more bs p x xs h = place_after_is bs p (x ∷ xs) ∙ omega (arith, length-set bs p x) ∙ sym (place_after_is (set bs p x) (p + 1) xs)

with_then : (bs : List ℕ) (p : ℕ) (xs ys : List ℕ) → with_line (with_line bs p xs) (place_after bs p xs) ys ≡ with_line bs p (xs ++ ys)
with_then bs p [] ys = ap₂ (λ (b : List ℕ) (n : ℕ). with_line b n ys) (with_none bs p) (omega (arith, place_after_is bs p []))
with_then bs p (x ∷ xs) ys =
    elim (cases_lt p (length bs)) [
      | inl h ↦ ap₂ (λ (b : List ℕ) (n : ℕ). with_line b n ys) (with_more bs p x xs h) (place_more bs p x xs h) ∙ with_then (set bs p x) (p + 1) xs ys ∙ sym (with_more bs p x (xs ++ ys) h)
      | inr h ↦ (let far : length bs ≤ place_after bs p (x ∷ xs) = omega arith in ap (λ (b : List ℕ). with_line b (place_after bs p (x ∷ xs)) ys) (full bs p (x ∷ xs) h) ∙ full bs (place_after bs p (x ∷ xs)) ys far ∙ sym (full bs p (x ∷ (xs ++ ys)) h))
    ]

place_then : (bs : List ℕ) (p : ℕ) (xs ys : List ℕ) → place_after (with_line bs p xs) (place_after bs p xs) ys ≡ place_after bs p (xs ++ ys)
place_then bs p xs ys = place_after_is (with_line bs p xs) (place_after bs p xs) ys ∙ omega (arith, length_with_line bs p xs, place_after_is bs p xs, length-append xs ys) ∙ sym (place_after_is bs p (xs ++ ys))

pub printed_then : {o p q : Output} {xs ys : List ℕ} → Printed o xs p → Printed p ys q → Printed o (xs ++ ys) q
printed_then {o} {p} {q} {xs} {ys} a b = record {
  bytes = b.bytes ∙ ap₂ (λ (s : List ℕ) (n : ℕ). with_line s n ys) a.bytes a.place ∙ with_then (bytes_of o) o.place xs ys;
  place = b.place ∙ ap₂ (λ (s : List ℕ) (n : ℕ). place_after s n ys) a.bytes a.place ∙ place_then (bytes_of o) o.place xs ys;
  lender = b.lender ∙ a.lender;
}

pub printed_none : (o : Output) → Printed o [] o
printed_none o = record { bytes = sym (with_none (bytes_of o) o.place); place = omega (arith, place_after_is (bytes_of o) o.place []); lender = refl }

-- the same bytes in other words, and the same output
pub printed_as : {o p : Output} {xs ys : List ℕ} → xs ≡ ys → Printed o xs p → Printed o ys p
printed_as {o} {p} e h = subst (λ (zs : List ℕ). Printed o zs p) e h

pub printed_byte : {o p : Output} {x y : ℕ} → x ≡ y → Printed o (x ∷ []) p → Printed o (y ∷ []) p
printed_byte e h = printed_as (ap (λ (z : ℕ). z ∷ []) e) h

pub printed_from : {o o' p : Output} {xs : List ℕ} → o ≡ o' → Printed o xs p → Printed o' xs p
printed_from {o} {o'} {p} {xs} e h = subst (λ (z : Output). Printed z xs p) e h

pub printed_to : {o p p' : Output} {xs : List ℕ} → p ≡ p' → Printed o xs p → Printed o xs p'
printed_to {o} {p} {p'} {xs} e h = subst (λ (z : Output). Printed o xs z) e h

-- one byte, by `set`
pub with_byte : (bs : List ℕ) (p x : ℕ) → p < length bs → set bs p x ≡ with_line bs p (x ∷ [])
with_byte bs p x h = sym (with_more bs p x [] h ∙ with_none (set bs p x) (p + 1))

pub place_byte : (bs : List ℕ) (p x : ℕ) → p < length bs → p + 1 ≡ place_after bs p (x ∷ [])
place_byte bs p x h = omega (arith, place_after_is bs p (x ∷ []))

pub full_byte : (bs : List ℕ) (p x : ℕ) → length bs ≤ p → bs ≡ with_line bs p (x ∷ [])
full_byte bs p x h = sym (full bs p (x ∷ []) h)

pub full_place : (bs : List ℕ) (p x : ℕ) → length bs ≤ p → p ≡ place_after bs p (x ∷ [])
full_place bs p x h = omega (arith, place_after_is bs p (x ∷ []))

-- the digits of a port, byte by byte
pub port_bytes : (p : ℕ) {bs : List ℕ} → bs ≡ p / 256 % 256 ∷ (p % 256 ∷ []) → hex_byte (get_or bs 0 0) ++ hex_byte (get_or bs 1 0) ≡ hex_port p
port_bytes p e =
    let a : p / 256 % 256 / 16 % 16 ≡ p / 4096 % 16 = omega arith in
    let b : p / 256 % 256 % 16 ≡ p / 256 % 16 = omega arith in
    let c : p % 256 / 16 % 16 ≡ p / 16 % 16 = omega arith in
    let d : p % 256 % 16 ≡ p % 16 = omega arith in
    ap (λ (xs : List ℕ). hex_byte (get_or xs 0 0) ++ hex_byte (get_or xs 1 0)) e ∙ cc
