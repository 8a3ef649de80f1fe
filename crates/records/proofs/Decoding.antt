-- How the counted bytes of a record are taken apart.
use Rattle.std.proofs.Common.{◌≡◌, ℕ, zero, suc, ◌+◌, ◌-◌, ◌*◌, ◌<◌, ◌≤◌, Bool, true, false, cond, ◌&&◌, eqb, List, [], ◌∷◌, length, get_or, take, drop, Ok, Err, Result, refl, ap, subst, ◌∙◌, ap₂, arith, ltb-false, ltb-true, eqb-true}
use borrow.Author.Tests.{eqb-false}
use Rattle.std.proofs.lemmas.Slice.{first_rest}
use Rattle.std.proofs.lemmas.Bool.{ne_eqb, cond-false}
use Rattle.std.specs.List.{between, list_all}
use Rattle.rules.specs.declared.refusal.Refusal.{Refusal}
use Rattle.rules.specs.declared.refusal.Refusal.TheVariants.{UnknownKind}
use Rattle.rules.specs.Trace.{Record, advance, read, write, queue, printable, all_printable, big_endian, big_endian_from, decode, sized}

-- what `omega` needs for the tests of a slice pattern
pub ruleset tests = (arith, ltb-true, ltb-false, eqb-true, eqb-false)

-- P of every list of n numbers, number by number
abbrev Every : ℕ → (List ℕ → Type 0) → Type 0
Every zero P = P []
Every (suc n) P = (a : ℕ) → Every n (λ xs. P (a ∷ xs))

every_at : (n : ℕ) (P : List ℕ → Type 0) → Every n P → (xs : List ℕ) → length xs ≡ n → P xs
every_at zero P h [] e = h
every_at zero P h (x ∷ xs) e = absurd (omega arith)
every_at (suc n) P h [] e = absurd (omega arith)
every_at (suc n) P h (x ∷ xs) e = every_at n (λ ys. P (x ∷ ys)) (h x) xs (omega arith)

-- what `from_be_bytes` gives of two bytes and of eight
abbrev pub Two : List ℕ → ℕ → Type 0
Two xs n = n ≡ get_or xs 0 0 * 256 + get_or xs 1 0

abbrev pub Eight : List ℕ → ℕ → Type 0
Eight xs n = n ≡ get_or xs 0 0 * 72057594037927936 + get_or xs 1 0 * 281474976710656 + get_or xs 2 0 * 1099511627776 + get_or xs 3 0 * 4294967296 + get_or xs 4 0 * 16777216 + get_or xs 5 0 * 65536 + get_or xs 6 0 * 256 + get_or xs 7 0

pub advance_fields : (xs : List ℕ) (n : ℕ) → length xs ≡ 8 → Eight xs n → ◌≡◌ {A = Result Record Refusal} (Ok (advance n)) (sized 8 xs (advance (big_endian xs)))
unfolding big_endian_from
advance_fields xs n = every_at 8 (λ ys. Eight ys n → ◌≡◌ {A = Result Record Refusal} (Ok (advance n)) (sized 8 ys (advance (big_endian ys)))) (λ a b c d e f g h s. ap (λ (m : ℕ). Ok (advance m)) (omega arith)) xs

pub read_fields : (xs : List ℕ) (n : ℕ) → length xs ≡ 2 → Two xs n → ◌≡◌ {A = Result Record Refusal} (Ok (read n)) (sized 2 xs (read (big_endian xs)))
unfolding big_endian_from
read_fields xs n = every_at 2 (λ ys. Two ys n → ◌≡◌ {A = Result Record Refusal} (Ok (read n)) (sized 2 ys (read (big_endian ys)))) (λ a b s. ap (λ (m : ℕ). Ok (read m)) (omega arith)) xs

pub write_fields : (xs : List ℕ) (port byte : ℕ) → length xs ≡ 3 → Two xs port → byte ≡ get_or xs 2 0 → ◌≡◌ {A = Result Record Refusal} (Ok (write port byte)) (sized 3 xs (write (big_endian (take 2 xs)) (big_endian (drop 2 xs))))
unfolding big_endian_from
write_fields xs port byte = every_at 3 (λ ys. Two ys port → byte ≡ get_or ys 2 0 → ◌≡◌ {A = Result Record Refusal} (Ok (write port byte)) (sized 3 ys (write (big_endian (take 2 ys)) (big_endian (drop 2 ys))))) (λ a b v s t. ap₂ (λ (m n : ℕ). Ok (write m n)) (omega arith) (omega arith)) xs

-- the tick's bytes `ts`, and the others `us`
pub queue_fields : (xs ts us : List ℕ) (tick port byte : ℕ) → length xs ≡ 11 → ts ≡ take 8 xs → us ≡ drop 8 xs → Eight ts tick → Two us port → byte ≡ get_or us 2 0 → ◌≡◌ {A = Result Record Refusal} (Ok (queue tick port byte)) (sized 11 xs (queue (big_endian (take 8 xs)) (big_endian (take 2 (drop 8 xs))) (big_endian (drop 10 xs))))
unfolding big_endian_from
queue_fields xs ts us tick port byte = every_at 11 (λ ys. ts ≡ take 8 ys → us ≡ drop 8 ys → Eight ts tick → Two us port → byte ≡ get_or us 2 0 → ◌≡◌ {A = Result Record Refusal} (Ok (queue tick port byte)) (sized 11 ys (queue (big_endian (take 8 ys)) (big_endian (take 2 (drop 8 ys))) (big_endian (drop 10 ys))))) (λ a b c d e f g h i j k p q s t u. (let et : tick ≡ big_endian (a ∷ b ∷ c ∷ d ∷ e ∷ f ∷ g ∷ h ∷ []) = omega (arith, subst (λ zs. Eight zs tick) p s) in let ep : port ≡ big_endian (i ∷ j ∷ []) = omega (arith, subst (λ zs. Two zs port) q t) in let eb : byte ≡ big_endian (k ∷ []) = omega (arith, subst (λ zs. byte ≡ get_or zs 2 0) q u) in cc)) xs

module _ (xs : List ℕ) (some : 0 < length xs) where
  -- the kind, and the fields as the slice pattern has them
  pub decode_kind : (kind : ℕ) → get_or xs 0 0 ≡ kind → decode xs ≡ decode (kind ∷ between 1 (length xs) xs)
  decode_kind kind e = ap decode (first_rest xs 0 some) ∙ ap (λ (k : ℕ). decode (k ∷ between 1 (length xs) xs)) e

  pub decode_unknown : (get_or xs 0 0 ≡ 1 → ⊥) → (get_or xs 0 0 ≡ 2 → ⊥) → (get_or xs 0 0 ≡ 3 → ⊥) → (get_or xs 0 0 ≡ 4 → ⊥) → (get_or xs 0 0 ≡ 5 → ⊥) → (get_or xs 0 0 ≡ 6 → ⊥) → decode xs ≡ Err UnknownKind
  unfolding decode
  decode_unknown n1 n2 n3 n4 n5 n6 = ap decode (first_rest xs 0 some) ∙ rw (ne_eqb _ _ n1, ne_eqb _ _ n2, ne_eqb _ _ n3, ne_eqb _ _ n4, ne_eqb _ _ n5, ne_eqb _ _ n6) refl

pub decode_none : (xs : List ℕ) → length xs < 1 → decode xs ≡ Err UnknownKind
unfolding decode
decode_none [] h = refl
decode_none (x ∷ xs) h = absurd (omega arith)

pub list_all_printable : (xs : List ℕ) → list_all printable xs ≡ all_printable xs
unfolding all_printable
list_all_printable [] = refl
list_all_printable (x ∷ xs) = ap (λ (b : Bool). printable x && b) (list_all_printable xs)
