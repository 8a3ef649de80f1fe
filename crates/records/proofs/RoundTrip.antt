-- What is encoded reads back.
use Rattle.std.proofs.Common.{◌≡◌, ℕ, zero, suc, ◌+◌, ◌*◌, ◌/◌, ◌%◌, ◌^◌, ◌<◌, ◌≤◌, List, [], ◌∷◌, ◌++◌, length, take, drop, Ok, Err, Result, sym, refl, ap, ◌∙◌, ap₂, inl, inr, pow-suc, arith, length-append}
use Rattle.std.proofs.lemmas.List.{take_at, drop_at, drop-drop}
use Rattle.std.proofs.lemmas.Bool.{le-leb, cases_lt}
use Rattle.rules.specs.Trace.{Record, advance, read, write, acknowledge, queue, note, big_endian, big_endian_from, decode, got, next, counted_record}
use Rattle.rules.specs.declared.refusal.Refusal.{Refusal}
use Rattle.records.proofs.Reading.{counted_cut, counted_bad, counted_got}
use Rattle.records.specs.Encoding.{in_bytes, counted, encoded, encode, Fitting, AllFitting, Gives, ReadsBack}

big_endian_push : (n : ℕ) (xs : List ℕ) (b : ℕ) → big_endian_from n (xs ++ (b ∷ [])) ≡ 256 * big_endian_from n xs + b
unfolding big_endian_from
big_endian_push n [] b = refl
big_endian_push n (x ∷ xs) b = big_endian_push (256 * n + x) xs b

in_bytes_back : (k n : ℕ) → n < 256 ^ k → big_endian (in_bytes k n) ≡ n
unfolding big_endian_from
in_bytes_back zero n h = omega arith
in_bytes_back (suc k) n h =
    let low : n / 256 < 256 ^ k = omega (arith, pow-suc 256 k) in
    big_endian_push 0 (in_bytes k (n / 256)) (n % 256) ∙ ap (λ (m : ℕ). 256 * m + n % 256) (in_bytes_back k (n / 256) low) ∙ omega arith

one_byte : (b : ℕ) → big_endian (b ∷ []) ≡ b
unfolding big_endian_from
one_byte b = omega arith

encoded_back : (r : Record) → Fitting r → decode (counted r) ≡ Ok r
unfolding decode
encoded_back (advance n) h = ap (λ (m : ℕ). Ok (advance m)) (in_bytes_back 8 n (omega arith))
encoded_back (read port) h = ap (λ (m : ℕ). Ok (read m)) (in_bytes_back 2 port (omega arith))
encoded_back (write port byte) h = ap₂ (λ (m b : ℕ). Ok (write m b)) (in_bytes_back 2 port (omega arith)) (one_byte byte)
encoded_back acknowledge h = refl
encoded_back (queue tick port byte) h = (let t = in_bytes_back 8 tick (omega (arith, h.0)) in let p = in_bytes_back 2 port (omega (arith, h.1)) in let b = one_byte byte in cc)
encoded_back (note text) h = rw (le-leb (length text) 80 h.0, h.1) refl

short : (r : Record) → Fitting r → length (counted r) ≤ 81
short (advance n) h = omega arith
short (read port) h = omega arith
short (write port byte) h = omega arith
short acknowledge h = omega arith
short (queue tick port byte) h = omega arith
short (note text) h = omega (arith, h.0)

one_back : (r : Record) (rest : List ℕ) → Fitting r → next (encoded r ++ rest) ≡ got r (length (counted r)) rest
unfolding next
one_back r rest h =
    (let L : ℕ = length (counted r) in
    let small : L ≤ 81 = short r h in
    let long : L ≤ length (counted r ++ rest) = omega (arith, length-append (counted r) rest) in
    ap (λ (n : ℕ). counted_record n (counted r ++ rest)) (omega arith)
    ∙ counted_got L (counted r ++ rest) r long (sym (ap decode (take_at (counted r) rest L refl) ∙ encoded_back r h))
    ∙ ap (got r L) (drop_at (counted r) rest L refl))

all_back : (rs : List Record) → AllFitting rs → Gives (encode rs) rs
unfolding encode next
all_back [] h = refl
all_back (r ∷ rs) h = (length (counted r), encode rs, one_back r (encode rs) h.0, all_back rs h.1)

-- what a record that was read says of the bytes behind its length field
module _ (n : ℕ) (bytes : List ℕ) (r : Record) (len : ℕ) (rest : List ℕ) (e : counted_record n bytes ≡ got r len rest) where
  by_decoded : (d : Result Record Refusal) → n ≤ length bytes → d ≡ decode (take n bytes) → (len ≡ n) × (n ≤ length bytes) × (rest ≡ drop n bytes)
  by_decoded (Ok x) h d = (let g = counted_got n bytes x h d in (cc, h, cc))
  by_decoded (Err x) h d = (let g = counted_bad n bytes x h d in let z : ◌≡◌ {A = ℕ} 0 1 = cc in absurd (omega arith))

  counted_within : (len ≡ n) × (n ≤ length bytes) × (rest ≡ drop n bytes)
  counted_within =
      elim (cases_lt (length bytes) n) [
        | inl h ↦ (let g = counted_cut n bytes h in let z : ◌≡◌ {A = ℕ} 0 1 = cc in absurd (omega arith))
        | inr h ↦ by_decoded (decode (take n bytes)) h refl
      ]

drop_drop_two : (bytes : List ℕ) (x y len : ℕ) → drop len bytes ≡ drop (2 + len) (x ∷ (y ∷ bytes))
drop_drop_two bytes x y len = drop-drop len 2 (x ∷ (y ∷ bytes))

stays_within : (bytes : List ℕ) (r : Record) (len : ℕ) (rest : List ℕ) → next bytes ≡ got r len rest → (2 + len ≤ length bytes) × (rest ≡ drop (2 + len) bytes)
unfolding next
stays_within [] r len rest e = (let z : ◌≡◌ {A = ℕ} 0 1 = cc in absurd (omega arith))
stays_within (x ∷ []) r len rest e = (let z : ◌≡◌ {A = ℕ} 0 1 = cc in absurd (omega arith))
stays_within (x ∷ (y ∷ bytes)) r len rest e =
    (let (size, fits, left) = counted_within (256 * x + y) bytes r len rest e in
    (omega arith, left ∙ ap (λ (n : ℕ). drop n bytes) (sym size) ∙ drop_drop_two bytes x y len))

pub reads_back : ReadsBack
reads_back = record { one = one_back; all = all_back; within = stays_within }
