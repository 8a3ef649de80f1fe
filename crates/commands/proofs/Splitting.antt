-- How a text is cut into words.
use Rattle.std.proofs.Common.{◌≡◌, ℕ, zero, suc, ◌<◌, ◌≤◌, Bool, true, false, not, Option, List, [], ◌∷◌, ◌++◌, length, take, drop, get_or, filter, None, Some, inl, inr, add-one, sym, ap, ◌∙◌, refl, arith}
use Rattle.std.specs.Option.{unwrap_or}
use Rattle.std.specs.List.{All, position, position_or_len}
use Rattle.std.proofs.lemmas.Bool.{cases_lt, lt-ltb, le-ltb, cond-true}
use Rattle.std.proofs.lemmas.List.{take_all, drop_all, length-take-le}
use Rattle.std.proofs.lemmas.List.Quantifiers.{position-Some}
use Rattle.std.proofs.lemmas.List.Splits.{slice_split-cons_yes, slice_split_none, slice_split_at, slice_split_first}
use Rattle.std.proofs.lemmas.List.Sums.{fails_before_first, passes_at_first, prefix_len-le-length}
use Rattle.std.proofs.Math.Seq.{drop-cons}
use Rattle.commands.specs.Words.{is_blank, is_word, words}

true_from_not : (x : Bool) → not x ≡ false → x ≡ true
true_from_not true h = refl
true_from_not false h = sym h

false_from_not : (x : Bool) → not x ≡ true → x ≡ false
false_from_not true h = sym h
false_from_not false h = refl

-- A blank in front is passed over.
pub words_blank : (b : ℕ) (text : List ℕ) → is_blank b ≡ true → words (b ∷ text) ≡ words text
unfolding words
words_blank b text h = ap (filter is_word) (slice_split-cons_yes is_blank b text h)

-- So are several.
skip_to : (i : ℕ) (text : List ℕ) → i ≤ length text → ((k : ℕ) → k < i → not (is_blank (get_or text k 0)) ≡ false) → words text ≡ words (drop i text)
skip_to zero text inside blank = refl
skip_to (suc i) [] inside blank = absurd (omega arith)
skip_to (suc i) (b ∷ text) inside blank =
    words_blank b text (true_from_not _ (blank 0 (omega arith))) ∙ skip_to i text (omega arith) (λ k h. blank (suc k) (omega arith))

-- A text without a blank is one word.
pub words_one : (c : ℕ) (cs : List ℕ) → All (λ b. is_blank b ≡ false) (c ∷ cs) → words (c ∷ cs) ≡ (c ∷ cs) ∷ []
unfolding words
words_one c cs h = ap (filter is_word) (slice_split_none is_blank (c ∷ cs) h) ∙ cond-true (is_word (c ∷ cs)) _ _ (lt-ltb 0 (length (c ∷ cs)) (omega arith))

-- A word ends at a blank.
pub words_more : (c : ℕ) (cs : List ℕ) (b : ℕ) (text : List ℕ) → All (λ b. is_blank b ≡ false) (c ∷ cs) → is_blank b ≡ true → words ((c ∷ cs) ++ b ∷ text) ≡ (c ∷ cs) ∷ words text
unfolding words
words_more c cs b text h e = ap (filter is_word) (slice_split_at is_blank (c ∷ cs) b text h e) ∙ cond-true (is_word (c ∷ cs)) _ _ (lt-ltb 0 (length (c ∷ cs)) (omega arith))

-- The first word ends at a blank, or at the end.
pub first_word : (text : List ℕ) → 0 < position_or_len is_blank text → words text ≡ take (position_or_len is_blank text) text ∷ words (drop (position_or_len is_blank text) text)
unfolding words
first_word text some =
    let n = position_or_len is_blank text in
    let within : n ≤ length text = prefix_len-le-length (λ b. not (is_blank b)) text in
    let word : is_word (take n text) ≡ true = lt-ltb _ _ (omega (arith, length-take-le n text within)) in
    elim (cases_lt n (length text)) [
      | inl inside ↦
          ap (filter is_word) (slice_split_first is_blank text 0 inside)
          ∙ cond-true _ _ _ word
          ∙ ap (λ k. take n text ∷ words (drop k text)) (add-one n)
          ∙ ap (λ ws. take n text ∷ ws) (sym (words_blank (get_or text n 0) (drop (suc n) text) (passes_at_first is_blank text 0 inside)))
          ∙ ap (λ t. take n text ∷ words t) (sym (drop-cons text n 0 inside))
      | inr outside ↦
          let all : All (λ b. is_blank b ≡ false) text = λ k d h. fails_before_first is_blank text k d (omega arith) in
          let whole : take n text ≡ text = take_all n text outside in
          let rest : drop n text ≡ [] = drop_all n text outside in
          let word_text : is_word text ≡ true = lt-ltb _ _ (omega arith) in
          ap (filter is_word) (slice_split_none is_blank text all) ∙ cond-true _ _ _ word_text ∙ rw (whole, rest)
    ]

-- The place where a test passes, or the length.
pub position_or_all : (p : ℕ → Bool) (text : List ℕ) → unwrap_or (position p text) (length text) ≡ position_or_len p text
position_or_all p text =
    let within : position_or_len p text ≤ length text = prefix_len-le-length (λ b. not (p b)) text in
    elim (cases_lt (position_or_len p text) (length text)) [
      | inl inside ↦ rw (lt-ltb _ _ inside)
      | inr outside ↦ rw (le-ltb _ _ outside) (omega arith)
    ]

pub next_word : (text : List ℕ) (i : ℕ) → position (λ b. not (is_blank b)) text ≡ Some i → words text ≡ take (position_or_len is_blank (drop i text)) (drop i text) ∷ words (drop (position_or_len is_blank (drop i text)) (drop i text))
next_word text i found =
    let (inside, here, before) = position-Some (λ b. not (is_blank b)) text i 0 found in
    let front : drop i text ≡ get_or text i 0 ∷ drop (suc i) text = drop-cons text i 0 inside in
    let some : 0 < position_or_len is_blank (drop i text) = rw (front, false_from_not _ here) (omega arith) in
    skip_to i text (omega arith) (λ k h. before k h) ∙ first_word (drop i text) some

pub no_word : (text : List ℕ) → position (λ b. not (is_blank b)) text ≡ None → words text ≡ []
unfolding words
no_word text found =
    elim (cases_lt (position_or_len (λ b. not (is_blank b)) text) (length text)) [
      | inl inside ↦ (let e : ◌≡◌ {A = Option ℕ} (Some (position_or_len (λ b. not (is_blank b)) text)) None = sym (cond-true _ _ _ (lt-ltb _ _ inside)) ∙ found in absurd cc)
      | inr outside ↦
          skip_to (length text) text (omega arith) (λ k h. fails_before_first (λ b. not (is_blank b)) text k 0 (omega arith)) ∙ ap words (drop_all (length text) text (omega arith))
    ]
