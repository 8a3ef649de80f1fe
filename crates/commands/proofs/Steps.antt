-- How reads follow one another, and what a name leads to.
use Rattle.std.proofs.Common.{◌≡◌, ℕ, ◌<◌, ◌≤◌, true, false, MatchResult, inl, inr, List, [], ◌∷◌, Option, None, Some, Ok, Err, Result, Bor, bytes_eq, codes, IsUtf8, IsAscii, sym, ap, ◌∙◌, refl, arith, rules}
use Rattle.std.specs.Iterator.{YieldsFirstRef}
use Rattle.std.specs.Result.{IsErrAnd}
use Rattle.std.specs.Option.{ok_or}
use Rattle.std.proofs.lemmas.Bool.{cases_Bool, cases_lt, false_from_ne_true}
use Rattle.std.proofs.lemmas.Result.{err_from_is_err_and}
use Rattle.std.proofs.lemmas.Slice.Eq.{bytes_eq-Decides}
use Rattle.std.proofs.lemmas.Str.{IsUtf8-from_ascii}
use Rattle.commands.specs.Meaning as meaning
use Rattle.commands.specs.Meaning.{Reads}
use Rattle.commands.specs.Reading.{left, IsRead}
use Rattle.commands.specs.declared.command.Unreadable.{Unreadable}
use Rattle.commands.specs.Numbers.{base_of, digits_of, is_numeral, value_of, number_below}
use Rattle.commands.specs.declared.command.Unreadable.TheVariants.{EmptyLine, UnknownCommand, MissingWord, NotANumber, TooLarge}
use Rattle.commands.proofs.Digits.{number_small, number_large, number_unread}
use Rattle.commands.specs.declared.words.Words.{Words}

-- A fault that was met is passed on.
pub read_fault : {A : Type 0} (reads : Reads A) (before after : Words) (r : Result A Unreadable) {e : Unreadable} → IsErrAnd r (λ y. y ≡ e) → reads (left before) ≡ Err e → IsRead reads before r after
read_fault reads before after r is h = (let p = err_from_is_err_and r is in rw (p.1, p.2) h)

-- ---- numbers

module _ (limit : ℕ) (word : List ℕ) (rest : List (List ℕ)) where
  pub number_ok : {n : ℕ} → number_below limit word ≡ Ok n → meaning.number limit (word ∷ rest) ≡ Ok (n, rest)
  unfolding meaning.number
  number_ok h = rw (h, meaning.number)

  pub number_err : {e : Unreadable} → number_below limit word ≡ Err e → meaning.number limit (word ∷ rest) ≡ Err e
  unfolding meaning.number
  number_err h = rw (h, meaning.number)

pub number_none : (limit : ℕ) → meaning.number limit [] ≡ Err MissingWord
unfolding meaning.number
number_none limit = refl

-- How a word is read: it is no numeral, it is too large, or it is below the limit.
pub data WordCase (limit : ℕ) (word : List ℕ) : Type 0 where
  unread : is_numeral (base_of word) (digits_of word) ≡ false → WordCase limit word
  large : is_numeral (base_of word) (digits_of word) ≡ true → limit ≤ value_of word → WordCase limit word
  small : is_numeral (base_of word) (digits_of word) ≡ true → value_of word < limit → WordCase limit word

pub word_case : (limit : ℕ) (word : List ℕ) → WordCase limit word
word_case limit word =
    elim (cases_Bool (is_numeral (base_of word) (digits_of word))) [
      | inr other ↦ unread other
      | inl numeral ↦ elim (cases_lt (value_of word) limit) [ inl below ↦ small numeral below | inr above ↦ large numeral above ]
    ]

pub unread_is : (limit : ℕ) (word : List ℕ) → is_numeral (base_of word) (digits_of word) ≡ false → number_below limit word ≡ Err NotANumber
unread_is limit word other = sym (number_unread word _ _ limit refl refl other)

-- A number that was read below a limit, against a lower one.
pub narrow_fault : (wide limit : ℕ) (words : List (List ℕ)) (e : Unreadable) → limit ≤ wide → meaning.number wide words ≡ Err e → meaning.number limit words ≡ Err e
narrow_fault wide limit [] e below h = number_none limit ∙ sym (number_none wide) ∙ h
narrow_fault wide limit (word ∷ rest) e below h =
    elim (word_case wide word) [
      | unread other ↦ number_err limit word rest (unread_is limit word other) ∙ sym (number_err wide word rest (unread_is wide word other)) ∙ h
      | large numeral above ↦ number_err limit word rest (number_large word limit numeral (omega arith)) ∙ sym (number_err wide word rest (number_large word wide numeral above)) ∙ h
      | small numeral under ↦ (let k = sym (number_ok wide word rest (number_small word wide numeral under)) ∙ h in absurd cc)
    ]

pub narrow : (wide limit : ℕ) (words : List (List ℕ)) (n : ℕ) (rest : List (List ℕ)) → limit ≤ wide → meaning.number wide words ≡ Ok (n, rest) → (n < limit → meaning.number limit words ≡ Ok (n, rest)) × (limit ≤ n → meaning.number limit words ≡ Err TooLarge)
narrow wide limit [] n rest below h = (let k = sym (number_none wide) ∙ h in absurd cc)
narrow wide limit (word ∷ others) n rest below h =
    elim (word_case wide word) [
      | unread other ↦ (let k = sym (number_err wide word others (unread_is wide word other)) ∙ h in absurd cc)
      | large numeral above ↦ (let k = sym (number_err wide word others (number_large word wide numeral above)) ∙ h in absurd cc)
      | small numeral under ↦
          (let k = sym (number_ok wide word others (number_small word wide numeral under)) ∙ h in
          let pair : ◌≡◌ {A = ℕ × List (List ℕ)} (value_of word, others) (n, rest) = cc in
          let value : value_of word ≡ n = ap (λ (p : ℕ × List (List ℕ)). p.0) pair in
          (λ fits. number_ok limit word others (number_small word limit numeral (omega arith)) ∙ k, λ exceeds. number_err limit word others (number_large word limit numeral (omega arith))))
    ]

-- What the code's calls gave.
pub missing_is : {T : Type 0} {e fault : Unreadable} (o : Option T) → o ≡ None → ◌≡◌ {A = Result T Unreadable} (Err e) (ok_or o fault) → e ≡ fault
missing_is {T} {e} {fault} o is h = (let k : ◌≡◌ {A = Result T Unreadable} (Err e) (Err fault) = h ∙ ap (λ p. ok_or p fault) is in cc)

pub read_missing : (limit : ℕ) (before after : Words) (r : Option (Bor (List ℕ))) → YieldsFirstRef left before r after → r ≡ None → meaning.number limit (left before) ≡ Err MissingWord
read_missing limit before after r steps is = (let ends = rw is at steps in rw ends.0 (number_none limit))

pub read_number : (limit : ℕ) (before after : Words) (r : Option (Bor (List ℕ))) (word : Bor (List ℕ)) (answer : Result ℕ Unreadable) → YieldsFirstRef left before r after → r ≡ Some word → answer ≡ number_below limit word.now → IsRead (meaning.number limit) before answer after
read_number limit before after r word (Ok n) steps is h = (let first : left before ≡ word.now ∷ left after = rw is at steps in rw first (number_ok limit word.now (left after) (sym h)))
read_number limit before after r word (Err e) steps is h = (let first : left before ≡ word.now ∷ left after = rw is at steps in rw first (number_err limit word.now (left after) (sym h)))

pub read_narrow : (wide limit : ℕ) (before after : Words) (n : ℕ) (answer : Result ℕ Unreadable) → limit ≤ wide → meaning.number wide (left before) ≡ Ok (n, left after) → MatchResult answer (λ p. (n < limit) × (p ≡ n)) (λ e. (limit ≤ n) × (e ≡ TooLarge)) → IsRead (meaning.number limit) before answer after
read_narrow wide limit before after n (Ok p) below h is = rw is.1 ((narrow wide limit (left before) n (left after) below h).0 is.0)
read_narrow wide limit before after n (Err e) below h is = rw is.1 ((narrow wide limit (left before) n (left after) below h).1 is.0)

-- ---- names

-- The name in front decides.
pub named_at : (before after : Words) (r : Option (Bor (List ℕ))) (name : Bor (List ℕ)) (text literal : List ℕ) → YieldsFirstRef left before r after → r ≡ Some name → text ≡ name.now → text ≡ literal → meaning.command (left before) ≡ meaning.named literal (left after)
unfolding meaning.command
named_at before after r name text literal steps is same known =
    let first : left before ≡ name.now ∷ left after = rw is at steps in
    rw (first, ← same, known, meaning.command)

pub command_none : (before after : Words) (r : Option (Bor (List ℕ))) → YieldsFirstRef left before r after → r ≡ None → meaning.command (left before) ≡ Err EmptyLine
unfolding meaning.command
command_none before after r steps is = (let ends = rw is at steps in rw ends.0)

pub differs : (name text : List ℕ) → (name ≡ text → ⊥) → bytes_eq name text ≡ false
differs name text other = false_from_ne_true _ (λ t. other ((bytes_eq-Decides name text).0 t))

-- A name is none of these.
abbrev pub IsOther : List ℕ → Type 0
IsOther name = ((name ≡ codes "outb" → ⊥) × (name ≡ codes "inb" → ⊥) × (name ≡ codes "clock_step" → ⊥) × (name ≡ codes "iack" → ⊥) × (name ≡ codes "irq" → ⊥) × (name ≡ codes "queue" → ⊥) × (name ≡ codes "state" → ⊥) × (name ≡ codes "help" → ⊥) × (name ≡ codes "quit" → ⊥))

pub unknown : (name : List ℕ) (words : List (List ℕ)) → IsOther name → meaning.named name words ≡ Err UnknownCommand
unfolding meaning.named
unknown name words h =
    rw (differs name _ h.0, differs name _ h.1, differs name _ h.2, differs name _ h.3, differs name _ h.4, differs name _ h.5, differs name _ h.6, differs name _ h.7, differs name _ h.8, meaning.named)

-- The names are text.
pub other_bytes : (name : List ℕ) → (IsUtf8 name → ⊥) → IsOther name
other_bytes name bytes =
    let other : (text : List ℕ) → IsAscii text → name ≡ text → ⊥ = λ text ascii e. bytes (rw e (IsUtf8-from_ascii text ascii)) in
    (other _ (search rules), other _ (search rules), other _ (search rules), other _ (search rules), other _ (search rules), other _ (search rules), other _ (search rules), other _ (search rules), other _ (search rules))
