-- A line means a command just where it is a spelling of it.
use Rattle.std.proofs.Common.{◌≡◌, ℕ, ◌^◌, true, false, List, [], ◌∷◌, ◌++◌, take, drop, Ok, Err, Result, codes, bytes_eq, inl, inr, subst, sym, ap, ◌∙◌, refl, arith}
use Rattle.std.specs.Str.Parse.{AllDigits, IsNumeral}
use Rattle.std.proofs.lemmas.Bool.{and_parts, and_from, and_left, and_right, cases_Bool, lt-ltb, ltb-true, ne_eqb, true≢false}
use Rattle.std.proofs.lemmas.List.{take-append-drop}
use Rattle.std.proofs.lemmas.Slice.Eq.{bytes_eq-Decides}
use Rattle.std.proofs.lemmas.Str.Parse.{digit_from_value}
use Rattle.commands.specs.Numbers.{is_hexadecimal, base_of, digits_of, is_numeral, value_of}
use Rattle.commands.specs.Meaning as meaning
use Rattle.commands.specs.Meaning.{Reads}
use Rattle.commands.specs.Grammar.{Writes, WriteEach, Number, of_bits, name_of, numbers_of}
use Rattle.commands.specs.declared.command.Command.{Command}
use Rattle.commands.specs.declared.command.Command.TheVariants.{Outb, Inb, ClockStep, Iack, Irq, Queue, State, Help, Quit}
use Rattle.commands.specs.declared.command.Unreadable.{Unreadable}
use Rattle.commands.specs.declared.command.Unreadable.TheVariants.{MissingWord, NotANumber, TooLarge}
use Rattle.commands.proofs.Digits.{AllDigits-from_test, test-from_AllDigits, number_small, number_large}
use Rattle.commands.proofs.Steps.{number_ok, number_err, number_none, unread, large, small, word_case, unread_is, unknown}

-- ---- numerals

numeral_test : (base : ℕ) (ds : List ℕ) → IsNumeral base ds → is_numeral base ds ≡ true
numeral_test base ds h = and_from _ _ (lt-ltb _ _ h.0) (test-from_AllDigits base ds h.1)

tested_numeral : (base : ℕ) (ds : List ℕ) → is_numeral base ds ≡ true → IsNumeral base ds
tested_numeral base ds h = (let p = and_parts _ _ h in (ltb-true _ _ p.0, AllDigits-from_test base ds p.1))

-- Decimal digits don't start with 0x.
decimal_is : (word : List ℕ) → AllDigits 10 word → is_hexadecimal word ≡ false
decimal_is [] h = refl
decimal_is (a ∷ []) h = and_right _ _ refl
decimal_is (a ∷ b ∷ ds) h =
    let range = digit_from_value b h.1.0 in
    and_right _ _ (and_left _ _ (ne_eqb b 120 (λ e. absurd (omega (arith, range, e)))))

written_numeral : (word : List ℕ) (n : ℕ) → Writes word n → (is_numeral (base_of word) (digits_of word) ≡ true) × (value_of word ≡ n)
written_numeral word n h =
    elim h [
      | inl d ↦ (let plain = decimal_is word d.0.1 in (rw plain (numeral_test 10 word d.0), rw plain d.1))
      | inr x ↦ (rw x.1 (numeral_test 16 x.0 x.2), rw x.1 x.3)
    ]

numeral_writes : (word : List ℕ) → is_numeral (base_of word) (digits_of word) ≡ true → Writes word (value_of word)
numeral_writes word h =
    elim (cases_Bool (is_hexadecimal word)) [
      | inl hex ↦
          (let front : take 2 word ≡ codes "0x" = (bytes_eq-Decides (take 2 word) (codes "0x")).0 hex in
          let whole : word ≡ codes "0x" ++ drop 2 word = sym (take-append-drop 2 word) ∙ ap (λ t. t ++ drop 2 word) front in
          let numeral : is_numeral 16 (drop 2 word) ≡ true = rw hex at h in
          inr (drop 2 word, whole, tested_numeral 16 (drop 2 word) numeral, rw hex refl))
      | inr plain ↦
          (let numeral : is_numeral 10 word ≡ true = rw plain at h in
          inl (tested_numeral 10 word numeral, rw plain refl))
    ]

-- ---- numbers, one after the other

module _ (bits : ℕ) {A : Type 0} (next : ℕ → Reads A) where
  -- A number that was read: its word writes it, it fits, and so the words in front are those of one more number.
  taken : (words : List (List ℕ)) (r : A × List (List ℕ)) → meaning.and_then (meaning.number (2 ^ bits)) next words ≡ Ok r → (n : ℕ) × (rest : List (List ℕ)) × (next n rest ≡ Ok r) × ((ns : List Number) → WriteEach rest ns → WriteEach words (of_bits bits n ∷ ns))
  unfolding meaning.and_then
  taken [] r h = (let k : Err MissingWord ≡ Ok r = rw (number_none (2 ^ bits), meaning.and_then) at h in absurd cc)
  taken (word ∷ rest) r h =
      elim (word_case (2 ^ bits) word) [
        | unread other ↦ (let k : Err NotANumber ≡ Ok r = rw (number_err (2 ^ bits) word rest (unread_is (2 ^ bits) word other), meaning.and_then) at h in absurd cc)
        | large numeral above ↦ (let k : Err TooLarge ≡ Ok r = rw (number_err (2 ^ bits) word rest (number_large word (2 ^ bits) numeral above), meaning.and_then) at h in absurd cc)
        | small numeral under ↦
            (value_of word, rest, rw (number_ok (2 ^ bits) word rest (number_small word (2 ^ bits) numeral under), meaning.and_then) at h, λ ns each. (numeral_writes word numeral, under, each))
      ]

  -- And back: where the words in front are those of one more number, it is read.
  given : (n : ℕ) (ns : List Number) (words : List (List ℕ)) → WriteEach words (of_bits bits n ∷ ns) → (rest : List (List ℕ)) × WriteEach rest ns × (meaning.and_then (meaning.number (2 ^ bits)) next words ≡ next n rest)
  unfolding meaning.and_then
  given n ns [] h = absurd h
  given n ns (word ∷ rest) h =
      let (numeral, value) = written_numeral word n h.0 in
      let read = number_ok (2 ^ bits) word rest (number_small word (2 ^ bits) numeral (omega (arith, value, h.1)) ∙ ap (λ m. Ok m) value) in
      (rest, h.2, rw (read, meaning.and_then))

none_left : (words : List (List ℕ)) → WriteEach words [] → words ≡ []
none_left [] h = refl
none_left (word ∷ words) h = absurd h

-- ---- commands

pub spelled_reads : (c : Command) (words : List (List ℕ)) → WriteEach words (numbers_of c) → meaning.command (name_of c ∷ words) ≡ Ok (c, [])
unfolding meaning.command meaning.named
spelled_reads (Outb port byte) words h =
    let (more, each, first) = given 16 _ port _ words h in
    let (rest, last, second) = given 8 _ byte [] more each in
    first ∙ second ∙ ap (λ ws. Ok (Outb port byte, ws)) (none_left rest last)
spelled_reads (Inb port) words h =
    let (rest, last, first) = given 16 _ port [] words h in
    first ∙ ap (λ ws. Ok (Inb port, ws)) (none_left rest last)
spelled_reads (ClockStep n) words h =
    let (rest, last, first) = given 64 _ n [] words h in
    first ∙ ap (λ ws. Ok (ClockStep n, ws)) (none_left rest last)
spelled_reads Iack words h = ap (λ ws. Ok (Iack, ws)) (none_left words h)
spelled_reads Irq words h = ap (λ ws. Ok (Irq, ws)) (none_left words h)
spelled_reads (Queue write) words h =
    let (more, each, first) = given 64 _ write.tick _ words h in
    let (most, every, second) = given 16 _ write.port _ more each in
    let (rest, last, third) = given 8 _ write.byte [] most every in
    first ∙ second ∙ third ∙ ap (λ ws. Ok (Queue write, ws)) (none_left rest last)
spelled_reads State words h = ap (λ ws. Ok (State, ws)) (none_left words h)
spelled_reads Help words h = ap (λ ws. Ok (Help, ws)) (none_left words h)
spelled_reads Quit words h = ap (λ ws. Ok (Quit, ws)) (none_left words h)

-- The words behind a name are those of the command's numbers.
abbrev IsWritten : Command → List ℕ → List (List ℕ) → Type 0
IsWritten c name words = (name_of c ≡ name) × WriteEach words (numbers_of c)

-- The command that was read with no word left.
module _ (c : Command) (words : List (List ℕ)) where
  last_read : (d : Command) (name : List ℕ) (rest : List (List ℕ)) → ◌≡◌ {A = Result (Command × List (List ℕ)) Unreadable} (Ok (d, rest)) (Ok (c, [])) → name_of d ≡ name → (WriteEach rest [] → WriteEach words (numbers_of d)) → IsWritten c name words
  last_read d name rest h named written =
      let same : ◌≡◌ {A = Command × List (List ℕ)} (d, rest) (c, []) = cc in
      let none : rest ≡ [] = ap (λ (p : Command × List (List ℕ)). p.1) same in
      subst (λ (x : Command). IsWritten x name words) (ap (λ (p : Command × List (List ℕ)). p.0) same) (named, written (rw none tt))

  abbrev Reads_as : List ℕ → Type 0
  Reads_as name = meaning.named name words ≡ Ok (c, []) → IsWritten c name words

  read_outb : Reads_as (codes "outb")
  unfolding meaning.named
  read_outb h =
      let (p, more, second, port) = taken 16 _ words _ h in
      let (b, rest, last, byte) = taken 8 _ more _ second in
      last_read (Outb p b) _ rest last refl (λ w. port _ (byte _ w))

  read_inb : Reads_as (codes "inb")
  unfolding meaning.named
  read_inb h = (let (p, rest, last, port) = taken 16 _ words _ h in last_read (Inb p) _ rest last refl (λ w. port _ w))

  read_clock_step : Reads_as (codes "clock_step")
  unfolding meaning.named
  read_clock_step h = (let (n, rest, last, ticks) = taken 64 _ words _ h in last_read (ClockStep n) _ rest last refl (λ w. ticks _ w))

  read_iack : Reads_as (codes "iack")
  unfolding meaning.named
  read_iack h = last_read Iack _ words h refl (λ w. w)

  read_irq : Reads_as (codes "irq")
  unfolding meaning.named
  read_irq h = last_read Irq _ words h refl (λ w. w)

  read_queue : Reads_as (codes "queue")
  unfolding meaning.named
  read_queue h =
      let (t, more, second, tick) = taken 64 _ words _ h in
      let (p, most, third, port) = taken 16 _ more _ second in
      let (b, rest, last, byte) = taken 8 _ most _ third in
      last_read (Queue (record { tick = t; port = p; byte = b })) _ rest last refl (λ w. tick _ (port _ (byte _ w)))

  read_state : Reads_as (codes "state")
  unfolding meaning.named
  read_state h = last_read State _ words h refl (λ w. w)

  read_help : Reads_as (codes "help")
  unfolding meaning.named
  read_help h = last_read Help _ words h refl (λ w. w)

  read_quit : Reads_as (codes "quit")
  unfolding meaning.named
  read_quit h = last_read Quit _ words h refl (λ w. w)

  -- Either the name is this text, or it is another.
  module _ (name : List ℕ) (h : meaning.named name words ≡ Ok (c, [])) where
    by_name : (text : List ℕ) → Reads_as text → ((name ≡ text → ⊥) → IsWritten c name words) → IsWritten c name words
    by_name text reads other =
        elim (cases_Bool (bytes_eq name text)) [
          | inl t ↦ (let same = (bytes_eq-Decides name text).0 t in rw same (reads (rw same at h)))
          | inr f ↦ other (λ e. absurd (true≢false (sym ((bytes_eq-Decides name text).1 e) ∙ f)))
        ]

    read_named : IsWritten c name words
    read_named =
        by_name _ read_outb (λ a. by_name _ read_inb (λ b. by_name _ read_clock_step (λ d. by_name _ read_iack (λ e.
        by_name _ read_irq (λ f. by_name _ read_queue (λ g. by_name _ read_state (λ i. by_name _ read_help (λ j. by_name _ read_quit (λ l.
        let k = sym (unknown name words (a, b, d, e, f, g, i, j, l)) ∙ h in absurd cc)))))))))

-- The words of a command: its name, and words that write its numbers.
pub reads_spelled : (c : Command) (words : List (List ℕ)) → meaning.command words ≡ Ok (c, []) → (arguments : List (List ℕ)) × (words ≡ name_of c ∷ arguments) × WriteEach arguments (numbers_of c)
unfolding meaning.command
reads_spelled c [] h = absurd cc
reads_spelled c (name ∷ words) h = (let (named, each) = read_named c words name h in (words, ap (λ n. n ∷ words) (sym named), each))
