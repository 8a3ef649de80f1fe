-- A command that is written out reads back.
use Rattle.std.proofs.Common.{◌≡◌, ℕ, zero, suc, ◌-◌, ◌^◌, ◌<◌, ◌≤◌, true, false, List, [], ◌∷◌, ◌++◌, length, get_or, Ok, codes, decimal, lit<, lit≤, nat_le, inl, ap, ◌∙◌, refl, arith}
use Rattle.std.specs.List.{All, list_all}
use Rattle.std.specs.Str.Lines.{strip_carriage_return}
use Rattle.std.specs.Str.Parse.{AllDigits}
use Rattle.std.proofs.lemmas.Bool.{and_parts, leb-true, ne_eqb, or_from, cond-false}
use Rattle.std.proofs.lemmas.Fmt.{decimal_is_IsNumeral}
use Rattle.std.proofs.lemmas.Str.Parse.{digit_from_value}
use Rattle.commands.specs.Words.{is_blank, words}
use Rattle.commands.specs.Grammar.{WriteEach, Number, name_of, numbers_of, written_behind, written, Fit}
use Rattle.commands.specs.declared.command.Command.{Command}
use Rattle.commands.specs.declared.command.Command.TheVariants.{Outb, Inb, ClockStep, Iack, Irq, Queue, State, Help, Quit}
use Rattle.commands.specs.Meaning.{meaning}
use Rattle.commands.proofs.Lines.{spells_means}
use Rattle.commands.proofs.Splitting.{words_one, words_more}

-- Every byte is m or above.
abbrev Over : ℕ → List ℕ → Type 0
Over m [] = Unit {0}
Over m (b ∷ bs) = (m ≤ b) × Over m bs

over_append : (m : ℕ) (xs ys : List ℕ) → Over m xs → Over m ys → Over m (xs ++ ys)
over_append m [] ys h k = k
over_append m (x ∷ xs) ys h k = (h.0, over_append m xs ys h.1 k)

over_less : (m n : ℕ) (xs : List ℕ) → n ≤ m → Over m xs → Over n xs
over_less m n [] le h = tt
over_less m n (x ∷ xs) le h = (omega (arith, h.0), over_less m n xs le h.1)

over_digits : (ds : List ℕ) → AllDigits 10 ds → Over 48 ds
over_digits [] h = tt
over_digits (c ∷ cs) h = (let range = digit_from_value c h.0 in omega (arith, range), over_digits cs h.1)

over_at : (m : ℕ) (xs : List ℕ) (k d : ℕ) → Over m xs → k < length xs → m ≤ get_or xs k d
over_at m [] k d h inside = absurd (omega arith)
over_at m (x ∷ xs) zero d h inside = h.0
over_at m (x ∷ xs) (suc k) d h inside = over_at m xs k d h.1 (omega arith)

-- No such text ends in a carriage return, or has a blank.
no_return : (text : List ℕ) → Over 32 text → strip_carriage_return text ≡ text
no_return [] h = refl
no_return (x ∷ xs) h =
    let last = over_at 32 (x ∷ xs) (length (x ∷ xs) - 1) 0 h (omega arith) in
    cond-false _ _ _ (ne_eqb (get_or (x ∷ xs) (length (x ∷ xs) - 1) 0) 13 (λ e. absurd (omega (arith, last, e))))

no_blank : (text : List ℕ) → Over 33 text → All (λ b. is_blank b ≡ false) text
no_blank text h = λ k d inside.
    let above = over_at 33 text k d h inside in
    or_from _ _ (ne_eqb (get_or text k d) 32 (λ e. absurd (omega (arith, above, e)))) (ne_eqb (get_or text k d) 9 (λ e. absurd (omega (arith, above, e))))

-- A text that is one word.
record IsToken (text : List ℕ) : Type 0 where
  some : 0 < length text
  plain : Over 33 text

decimal_is_token : (n : ℕ) → n < 2 ^ 64 → IsToken (decimal n)
decimal_is_token n h =
    let numeral = (decimal_is_IsNumeral n h).0 in
    record { some = numeral.0; plain = over_less 48 33 (decimal n) (lit≤ tt) (over_digits (decimal n) numeral.1) }

abbrev Small : List Number → Type 0
Small [] = Unit {0}
Small (n ∷ ns) = (n.value < 2 ^ 64) × Small ns

abbrev texts : List Number → List (List ℕ)
texts [] = []
texts (n ∷ ns) = decimal n.value ∷ texts ns

over_written : (text : List ℕ) (ns : List Number) → IsToken text → Small ns → Over 32 (written_behind text ns)
over_written text [] t h = over_less 33 32 text (lit≤ tt) t.plain
over_written text (n ∷ ns) t h =
    over_append 32 text _ (over_less 33 32 text (lit≤ tt) t.plain) (lit≤ tt, over_written (decimal n.value) ns (decimal_is_token n.value h.0) h.1)

words_written : (text : List ℕ) (ns : List Number) → IsToken text → Small ns → words (written_behind text ns) ≡ text ∷ texts ns
words_written [] ns t h = absurd (omega (arith, t.some))
words_written (c ∷ cs) [] t h = words_one c cs (no_blank (c ∷ cs) t.plain)
words_written (c ∷ cs) (n ∷ ns) t h =
    words_more c cs 32 (written_behind (decimal n.value) ns) (no_blank (c ∷ cs) t.plain) refl
    ∙ ap (λ ws. (c ∷ cs) ∷ ws) (words_written (decimal n.value) ns (decimal_is_token n.value h.0) h.1)

texts_write : (ns : List Number) → Small ns → Fit ns → WriteEach (texts ns) ns
texts_write [] small fit = tt
texts_write (n ∷ ns) small fit = (inl (decimal_is_IsNumeral n.value small.0), fit.0, texts_write ns small.1 fit.1)

over_tested : (m : ℕ) (text : List ℕ) → list_all (λ b. nat_le m b) text ≡ true → Over m text
over_tested m [] h = tt
over_tested m (b ∷ bs) h = (let p = and_parts _ _ h in (leb-true _ _ p.0, over_tested m bs p.1))

name_is_token : (c : Command) → IsToken (name_of c)
name_is_token (Outb port byte) = record { some = lit< tt; plain = over_tested 33 (codes "outb") refl }
name_is_token (Inb port) = record { some = lit< tt; plain = over_tested 33 (codes "inb") refl }
name_is_token (ClockStep n) = record { some = lit< tt; plain = over_tested 33 (codes "clock_step") refl }
name_is_token Iack = record { some = lit< tt; plain = over_tested 33 (codes "iack") refl }
name_is_token Irq = record { some = lit< tt; plain = over_tested 33 (codes "irq") refl }
name_is_token (Queue write) = record { some = lit< tt; plain = over_tested 33 (codes "queue") refl }
name_is_token State = record { some = lit< tt; plain = over_tested 33 (codes "state") refl }
name_is_token Help = record { some = lit< tt; plain = over_tested 33 (codes "help") refl }
name_is_token Quit = record { some = lit< tt; plain = over_tested 33 (codes "quit") refl }

small_numbers : (c : Command) → Fit (numbers_of c) → Small (numbers_of c)
small_numbers (Outb port byte) h = (omega (arith, h.0), (omega (arith, h.1.0), tt))
small_numbers (Inb port) h = (omega (arith, h.0), tt)
small_numbers (ClockStep n) h = (h.0, tt)
small_numbers Iack h = tt
small_numbers Irq h = tt
small_numbers (Queue write) h = (h.0, (omega (arith, h.1.0), (omega (arith, h.1.1.0), tt)))
small_numbers State h = tt
small_numbers Help h = tt
small_numbers Quit h = tt

pub reads_back : (c : Command) → Fit (numbers_of c) → meaning (written c) ≡ Ok c
reads_back c fit =
    let small = small_numbers c fit in
    let token = name_is_token c in
    let plain = no_return (written c) (over_written (name_of c) (numbers_of c) token small) in
    spells_means (written c) c (record {
      arguments = texts (numbers_of c);
      words = ap words plain ∙ words_written (name_of c) (numbers_of c) token small;
      numbers = texts_write (numbers_of c) small fit;
    })
