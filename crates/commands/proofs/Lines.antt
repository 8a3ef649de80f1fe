-- What a line means, from what was read off its words.
use Rattle.std.proofs.Common.{◌≡◌, ℕ, ◌↔◌, List, [], ◌∷◌, Ok, Err, Result, refl, sym, ap, ◌∙◌}
use Rattle.std.specs.Result.{IsErrAnd}
use Rattle.std.proofs.lemmas.Result.{err_from_is_err_and}
use Rattle.commands.specs.Words.{words_of_line}
use Rattle.commands.specs.Meaning as meaning
use Rattle.commands.specs.Grammar.{Spells}
use Rattle.commands.specs.declared.command.Command.{Command}
use Rattle.commands.specs.declared.command.Unreadable.{Unreadable}
use Rattle.commands.specs.declared.command.Unreadable.TheVariants.{ExtraWord}
use Rattle.commands.proofs.Spelling.{spelled_reads, reads_spelled}

module _ (line : List ℕ) where
  pub fault_means : (r : Result Command Unreadable) {e : Unreadable} → IsErrAnd r (λ y. y ≡ e) → meaning.command (words_of_line line) ≡ Err e → r ≡ meaning.meaning line
  unfolding meaning.meaning meaning.and_then
  fault_means r is h = (let p = err_from_is_err_and r is in rw (p.1, p.2, h, meaning.meaning, meaning.and_then))

  pub fault_behind : (r : Result Command Unreadable) {e : Unreadable} (c : Command) (rest : List (List ℕ)) → IsErrAnd r (λ y. y ≡ e) → meaning.command (words_of_line line) ≡ Ok (c, rest) → meaning.end rest ≡ Err e → r ≡ meaning.meaning line
  unfolding meaning.meaning meaning.and_then
  fault_behind r c rest is h k = (let p = err_from_is_err_and r is in rw (p.1, p.2, h, k, meaning.meaning, meaning.and_then))

  pub command_means : (c : Command) (rest after : List (List ℕ)) → meaning.command (words_of_line line) ≡ Ok (c, rest) → meaning.end rest ≡ Ok (tt, after) → Ok c ≡ meaning.meaning line
  unfolding meaning.meaning meaning.and_then
  command_means c rest after h k = rw (h, k, meaning.meaning, meaning.and_then)

  by_rest : (c d : Command) (rest : List (List ℕ)) → meaning.command (words_of_line line) ≡ Ok (d, rest) → meaning.meaning line ≡ Ok c → meaning.command (words_of_line line) ≡ Ok (c, [])
  unfolding meaning.meaning meaning.and_then meaning.end
  by_rest c d [] e h = (let k : Ok d ≡ Ok c = rw (e, meaning.meaning, meaning.and_then) at h in let same : d ≡ c = cc in e ∙ ap (λ x. Ok (x, [])) same)
  by_rest c d (w ∷ ws) e h = (let k : Err ExtraWord ≡ Ok c = rw (e, meaning.meaning, meaning.and_then) at h in absurd cc)

  by_command : (c : Command) (r : Result (Command × List (List ℕ)) Unreadable) → meaning.command (words_of_line line) ≡ r → meaning.meaning line ≡ Ok c → meaning.command (words_of_line line) ≡ Ok (c, [])
  unfolding meaning.meaning meaning.and_then
  by_command c (Ok p) e h = by_rest c p.0 p.1 e h
  by_command c (Err f) e h = (let k : Err f ≡ Ok c = rw (e, meaning.meaning, meaning.and_then) at h in absurd cc)

  pub spells_means : (c : Command) → Spells line c → meaning.meaning line ≡ Ok c
  unfolding meaning.end
  spells_means c s = sym (command_means c [] [] (ap meaning.command s.words ∙ spelled_reads c s.arguments s.numbers) refl)

  pub means_spells : (c : Command) → meaning.meaning line ≡ Ok c → Spells line c
  means_spells c h =
      let s = reads_spelled c (words_of_line line) (by_command c (meaning.command (words_of_line line)) refl h) in
      record { arguments = s.0; words = s.1; numbers = s.2 }

  pub spelled : (r : Result Command Unreadable) → r ≡ meaning.meaning line → (c : Command) → (r ≡ Ok c) ↔ Spells line c
  spelled r e c = (λ h. means_spells c (sym e ∙ h), λ s. e ∙ spells_means c s)
