use Rattle.std.proofs.Common.{◌≡◌, ◌∷◌, length, not, sym, ap, arith}
use Rattle.std.proofs.lemmas.List.Sums.{prefix_len-le-length}
use Rattle.commands.specs.Words.{is_blank, words}
use Rattle.commands.specs.Reading.{left}
use Rattle.commands.proofs.Splitting.{next_word, no_word}
use Rattle.commands.proofs.words.WordsIterator.next.Goals as goal

pub returns-in_err-word_start-clause-steps : goal.returns-in_err-word_start-clause-steps
returns-in_err-word_start-clause-steps c =
    let none = no_word c.args.self.now.rest.now (sym c.in_err-word_start.ensures) in
    rw c.from_residual.ensures (none, none)

pub split_at-requires-2 : goal.split_at-requires-2
split_at-requires-2 c =
    omega (arith, c.word_end.ensures, prefix_len-le-length (λ byte. not (is_blank byte)) c.split_at.result.1.now)

taken : (c : goal.After-self-1) → left c.args.self.now ≡ c.split_at-2.result.0.now ∷ words c.split_at-2.result.1.now
taken c =
    let text = c.split_at.ensures.back in
    rw (c.split_at-2.ensures.front, c.split_at-2.ensures.back, c.word_end.ensures, text) (next_word c.args.self.now.rest.now _ (sym c.in_ok-word_start.ensures))

pub returns-clause-steps : goal.returns-clause-steps
returns-clause-steps c = taken c

pub returns-clause-goes : goal.returns-clause-goes
returns-clause-goes c = record { on = λ _. (tt, tt, omega (arith, ap length (taken c))); keeps = tt; rests = λ _. tt }
