use Rattle.std.proofs.Common.{length, rules, tests, ap, ◌∙◌}
use Rattle.std.specs.Option.{unwrap_or}
use Rattle.std.proofs.lemmas.Iterator.{YieldsList-from_slice}
use Rattle.std.proofs.lemmas.Iterator.Search.{position_from_yields_List}
use Rattle.commands.proofs.Splitting.{position_or_all}
use Rattle.commands.specs.Words.{is_blank}
use Rattle.commands.proofs.words.word_end.Goals as goal

pub returns : goal.returns
returns c =
    let text = c.args.text.now in
    c.unwrap_or.ensures
    ∙ ap (λ r. unwrap_or r (length text)) (position_from_yields_List is_blank _ _ c.position.result c.position.ensures.ran (YieldsList-from_slice text c.iter.ensures.rest) (λ x b q k. search (rules, tests)))
    ∙ position_or_all is_blank text
