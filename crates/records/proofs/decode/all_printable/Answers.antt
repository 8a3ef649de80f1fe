use Rattle.std.proofs.Common.{◌∙◌, rules, tests}
use Rattle.std.proofs.lemmas.Iterator.{YieldsList-from_slice}
use Rattle.std.proofs.lemmas.Iterator.Search.{all_from_yields_List}
use Rattle.rules.specs.Trace.{printable}
use Rattle.records.proofs.Decoding.{list_all_printable}
use Rattle.records.proofs.decode.all_printable.Goals as goal

pub returns : goal.returns
returns c = all_from_yields_List printable _ _ _ c.all.ensures.ran (YieldsList-from_slice c.args.text.now cc) (λ x b q k. search (rules, tests)) ∙ list_all_printable c.args.text.now
