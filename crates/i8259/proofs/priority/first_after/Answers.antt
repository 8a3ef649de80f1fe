use Rattle.std.proofs.Common.{rules, refl, sym, ap, ◌∙◌, ◌+◌, ◌%◌, tests}
use Rattle.std.proofs.lemmas.Iterator.{YieldsList-from_map, YieldsList-from_range}
use Rattle.std.proofs.lemmas.Iterator.Adapters.{option_map_id}
use Rattle.std.proofs.lemmas.Iterator.Consumers.{YieldsList-at}
use Rattle.std.proofs.lemmas.Iterator.Search.{find_from_yields_List}
use Rattle.rules.specs.I8259.{bit, first}
use Rattle.i8259.proofs.Searched.{found_nothing, in_turn, answers_first}
use Rattle.i8259.proofs.priority.first_after.Goals as goal

pub returns-then-register-eq0-clause-found : goal.returns-then-register-eq0-clause-found
returns-then-register-eq0-clause-found c =
    sym (ap (λ n. first c.args.lowest n) c.if-register-eq0.true ∙ found_nothing 8 ((c.args.lowest + 1) % 8))

pub returns : goal.returns
returns c =
    let in_list =
    find_from_yields_List (bit c.args.register) _ _ c.find.result c.find.ensures.ran
    (YieldsList-from_map _ (λ n. (c.args.lowest + 1 + n) % 8) (YieldsList-at c.map.ensures.source (YieldsList-from_range 0 8 8 refl refl))
    c.map.ensures.closure (λ x r q k. search (rules, tests)))
    (λ x b q k. search (rules, tests)) in
    let e = sym (option_map_id c.find.result) ∙ (in_list ∙ in_turn c.args.lowest c.args.register) in
    record { found = e; law = answers_first c.args.lowest c.args.register c.find.result (search rules) e }
