use Rattle.std.proofs.Common.{◌≡◌, Some, rules}
use Rattle.rules.specs.I8259 as rules
use Rattle.i8259.proofs.Requested.{none_asks, answers_request}
use Rattle.i8259.proofs.chip.Chip.request.Goals as goal

pub returns-in_err-asking-clause-law : goal.returns-in_err-asking-clause-law
returns-in_err-asking-clause-law c = search (rules, none_asks c.args.self.now)

pub returns-clause-law : goal.returns-clause-law
returns-clause-law c =
    let e : c.then_some.result ≡ rules.request c.args.self.now = search rules in
    answers_request c.args.self.now (search rules) (Some c.in_ok-asking.asking) c.first_after-serving.result c.then_some.result
    (search rules) (search rules) (search rules) (search rules) e
