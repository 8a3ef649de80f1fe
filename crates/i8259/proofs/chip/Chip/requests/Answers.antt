use Rattle.std.proofs.Common.{sym, ◌∙◌, rules}
use Rattle.i8259.proofs.Requested.{nothing_requests}
use Rattle.i8259.proofs.chip.Chip.requests.Goals as goal

pub returns-else-self-ne0 : goal.returns-else-self-ne0
returns-else-self-ne0 c = search (rules, nothing_requests c.args.self.now)
