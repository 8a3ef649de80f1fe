use Rattle.std.proofs.Common.{rules}
use Rattle.i8259.proofs.Driven.{all_driven}
use Rattle.i8259.proofs.chip.Chip.drive_all.Goals as goal

pub returns : goal.returns
returns c = search (rules, all_driven c.args.levels c.args.self.now)
