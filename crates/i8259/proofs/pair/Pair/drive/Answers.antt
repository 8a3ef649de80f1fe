use Rattle.std.proofs.Common.{rules}
use Rattle.i8259.proofs.Lines.{lines_driven}
use Rattle.i8259.proofs.pair.Pair.drive.Goals as goal

pub returns : goal.returns
returns c =
    lines_driven c.args.lines c.args.self.now c.drive_all.new.self c.drive_all-2.new.self c.requests.result
    (search rules) (search rules) (search rules)
