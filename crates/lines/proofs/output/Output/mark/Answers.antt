use Rattle.lines.proofs.Printing.{printed_then}
use Rattle.lines.proofs.output.Output.mark.Goals as goal

pub returns : goal.returns
returns c = printed_then c.byte.ensures c.byte-2.ensures
