use Rattle.lines.proofs.Printing.{printed_then}
use Rattle.lines.proofs.output.Output.advanced.Goals as goal

pub returns : goal.returns
returns c = printed_then c.mark.ensures (printed_then c.decimal.ensures (printed_then c.byte.ensures (printed_then c.decimal-2.ensures c.byte-2.ensures)))
