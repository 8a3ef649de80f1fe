use Rattle.lines.proofs.Printing.{printed_then}
use Rattle.lines.proofs.output.Output.acknowledged.Goals as goal

pub returns : goal.returns
returns c = printed_then c.mark.ensures (printed_then c.hex_byte.ensures c.byte.ensures)
