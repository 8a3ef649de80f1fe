use Rattle.lines.proofs.Printing.{printed_then}
use Rattle.lines.proofs.output.Output.access.Goals as goal

pub returns : goal.returns
returns c = printed_then c.mark.ensures (printed_then c.hex_port.ensures (printed_then c.byte.ensures (printed_then c.hex_byte.ensures c.byte-2.ensures)))
