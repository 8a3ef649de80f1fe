use Rattle.lines.proofs.Printing.{printed_then, printed_byte}
use Rattle.lines.proofs.output.Output.hex_byte.Goals as goal

pub returns : goal.returns
returns c = printed_then (printed_byte c.hex_digit.ensures c.byte.ensures) (printed_byte c.hex_digit-2.ensures c.byte-2.ensures)
