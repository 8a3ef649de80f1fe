use Rattle.lines.proofs.Printing.{printed_then, printed_as, port_bytes}
use Rattle.lines.proofs.output.Output.hex_port.Goals as goal

pub returns : goal.returns
returns c = printed_as (port_bytes c.args.port c.to_be_bytes.ensures) (printed_then c.hex_byte.ensures c.hex_byte-2.ensures)
