use Rattle.lines.proofs.Printing.{printed_then}
use Rattle.lines.proofs.output.Output.note.Goals as goal

pub returns : goal.returns
returns c = printed_then c.mark.ensures (printed_then c.text.ensures c.byte.ensures)
