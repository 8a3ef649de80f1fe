use Rattle.std.proofs.Common.{decimal, ap, ◌∙◌}
use Rattle.rules.specs.Refusals.{letter}
use Rattle.lines.proofs.Printing.{printed_then, printed_as, printed_byte}
use Rattle.lines.proofs.output.Output.refused.Goals as goal

pub returns : goal.returns
returns c = printed_then c.mark.ensures (printed_then (printed_as (ap decimal (c.from.ensures ∙ c.number.ensures)) c.decimal.ensures) (printed_then c.byte.ensures (printed_then (printed_byte (c.letter.ensures ∙ ap letter c.layer.ensures) c.byte-2.ensures) (printed_then c.byte-3.ensures (printed_then c.decimal-2.ensures c.byte-4.ensures)))))
