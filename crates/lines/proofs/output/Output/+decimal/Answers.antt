use Rattle.std.proofs.Common.{sym, arith}
use Rattle.std.proofs.lemmas.Fmt.{decimal_step, decimal_digit}
use Rattle.lines.proofs.output.Output.+decimal.Goals.{then-n-ge10, else-n-ge10}
use Rattle.lines.proofs.Printing.{printed_then, printed_as, printed_byte, printed_from, printed_to}
use Rattle.lines.proofs.output.Output.+decimal.Goals as goal

pub returns : goal.returns
returns t c =
    elim c.if-n-ge10.branch [
      | then-n-ge10 w ↦ printed_as (sym (decimal_step c.args.n (omega arith) (omega arith))) (printed_then (printed_to (sym w.self-is) w.decimal.ensures) c.byte.ensures)
      | else-n-ge10 w ↦ printed_as (sym (decimal_digit c.args.n (omega arith))) (printed_byte (omega arith) (printed_from w.self-is c.byte.ensures))
    ]
