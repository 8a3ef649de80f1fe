use Rattle.std.proofs.Common.{◌++◌, length, take, drop, ap, ◌∙◌}
use Rattle.standard.proofs.Fitted.{printed_on}
use Rattle.standard.proofs.fitting.run_standard.Goals as goal

pub returns-clause-count : goal.returns-clause-count
returns-clause-count c =
    let room = length c.args.out.now in
    c.run_trace.ensures.count
    ∙ ap (λ lines. length (take room lines)) (printed_on room c.args.trace.now _ c.standard_board.ensures.board)

pub returns-clause-lines : goal.returns-clause-lines
returns-clause-lines c =
    let room = length c.args.out.now in
    c.run_trace.ensures.lines
    ∙ ap (λ lines. take room lines ++ drop c.run_trace.result c.args.out.now) (printed_on room c.args.trace.now _ c.standard_board.ensures.board)
