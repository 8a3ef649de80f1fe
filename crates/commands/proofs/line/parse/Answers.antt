use Rattle.commands.specs.Reading.{left}
use Rattle.commands.proofs.Lines.{fault_means, fault_behind, command_means, spelled}
use Rattle.commands.proofs.line.parse.Goals as goal

pub returns-in_err-command-clause-meaning : goal.returns-in_err-command-clause-meaning
returns-in_err-command-clause-meaning c =
    fault_means c.args.line.now _ c.from_residual.ensures.1 (rw (← c.text_of.ensures, ← c.new-words.ensures) c.in_err-command.ensures)

pub returns-in_err-command-clause-taken : goal.returns-in_err-command-clause-taken
returns-in_err-command-clause-taken c = spelled c.args.line.now _ (returns-in_err-command-clause-meaning c)

pub returns-in_err-end-clause-meaning : goal.returns-in_err-end-clause-meaning
returns-in_err-end-clause-meaning c =
    fault_behind c.args.line.now _ c.in_ok-command.command (left c.command.new.words) c.from_residual-in_err-end.ensures.1 (rw (← c.text_of.ensures, ← c.new-words.ensures) c.in_ok-command.ensures) c.in_err-end.ensures

pub returns-in_err-end-clause-taken : goal.returns-in_err-end-clause-taken
returns-in_err-end-clause-taken c = spelled c.args.line.now _ (returns-in_err-end-clause-meaning c)

pub returns-clause-meaning : goal.returns-clause-meaning
returns-clause-meaning c =
    command_means c.args.line.now c.in_ok-command.command (left c.command.new.words) _ (rw (← c.text_of.ensures, ← c.new-words.ensures) c.in_ok-command.ensures) c.in_ok-end.ensures

pub returns-clause-taken : goal.returns-clause-taken
returns-clause-taken c = spelled c.args.line.now _ (returns-clause-meaning c)
