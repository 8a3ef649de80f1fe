use Rattle.std.proofs.Common.{◌^◌, Err, sym, ap, ◌∙◌}
use Rattle.commands.specs.Meaning as meaning
use Rattle.commands.proofs.Steps.{missing_is, read_fault, read_missing, read_number}
use Rattle.commands.proofs.words.Words.number.Goals as goal

pub returns-in_err-ok_or : goal.returns-in_err-ok_or
returns-in_err-ok_or c =
    let missing = c.in_err-ok_or.ensures in
    read_fault meaning.wide c.args.self.now c.next.new.self _ c.from_residual.ensures.1 (read_missing (2 ^ 64) c.args.self.now c.next.new.self _ c.next.ensures.steps missing.ok_part ∙ ap (λ e. Err e) (sym (missing_is _ missing.ok_part missing.value)))

pub returns : goal.returns
returns c =
    read_number (2 ^ 64) c.args.self.now c.next.new.self _ c.in_ok-ok_or.field-0 c.number.result c.next.ensures.steps c.in_ok-ok_or.ensures.ok_part c.number.ensures
