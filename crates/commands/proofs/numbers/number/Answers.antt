use Rattle.std.proofs.Common.{◌∙◌, ◌^◌, sym}
use Rattle.commands.proofs.Digits.{number_read, number_unread}
use Rattle.commands.proofs.numbers.number.Goals as goal

pub returns-then-is_numeral : goal.returns-then-is_numeral
returns-then-is_numeral c =
    let read = number_read c.args.word.now _ _ c.value_of.result c.digits_of-base.ensures.digits c.digits_of-base.ensures.base (sym c.is_numeral.ensures ∙ c.if-is_numeral.true) c.value_of.ensures in
    c.ok_or.ensures.value ∙ read

pub returns-else-is_numeral : goal.returns-else-is_numeral
returns-else-is_numeral c =
    number_unread c.args.word.now _ _ (2 ^ 64) c.digits_of-base.ensures.digits c.digits_of-base.ensures.base (sym c.is_numeral.ensures ∙ c.if-is_numeral.false)
