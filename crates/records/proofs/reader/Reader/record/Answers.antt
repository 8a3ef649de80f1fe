use Rattle.std.proofs.Common.{◌<◌, length, sym, ap, ◌∙◌}
use Rattle.rules.specs.Trace.{fault, decode}
use Rattle.records.proofs.Reading.{rest_at, next_cut_field, next_cut, next_bad, next_got, gives_passed, gives_record, is_cut_off}
use Rattle.records.proofs.reader.Reader.record.Goals as goal

pub returns-in_err-len : goal.returns-in_err-len
returns-in_err-len c =
    let missing = c.in_err-len.ensures in
    let short : length (rest_at c.args.self.now.trace.now c.args.self.now.place) < 2 = rw missing.ok_part at c.split_first_chunk.ensures.cases in
    gives_passed c.args.self.now c.from_residual.ensures.1 (next_cut_field c.args.self.now.trace.now c.args.self.now.place c.requires short ∙ ap fault (sym (is_cut_off _ missing.ok_part missing.value)))

pub returns-in_err-counted : goal.returns-in_err-counted
returns-in_err-counted c =
    let field = rw c.in_ok-len.ensures.ok_part at c.split_first_chunk.ensures.cases in
    let missing = c.in_err-counted.ensures in
    let short : length c.in_ok-len.bytes.now < c.from-len.result = rw missing.ok_part at c.split_at_checked.ensures.cases in
    gives_passed c.args.self.now c.from_residual-in_err-counted.ensures.1 (next_cut c.args.self.now.trace.now c.args.self.now.place c.from-len.result field (c.from-len.ensures ∙ c.from_be_bytes.ensures) short ∙ ap fault (sym (is_cut_off _ missing.ok_part missing.value)))

pub returns-in_err-record : goal.returns-in_err-record
returns-in_err-record c =
    let field = rw c.in_ok-len.ensures.ok_part at c.split_first_chunk.ensures.cases in
    let split = rw c.in_ok-counted.ensures.ok_part at c.split_at_checked.ensures.cases in
    gives_passed c.args.self.now c.from_residual-in_err-record.ensures.1 (next_bad c.args.self.now.trace.now c.args.self.now.place c.from-len.result field (c.from-len.ensures ∙ c.from_be_bytes.ensures) _ split.0 (c.in_err-record.ensures ∙ ap decode split.1))

pub returns : goal.returns
returns c =
    let field = rw c.in_ok-len.ensures.ok_part at c.split_first_chunk.ensures.cases in
    let split = rw c.in_ok-counted.ensures.ok_part at c.split_at_checked.ensures.cases in
    gives_record c.args.self.now c.in_ok-record.record c.from-len.result (next_got c.args.self.now.trace.now c.args.self.now.place c.from-len.result field (c.from-len.ensures ∙ c.from_be_bytes.ensures) _ split.0 (c.in_ok-record.ensures ∙ ap decode split.1))
