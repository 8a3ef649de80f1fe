use Rattle.std.proofs.Common.{sym, ◌∙◌}
use Rattle.rules.specs.Trace.{decode}
use Rattle.records.proofs.Decoding.{tests, decode_kind, decode_unknown, decode_none}
use Rattle.records.proofs.decode.decode.Goals as goal
use Rattle.records.proofs.decode.decode.Goals.{in_default-via-then-body-lt1, in_default-via-else-body-lt1+in_default-1}

pub returns-in-1 : goal.returns-in-1
unfolding decode
returns-in-1 c = c.advance.ensures ∙ sym (decode_kind c.args.body.now (omega tests) 1 (omega tests))

pub returns-in-2 : goal.returns-in-2
unfolding decode
returns-in-2 c = c.read.ensures ∙ sym (decode_kind c.args.body.now (omega tests) 2 (omega tests))

pub returns-in-3 : goal.returns-in-3
unfolding decode
returns-in-3 c = c.write.ensures ∙ sym (decode_kind c.args.body.now (omega tests) 3 (omega tests))

pub returns-in-4 : goal.returns-in-4
unfolding decode
returns-in-4 c = c.acknowledge.ensures ∙ sym (decode_kind c.args.body.now (omega tests) 4 (omega tests))

pub returns-in-5 : goal.returns-in-5
unfolding decode
returns-in-5 c = c.queue.ensures ∙ sym (decode_kind c.args.body.now (omega tests) 5 (omega tests))

pub returns-in-6 : goal.returns-in-6
unfolding decode
returns-in-6 c = c.note.ensures ∙ sym (decode_kind c.args.body.now (omega tests) 6 (omega tests))

pub returns-in_default : goal.returns-in_default
returns-in_default c =
    elim c.in_default.branch [
      | in_default-via-then-body-lt1 w ↦ sym (decode_none c.args.body.now (omega tests))
      | in_default-via-else-body-lt1+in_default-1 w ↦ sym (decode_unknown c.args.body.now (omega tests) (omega tests) (omega tests) (omega tests) (omega tests) (omega tests) (omega tests))
    ]
