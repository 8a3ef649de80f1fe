use Rattle.std.proofs.Common.{refl, ◌∙◌, arith}
use Rattle.records.proofs.Decoding.{queue_fields}
use Rattle.records.proofs.decode.queue.Goals as goal

pub returns : goal.returns
returns c =
    let split = rw c.in_ok-tick.ensures.ok_part at c.split_first_chunk.ensures.cases in
    let whole = c.in_ok-high.ensures in
    queue_fields c.args.fields.now c.in_ok-tick.tick.now c.in_ok-high.field-0 _ _ _ (omega (arith, split.2, whole.0)) split.0 (whole.1 ∙ split.1) c.from_be_bytes.ensures c.from_be_bytes-2.ensures refl
