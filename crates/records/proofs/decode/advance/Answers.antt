use Rattle.std.proofs.Common.{length, ap, ◌∙◌}
use Rattle.records.proofs.Decoding.{advance_fields}
use Rattle.records.proofs.decode.advance.Goals as goal

pub returns : goal.returns
returns c = let whole = c.in_ok-exactly.ensures in rw (← whole.1) (advance_fields c.in_ok-exactly.field-0 c.from_be_bytes.result (ap length whole.1 ∙ whole.0) c.from_be_bytes.ensures)
