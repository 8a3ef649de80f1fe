use Rattle.std.proofs.Common.{length, refl, ap, ◌∙◌}
use Rattle.records.proofs.Decoding.{write_fields}
use Rattle.records.proofs.decode.write.Goals as goal

pub returns : goal.returns
returns c = let whole = c.in_ok-high.ensures in rw (← whole.1) (write_fields c.in_ok-high.field-0 c.from_be_bytes.result _ (ap length whole.1 ∙ whole.0) c.from_be_bytes.ensures refl)
