use Rattle.records.proofs.RoundTrip.{reads_back}
use Rattle.records.proofs.encoding.encoding_reads_back.Goals as goal

pub returns : goal.returns
returns c = reads_back
