use Rattle.commands.proofs.RoundTrip.{reads_back}
use Rattle.commands.proofs.line.commands_read_back.Goals as goal

pub returns : goal.returns
returns c = reads_back
