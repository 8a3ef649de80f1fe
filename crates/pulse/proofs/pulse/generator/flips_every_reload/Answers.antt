use Rattle.pulse.proofs.PulseLaws.{flips_each_reload}
use Rattle.pulse.proofs.pulse.generator.flips_every_reload.Goals as goal

pub returns : goal.returns
returns c = flips_each_reload
