use Rattle.i8254_laws.specs.WaveProofs.{wave_laws}
use Rattle.i8254.proofs.waves.wave_laws_hold.Goals as goal

pub returns : goal.returns
returns c = wave_laws
