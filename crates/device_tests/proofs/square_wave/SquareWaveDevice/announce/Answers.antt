use Rattle.device_tests.proofs.WaveLaws.{wave_announces}
use Rattle.device_tests.proofs.square_wave.SquareWaveDevice.announce.Goals as goal

pub returns : goal.returns
returns c = rw (← c.self.view_is) (wave_announces _ c.self.invariant.1 c.self.invariant.0)
