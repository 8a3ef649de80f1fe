use Rattle.std.proofs.Common.{sym}
use Rattle.device_tests.proofs.WaveLaws.{ticks_wave}
use Rattle.device_tests.proofs.square_wave.SquareWaveDevice.skip.Goals as goal

pub returns : goal.returns
returns c = rw (← c.self.view_is, ← c.min.ensures, c.flipped-self-inside.ensures) (sym (ticks_wave c.min.result _ c.self.invariant.1))
