use Rattle.rules.specs.TickLaws.{still_announces}
use Rattle.pulse.specs.Pulse.{pulse_generator}
use Rattle.pulse.proofs.PulseLaws.{still, pulse_announces}
use Rattle.pulse.proofs.pulse.generator.PulseDevice.announce.Goals as goal

pub returns-then-self : goal.returns-then-self
returns-then-self c = rw (← c.self.view_is) (pulse_announces _ c.if-self.true c.self.invariant.2 c.self.invariant.3)

pub returns-else-self : goal.returns-else-self
returns-else-self c = rw (← c.self.view_is) (still_announces pulse_generator _ (still _ c.if-self.false))
