use Rattle.std.proofs.Common.{sym}
use Rattle.rules.specs.TickLaws.{ticks_still}
use Rattle.pulse.specs.Pulse.{pulse_generator}
use Rattle.pulse.proofs.PulseLaws.{still, ticks_within, ticks_past}
use Rattle.pulse.proofs.pulse.generator.PulseDevice.skip.Goals as goal

pub returns-then-not-self : goal.returns-then-not-self
returns-then-not-self c = rw (← c.self.view_is) (sym (ticks_still pulse_generator _ _ (still _ c.if-not-self.true)))

pub returns-then-n-self : goal.returns-then-n-self
returns-then-n-self c = rw (← c.self.view_is, ← c.min-n.ensures) (sym (ticks_within c.min-n.result _ c.if-not-self.false c.if-n-self.true))

pub returns-else-n-self : goal.returns-else-n-self
returns-else-n-self c =
    rw (← c.self.view_is, ← c.min-n.ensures, c.flipped-self-inside.ensures)
    (sym (ticks_past c.min-n.result _ c.if-not-self.false c.self.invariant.0 c.self.invariant.2 c.if-n-self.false))
