-- What an access leaves of the knowledge that no level changes.
use Rattle.std.specs.Prelude.{ℕ}
use Rattle.slots.specs.declared.fitted.Target.{Target}
use Rattle.slots.specs.declared.fitted.Target.TheVariants.{Chip, Slot, OpenBus}

-- A slot that is reached may change its level at any tick; an access to the controllers or to an open bus changes no slot.
abbrev pub quiet_after : Target → ℕ → ℕ
quiet_after (Chip which at) quiet_until = quiet_until
quiet_after (Slot slot offset) quiet_until = 0
quiet_after OpenBus quiet_until = quiet_until
