-- What the code's timers are in the rules.
use Rattle.rules.specs.Device.{ticks}
use Rattle.rules.specs.I8254 as rules
use Rattle.rules.specs.I8254.{timer}
use Rattle.i8254.specs.Channels.{view_channels}
use Rattle.i8254.specs.declared.timer.Timer.{Timer}

-- The channels still lack the ticks that they lag behind.
abbrev pub view : Timer → rules.Timer
view t = ticks timer t.lag (view_channels t.channels)
