use Rattle.rules.specs.TickLaws.{ticks_zero}
use Rattle.i8254_laws.specs.Machines.{channel}
use Rattle.i8254.specs.Channels.{view_channel}
use Rattle.i8254.proofs.channels.Channels.power_on.Goals as goal

pub returns : goal.returns
returns c = rw (ticks_zero channel (view_channel c.power_on-channel.result), c.power_on-channel.ensures)
