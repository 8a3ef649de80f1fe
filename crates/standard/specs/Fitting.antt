-- What the devices of the standard fitting stand for.
use Rattle.rules.specs.Device.{Divided}
use Rattle.rules.specs.I8254 as rules
use Rattle.rules.specs.TickLaws.{lagging}
use Rattle.device.specs.declared.divider.Divider.{Divider}
use Rattle.device.specs.declared.empty.Empty.{Empty}
use Rattle.slots.specs.declared.fitted.Fitted.{Fitted}
use Rattle.slots.specs.Slots.{States}
use Rattle.i8254.specs.declared.timer.Timer.{Timer}
use Rattle.i8254.specs.Views.{view}

abbrev pub states : {device : _} → Fitted (Divider Timer device) Empty Empty Empty → States (Divided rules.Timer) (Unit {0}) (Unit {0}) (Unit {0})
states s = record {
  slot_0 = lagging rules.timer s.slot_0.factor s.slot_0.since (view s.slot_0.inner);
  slot_1 = tt;
  slot_2 = tt;
  slot_3 = tt;
}
