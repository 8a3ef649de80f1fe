-- What a forecast says of a timer.
use Rattle.std.specs.Prelude.{◌≡◌, ◌≤◌, ◌≢◌, Some, None}
use Rattle.rules.specs.I8254 as rules
use Rattle.rules.specs.I8254.{timer}
use Rattle.i8254_laws.specs.Foresight.{Foresees}
use Rattle.i8254.specs.declared.forecast.Forecast.{Forecast}
use Rattle.i8254.specs.declared.forecast.TheConstants.{NEVER}

pub record Foretold (f : Forecast) (t : rules.Timer) : Type 0 where
  pub level : f.out ≡ timer.level t
  pub within : (1 ≤ f.due) × (f.due ≤ NEVER)
  pub stays : f.due ≡ NEVER → Foresees timer t None
  pub changes : f.due ≢ NEVER → Foresees timer t (Some f.due)
