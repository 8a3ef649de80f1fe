-- Counters that no tick changes.
use Rattle.std.proofs.Common.{◌≡◌, ℕ, None, Option, refl}
use Rattle.rules.specs.I8254.{tick_counter}
use Rattle.i8254_laws.specs.Counters.{unloaded}
use Rattle.i8254.specs.Control.{untriggered_mode, periodic_mode}
use Rattle.i8254.specs.declared.control.Untriggered.{Untriggered}
use Rattle.i8254.specs.declared.control.Untriggered.TheVariants.{OneShot, SoftwareStrobe, HardwareStrobe}
use Rattle.i8254.specs.declared.control.Periodic.{Periodic}
use Rattle.i8254.specs.declared.control.Periodic.TheVariants.{RateGenerator, SquareWave}

pub untriggered_still : (m : Untriggered) (count : Option ℕ) (v : ℕ) → tick_counter (unloaded (untriggered_mode m) count v) ≡ unloaded (untriggered_mode m) count v
untriggered_still OneShot count v = refl
untriggered_still SoftwareStrobe count v = refl
untriggered_still HardwareStrobe count v = refl

pub no_count_still : (m : Periodic) (v : ℕ) → tick_counter (unloaded (periodic_mode m) None v) ≡ unloaded (periodic_mode m) None v
no_count_still RateGenerator v = refl
no_count_still SquareWave v = refl
