-- What the code's modes, accesses and commands are in the rules.
use Rattle.rules.specs.I8254 as rules
use Rattle.rules.specs.I8254.{mode_0, mode_1, mode_2, mode_3, mode_4, mode_5, low_only, high_only, low_then_high, latch_count, program}
use Rattle.i8254.specs.declared.control.Access.{Access}
use Rattle.i8254.specs.declared.control.Access.TheVariants.{LowOnly, HighOnly, LowThenHigh}
use Rattle.i8254.specs.declared.control.Untriggered.{Untriggered}
use Rattle.i8254.specs.declared.control.Untriggered.TheVariants.{OneShot, SoftwareStrobe, HardwareStrobe}
use Rattle.i8254.specs.declared.control.Periodic.{Periodic}
use Rattle.i8254.specs.declared.control.Periodic.TheVariants.{RateGenerator, SquareWave}
use Rattle.i8254.specs.declared.control.Mode.{Mode}
use Rattle.i8254.specs.declared.control.Mode.TheVariants.{TerminalCount, Untriggered as InUntriggered, Periodic as InPeriodic}
use Rattle.i8254.specs.declared.control.Command.{Command}
use Rattle.i8254.specs.declared.control.Command.TheVariants.{Latch, Program}

abbrev pub view_access : Access → rules.Access
view_access LowOnly = low_only
view_access HighOnly = high_only
view_access LowThenHigh = low_then_high

abbrev pub untriggered_mode : Untriggered → rules.Mode
untriggered_mode OneShot = mode_1
untriggered_mode SoftwareStrobe = mode_4
untriggered_mode HardwareStrobe = mode_5

abbrev pub periodic_mode : Periodic → rules.Mode
periodic_mode RateGenerator = mode_2
periodic_mode SquareWave = mode_3

abbrev pub view_mode : Mode → rules.Mode
view_mode TerminalCount = mode_0
view_mode (InUntriggered m) = untriggered_mode m
view_mode (InPeriodic m) = periodic_mode m

-- What a command does to its channel.
abbrev pub effect : Command → rules.Channel → rules.Channel
effect Latch = latch_count
effect (Program access mode) = program (view_access access) (view_mode mode)
