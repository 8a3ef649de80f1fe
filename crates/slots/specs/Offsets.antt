-- How a port lies to the first of some ports.
use Rattle.std.specs.Prelude.{ℕ, ◌-◌, cond, Some, None, Option, ◌==◌}
use Rattle.rules.specs.Board.{matches}
use Rattle.i8259.specs.declared.chip.Offset.{Offset}
use Rattle.i8259.specs.declared.chip.Offset.TheVariants.{Zero, One}

abbrev pub offset_from : ℕ → ℕ → ℕ → Option ℕ
offset_from port first ports = cond (matches first ports port) (Some (port - first)) None

abbrev pub chip_offset_from : ℕ → ℕ → Option Offset
chip_offset_from port first = cond (matches first 2 port) (Some (cond (port - first == 0) Zero One)) None
