-- What the code's values stand for among the rules' definitions.
use Rattle.std.specs.Prelude.{ℕ, ◌/◌, ◌%◌, Bool, false, cond, ◌==◌}
use Rattle.i8259.specs.declared.chip.Offset.{Offset}
use Rattle.i8259.specs.declared.chip.Offset.TheVariants.{Zero, One}
use Rattle.i8259.specs.declared.chip.Access.{Access}
use Rattle.i8259.specs.declared.chip.Access.TheVariants.{Icw1, Ocw2, Ocw3, OffsetOne}
use Rattle.i8259.specs.declared.chip.words.Command.{Command}
use Rattle.i8259.specs.declared.chip.words.Command.TheVariants.{NoOperation, NonSpecificEnd, SpecificEnd, RotateOnNonSpecificEnd, SetPriority, RotateOnSpecificEnd}
use Rattle.i8259.specs.declared.pair.Which.{Which}
use Rattle.i8259.specs.declared.pair.Which.TheVariants.{Master, Slave}
use Rattle.rules.specs.I8259 as rules

abbrev pub offset : Offset → ℕ
offset Zero = 0
offset One = 1

-- What a byte written at an offset is.
abbrev pub access_of : Offset → ℕ → Access
access_of Zero byte = cond (rules.bit byte 4) Icw1 (cond (rules.bit byte 3) Ocw3 Ocw2)
access_of One byte = OffsetOne

-- What OCW2 commands, by its code in bits 7 to 5, with the level in bits 2 to 0.
abbrev pub command_of : ℕ → Command
command_of word =
    let code = word / 32 in
    let level = word % 8 in
    cond (code == 1) NonSpecificEnd
    (cond (code == 3) (SpecificEnd level)
    (cond (code == 5) RotateOnNonSpecificEnd
    (cond (code == 6) (SetPriority level)
    (cond (code == 7) (RotateOnSpecificEnd level) NoOperation))))

abbrev pub chip_of : Which → rules.Pair → rules.Chip
chip_of Master p = p.master
chip_of Slave p = p.slave

-- The pair with one chip replaced.
abbrev pub with_chip : Which → rules.Chip → rules.Pair → rules.Pair
with_chip Master c p = record { master = c; slave = p.slave }
with_chip Slave c p = record { master = p.master; slave = c }

-- A chip at power on whose inputs already stand at their levels: no input has risen, so there is no request.
abbrev pub standing : ℕ → rules.Chip
standing levels = record { inputs = levels; irr = 0; isr = 0; imr = 0; base = 0; lowest = 7; read_isr = false; stage = rules.Stage.idle }

-- The levels of a chip's inputs as a byte, from all lines as one number, bit l for line l.
abbrev pub master_levels : ℕ → Bool → ℕ
master_levels lines slave_requests =
    cond slave_requests (rules.with_bit (lines % 256) rules.cascade_input) (rules.without_bit (lines % 256) rules.cascade_input)

abbrev pub slave_levels : ℕ → ℕ
slave_levels lines = lines / 256
