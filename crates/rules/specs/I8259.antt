-- The 8259A interrupt controller and the cascaded pair. Registers are bytes; bit i belongs to input i.
-- There is no automatic end of interrupt, poll, special mask, special nesting or level triggering.
use Rattle.std.specs.Prelude.{ℕ, zero, suc, ◌+◌, ◌-◌, ◌/◌, ◌%◌, ◌^◌, Bool, true, false, cond, Some, None, Option, ◌==◌, bit_and, bit_or, nat_eq, nat_lt}

-- Bit i of a register, and the register with bit i set or cleared.
abbrev pub bit : ℕ → ℕ → Bool
bit register i = register / 2 ^ i % 2 == 1

abbrev pub with_bit : ℕ → ℕ → ℕ
with_bit register i = bit_or register (2 ^ i)

abbrev pub without_bit : ℕ → ℕ → ℕ
without_bit register i = bit_and register (255 - 2 ^ i)

-- Which initialisation word the chip waits for. `ready` is the initialised chip; at power on it is `idle`.
-- ICW1 says whether ICW3 is left out and whether ICW4 comes.
pub data Stage : Type 0 where
  idle : Stage
  wait_icw2 : (single needs_icw4 : Bool) → Stage
  wait_icw3 : (needs_icw4 : Bool) → Stage
  wait_icw4 : Stage
  ready : Stage

pub record Chip : Type 0 where
  -- the levels of the eight inputs
  pub inputs : ℕ
  -- interrupt request, in-service and interrupt mask registers
  pub irr : ℕ
  pub isr : ℕ
  pub imr : ℕ
  -- the vector of input 0
  pub base : ℕ
  -- the input of lowest priority
  pub lowest : ℕ
  -- a read at offset 0 gives the ISR, else the IRR
  pub read_isr : Bool
  pub stage : Stage

abbrev pub power_on_chip : Chip
power_on_chip = record { inputs = 0; irr = 0; isr = 0; imr = 0; base = 0; lowest = 7; read_isr = false; stage = idle }

-- An input going from 0 to 1 sets its IRR bit, and one going from 1 to 0 clears it, whatever else the chip is doing.
abbrev pub drive : ℕ → Bool → Chip → Chip
drive i level c =
    cond level
    (cond (bit c.inputs i) c
    (record { inputs = with_bit c.inputs i; irr = with_bit c.irr i; isr = c.isr; imr = c.imr; base = c.base; lowest = c.lowest; read_isr = c.read_isr; stage = c.stage }))
    (cond (bit c.inputs i)
    (record { inputs = without_bit c.inputs i; irr = without_bit c.irr i; isr = c.isr; imr = c.imr; base = c.base; lowest = c.lowest; read_isr = c.read_isr; stage = c.stage })
    c)

-- The inputs below n driven, each to its level.
unfoldable pub drive_below : ℕ → (ℕ → Bool) → Chip → Chip
drive_below zero level c = c
drive_below (suc i) level c = drive i (level i) (drive_below i level c)

-- Priority: the input after the lowest comes first, the lowest last. This is an input's place in that order, from 0 to 7.
abbrev pub rank : ℕ → ℕ → ℕ
rank lowest i = (i + 7 - lowest) % 8

-- The first set bit, trying n inputs in turn from input i on.
unfoldable pub first_from : ℕ → ℕ → ℕ → Option ℕ
first_from zero i register = None
first_from (suc n) i register = cond (bit register i) (Some i) (first_from n ((i + 1) % 8) register)

-- The set bit of a register that comes first in priority, or none.
abbrev pub first : ℕ → ℕ → Option ℕ
first lowest register = first_from 8 ((lowest + 1) % 8) register

abbrev pub initialised : Stage → Bool
initialised idle = false
initialised (wait_icw2 single needs_icw4) = false
initialised (wait_icw3 needs_icw4) = false
initialised wait_icw4 = false
initialised ready = true

-- The requesting input of a chip: the first unmasked IRR bit, if it comes before every ISR bit and the chip is initialised.
abbrev pub request : Chip → Option ℕ
request c =
    cond (initialised c.stage)
    (elim (first c.lowest (bit_and c.irr (255 - c.imr))) [
      | Some i ↦ elim (first c.lowest c.isr) [ Some j ↦ cond (nat_lt (rank c.lowest i) (rank c.lowest j)) (Some i) None | None ↦ Some i ]
      | None ↦ None
    ])
    None

abbrev pub requests : Chip → Bool
requests c = elim (request c) [ Some i ↦ true | None ↦ false ]

-- ICW1 clears IRR, ISR and IMR, makes 7 lowest, selects the IRR and starts initialisation from any stage. Inputs and base stay.
abbrev pub icw1 : ℕ → Chip → Chip
icw1 word c = record { inputs = c.inputs; irr = 0; isr = 0; imr = 0; base = c.base; lowest = 7; read_isr = false; stage = wait_icw2 (bit word 1) (bit word 0) }

-- What comes when ICW3 has come or is left out.
abbrev pub after_icw3 : Bool → Stage
after_icw3 needs_icw4 = cond needs_icw4 wait_icw4 ready

abbrev pub after_icw2 : Bool → Bool → Stage
after_icw2 single needs_icw4 = cond single (after_icw3 needs_icw4) (wait_icw3 needs_icw4)

abbrev pub at_stage : Stage → Chip → Chip
at_stage s c = record { inputs = c.inputs; irr = c.irr; isr = c.isr; imr = c.imr; base = c.base; lowest = c.lowest; read_isr = c.read_isr; stage = s }

abbrev pub with_base : ℕ → Chip → Chip
with_base b c = record { inputs = c.inputs; irr = c.irr; isr = c.isr; imr = c.imr; base = b; lowest = c.lowest; read_isr = c.read_isr; stage = c.stage }

abbrev pub with_imr : ℕ → Chip → Chip
with_imr m c = record { inputs = c.inputs; irr = c.irr; isr = c.isr; imr = m; base = c.base; lowest = c.lowest; read_isr = c.read_isr; stage = c.stage }

-- A write at offset 1: the initialisation word that is waited for, else the mask. ICW2 without its three low bits is the base.
abbrev pub write_1 : ℕ → Chip → Chip
write_1 byte c =
    elim c.stage [
      | idle ↦ with_imr byte c
      | wait_icw2 single needs_icw4 ↦ at_stage (after_icw2 single needs_icw4) (with_base (byte - byte % 8) c)
      | wait_icw3 needs_icw4 ↦ at_stage (after_icw3 needs_icw4) c
      | wait_icw4 ↦ at_stage ready c
      | ready ↦ with_imr byte c
    ]

-- An end of interrupt clears input i's ISR bit.
abbrev pub end_of : ℕ → Chip → Chip
end_of i c = record { inputs = c.inputs; irr = c.irr; isr = without_bit c.isr i; imr = c.imr; base = c.base; lowest = c.lowest; read_isr = c.read_isr; stage = c.stage }

abbrev pub make_lowest : ℕ → Chip → Chip
make_lowest i c = record { inputs = c.inputs; irr = c.irr; isr = c.isr; imr = c.imr; base = c.base; lowest = i; read_isr = c.read_isr; stage = c.stage }

-- OCW2 by its code in bits 7-5, with the level L in bits 2-0. 1 and 5 end the first input in service, if there is one; 3 and 7
-- end L; 5 and 7 also make that input lowest; 6 makes L lowest; 0, 2 and 4 do nothing.
abbrev pub ocw2 : ℕ → Chip → Chip
ocw2 word c =
    let code = word / 32 in
    let L = word % 8 in
    cond (code == 1) (elim (first c.lowest c.isr) [ Some i ↦ end_of i c | None ↦ c ])
    (cond (code == 3) (end_of L c)
    (cond (code == 5) (elim (first c.lowest c.isr) [ Some i ↦ make_lowest i (end_of i c) | None ↦ c ])
    (cond (code == 6) (make_lowest L c)
    (cond (code == 7) (make_lowest L (end_of L c)) c))))

-- OCW3 with bit 1 set selects the register that offset 0 reads: bit 0 says the ISR.
abbrev pub ocw3 : ℕ → Chip → Chip
ocw3 word c =
    cond (bit word 1)
    (record { inputs = c.inputs; irr = c.irr; isr = c.isr; imr = c.imr; base = c.base; lowest = c.lowest; read_isr = bit word 0; stage = c.stage })
    c

-- A write at offset 0: with bit 4 it is ICW1, else with bit 3 OCW3, else OCW2.
abbrev pub write_0 : ℕ → Chip → Chip
write_0 byte c = cond (bit byte 4) (icw1 byte c) (cond (bit byte 3) (ocw3 byte c) (ocw2 byte c))

-- A write at a chip's port: offset 0 or 1.
abbrev pub write_chip : ℕ → ℕ → Chip → Chip
write_chip offset byte c = cond (offset == 0) (write_0 byte c) (write_1 byte c)

-- Offset 0 reads the selected register, offset 1 the mask.
abbrev pub read_chip : ℕ → Chip → ℕ
read_chip offset c = cond (offset == 0) (cond c.read_isr c.isr c.irr) c.imr

-- An acknowledge at one chip: the vector, and the chip after it. A chip that requests nothing answers base + 7 unchanged;
-- otherwise the requesting input moves from the IRR to the ISR.
abbrev pub serve : ℕ → Chip → Chip
serve i c = record { inputs = c.inputs; irr = without_bit c.irr i; isr = with_bit c.isr i; imr = c.imr; base = c.base; lowest = c.lowest; read_isr = c.read_isr; stage = c.stage }

abbrev pub chip_vector : Chip → ℕ
chip_vector c = elim (request c) [ Some i ↦ c.base + i | None ↦ c.base + 7 ]

abbrev pub chip_acknowledged : Chip → Chip
chip_acknowledged c = elim (request c) [ Some i ↦ serve i c | None ↦ c ]

-- The two chips; the slave's request is the master's input 2.
pub record Pair : Type 0 where
  pub master : Chip
  pub slave : Chip

abbrev pub cascade_input : ℕ
cascade_input = 2

-- The acknowledge takes the slave's answer where the master's requesting input is the cascade.
abbrev pub through_cascade : Pair → Bool
through_cascade p = elim (request p.master) [ Some i ↦ nat_eq i cascade_input | None ↦ false ]

abbrev pub vector : Pair → ℕ
vector p = cond (through_cascade p) (chip_vector p.slave) (chip_vector p.master)

abbrev pub acknowledged : Pair → Pair
acknowledged p = record { master = chip_acknowledged p.master; slave = cond (through_cascade p) (chip_acknowledged p.slave) p.slave }

-- The levels of the sixteen lines are given to the inputs: lines 8 to 15 are the slave's inputs 0 to 7, and then master
-- input 2 takes the slave's request.
abbrev pub drive_slave : (ℕ → Bool) → Chip → Chip
drive_slave line c = drive_below 8 (λ i. line (8 + i)) c

abbrev pub drive_master : (ℕ → Bool) → Bool → Chip → Chip
drive_master line slave_requests c = drive_below 8 (λ i. cond (i == cascade_input) slave_requests (line i)) c

abbrev pub drive_lines : (ℕ → Bool) → Pair → Pair
drive_lines line p =
    let slave = drive_slave line p.slave in
    record { master = drive_master line (requests slave) p.master; slave = slave }

-- A pair at power on whose inputs already stand at the lines' levels, without a rise: no request bit is set.
unfoldable pub inputs_below : ℕ → (ℕ → Bool) → ℕ
inputs_below zero level = 0
inputs_below (suc i) level = cond (level i) (with_bit (inputs_below i level) i) (inputs_below i level)

abbrev pub standing_chip : (ℕ → Bool) → Chip
standing_chip level = record { inputs = inputs_below 8 level; irr = 0; isr = 0; imr = 0; base = 0; lowest = 7; read_isr = false; stage = idle }

abbrev pub standing_pair : (ℕ → Bool) → Pair
standing_pair line = record { master = standing_chip line; slave = standing_chip (λ i. line (8 + i)) }
