-- The four device slots of a board, apart from the rest of it.
use Rattle.std.specs.Prelude.{◌≡◌, ℕ, ◌+◌, ◌<◌, ◌≤◌, Bool, false, List, [], ◌∷◌, Some, None, Option, slice_index_or}
use Rattle.rules.specs.Device.{ticks, horizon}
use Rattle.rules.specs.Board as rules
use Rattle.i8259.specs.Views.{offset}
use Rattle.slots.specs.declared.fitted.Target.{Target}
use Rattle.i8259.specs.declared.pair.Which.TheVariants.{Master, Slave}
use Rattle.slots.specs.declared.fitted.Slot as one_of
use Rattle.slots.specs.declared.fitted.Slot.TheVariants.{Zero, One, Two, Three}
use Rattle.slots.specs.declared.fitted.Target.TheVariants.{Chip, Slot, OpenBus}

-- The states of the four devices.
pub record States (S0 S1 S2 S3 : Type 0) : Type 0 where
  pub slot_0 : S0
  pub slot_1 : S1
  pub slot_2 : S2
  pub slot_3 : S3

-- The number of a slot.
abbrev pub slot_number : one_of.Slot → ℕ
slot_number Zero = 0
slot_number One = 1
slot_number Two = 2
slot_number Three = 3

-- What a port reaches, as the rules say it.
abbrev pub target_of : Target → rules.Target
target_of (Chip Master at) = rules.Target.master (offset at)
target_of (Chip Slave at) = rules.Target.slave (offset at)
target_of (Slot Zero o) = rules.Target.at_slot_0 o
target_of (Slot One o) = rules.Target.at_slot_1 o
target_of (Slot Two o) = rules.Target.at_slot_2 o
target_of (Slot Three o) = rules.Target.at_slot_3 o
target_of OpenBus = rules.Target.open_bus

module _ {S0 S1 S2 S3 : Type 0} (f : rules.Fitting S0 S1 S2 S3) where
  abbrev pub levels_of : States S0 S1 S2 S3 → List Bool
  levels_of s = f.kind_0.level s.slot_0 ∷ f.kind_1.level s.slot_1 ∷ f.kind_2.level s.slot_2 ∷ f.kind_3.level s.slot_3 ∷ []

  abbrev pub ticked : ℕ → States S0 S1 S2 S3 → States S0 S1 S2 S3
  ticked n s =
      record {
        slot_0 = ticks f.kind_0 n s.slot_0;
        slot_1 = ticks f.kind_1 n s.slot_1;
        slot_2 = ticks f.kind_2 n s.slot_2;
        slot_3 = ticks f.kind_3 n s.slot_3;
      }

  -- The byte that the slot of a target gives, and the states after; the controllers and an open bus are no slot.
  abbrev pub slot_byte : Target → States S0 S1 S2 S3 → ℕ
  slot_byte (Chip which at) s = 255
  slot_byte (Slot Zero o) s = f.kind_0.byte_read s.slot_0 o
  slot_byte (Slot One o) s = f.kind_1.byte_read s.slot_1 o
  slot_byte (Slot Two o) s = f.kind_2.byte_read s.slot_2 o
  slot_byte (Slot Three o) s = f.kind_3.byte_read s.slot_3 o
  slot_byte OpenBus s = 255

  abbrev pub slots_after_read : Target → States S0 S1 S2 S3 → States S0 S1 S2 S3
  slots_after_read (Chip which at) s = s
  slots_after_read (Slot Zero o) s = record { slot_0 = f.kind_0.after_read s.slot_0 o; slot_1 = s.slot_1; slot_2 = s.slot_2; slot_3 = s.slot_3 }
  slots_after_read (Slot One o) s = record { slot_0 = s.slot_0; slot_1 = f.kind_1.after_read s.slot_1 o; slot_2 = s.slot_2; slot_3 = s.slot_3 }
  slots_after_read (Slot Two o) s = record { slot_0 = s.slot_0; slot_1 = s.slot_1; slot_2 = f.kind_2.after_read s.slot_2 o; slot_3 = s.slot_3 }
  slots_after_read (Slot Three o) s = record { slot_0 = s.slot_0; slot_1 = s.slot_1; slot_2 = s.slot_2; slot_3 = f.kind_3.after_read s.slot_3 o }
  slots_after_read OpenBus s = s

  abbrev pub slots_after_write : Target → ℕ → States S0 S1 S2 S3 → States S0 S1 S2 S3
  slots_after_write (Chip which at) v s = s
  slots_after_write (Slot Zero o) v s = record { slot_0 = f.kind_0.after_write s.slot_0 o v; slot_1 = s.slot_1; slot_2 = s.slot_2; slot_3 = s.slot_3 }
  slots_after_write (Slot One o) v s = record { slot_0 = s.slot_0; slot_1 = f.kind_1.after_write s.slot_1 o v; slot_2 = s.slot_2; slot_3 = s.slot_3 }
  slots_after_write (Slot Two o) v s = record { slot_0 = s.slot_0; slot_1 = s.slot_1; slot_2 = f.kind_2.after_write s.slot_2 o v; slot_3 = s.slot_3 }
  slots_after_write (Slot Three o) v s = record { slot_0 = s.slot_0; slot_1 = s.slot_1; slot_2 = s.slot_2; slot_3 = f.kind_3.after_write s.slot_3 o v }
  slots_after_write OpenBus v s = s

  -- Slot n shows its present level on each of the ticks before the k-th.
  abbrev pub Still : ℕ → ℕ → States S0 S1 S2 S3 → Type 0
  Still n k s = (j : ℕ) → j < k → slice_index_or (levels_of (ticked j s)) n false ≡ slice_index_or (levels_of s) n false

  -- No slot's level changes on the ticks before the k-th.
  abbrev pub AllStill : ℕ → States S0 S1 S2 S3 → Type 0
  AllStill k s = (j : ℕ) → j < k → levels_of (ticked j s) ≡ levels_of s

  -- What an announcement of slot n tells the board: nothing changes before it.
  abbrev pub Foretold : ℕ → Option ℕ → States S0 S1 S2 S3 → Type 0
  Foretold n None s = Still n (horizon + 1) s
  Foretold n (Some k) s = (1 ≤ k) × (k ≤ horizon) × Still n k s
