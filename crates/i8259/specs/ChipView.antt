-- The rules' chip that a chip's fields stand for, and the fields that stand for it.
use Rattle.std.specs.Prelude.{◌≡◌, refl, Bool, true, false}
use Rattle.i8259.specs.declared.chip.Chip.TheInside.{Inside}
use Rattle.i8259.specs.declared.chip.Stage.{Stage}
use Rattle.i8259.specs.declared.chip.Stage.TheVariants.{Idle, WaitIcw2, WaitIcw3, WaitIcw4, Ready}
use Rattle.i8259.specs.declared.chip.Selection.{Selection}
use Rattle.i8259.specs.declared.chip.Selection.TheVariants.{Irr, Isr}
use Rattle.rules.specs.I8259 as rules

abbrev pub stage_of : Stage → rules.Stage
stage_of Idle = rules.Stage.idle
stage_of (WaitIcw2 single needs_icw4) = rules.Stage.wait_icw2 single needs_icw4
stage_of (WaitIcw3 needs_icw4) = rules.Stage.wait_icw3 needs_icw4
stage_of WaitIcw4 = rules.Stage.wait_icw4
stage_of Ready = rules.Stage.ready

abbrev pub stage_from : rules.Stage → Stage
stage_from rules.Stage.idle = Idle
stage_from (rules.Stage.wait_icw2 single needs_icw4) = WaitIcw2 single needs_icw4
stage_from (rules.Stage.wait_icw3 needs_icw4) = WaitIcw3 needs_icw4
stage_from rules.Stage.wait_icw4 = WaitIcw4
stage_from rules.Stage.ready = Ready

pub stage_back : (s : Stage) → stage_from (stage_of s) ≡ s
stage_back Idle = refl
stage_back (WaitIcw2 single needs_icw4) = refl
stage_back (WaitIcw3 needs_icw4) = refl
stage_back WaitIcw4 = refl
stage_back Ready = refl

abbrev pub is_isr : Selection → Bool
is_isr Irr = false
is_isr Isr = true

abbrev pub selection_of : Bool → Selection
selection_of false = Irr
selection_of true = Isr

pub selection_back : (s : Selection) → selection_of (is_isr s) ≡ s
selection_back Irr = refl
selection_back Isr = refl

abbrev pub view : Inside → rules.Chip
view c =
    record {
      inputs = c.inputs;
      irr = c.irr;
      isr = c.isr;
      imr = c.imr;
      base = c.base;
      lowest = c.lowest;
      read_isr = is_isr c.selection;
      stage = stage_of c.stage;
    }

abbrev pub fields : rules.Chip → Inside
fields c =
    record {
      inputs = c.inputs;
      irr = c.irr;
      isr = c.isr;
      imr = c.imr;
      base = c.base;
      lowest = c.lowest;
      selection = selection_of c.read_isr;
      stage = stage_from c.stage;
    }

pub fields_back : (c : Inside) → fields (view c) ≡ c
fields_back c =
    λ i.
    record {
      inputs = c.inputs;
      irr = c.irr;
      isr = c.isr;
      imr = c.imr;
      base = c.base;
      lowest = c.lowest;
      selection = selection_back c.selection i;
      stage = stage_back c.stage i;
    }
