-- An agenda by what waits in it.
use Rattle.std.specs.Prelude.{◌≡◌, Bool, List, [], ◌∷◌, length, drop, Some, None, Option}
use Rattle.std.specs.Borrow.{MutBor}
use Rattle.agenda.specs.declared.Entry.{Ghosts}
use Rattle.agenda.specs.declared.agenda.Agenda.{Agenda}
use Rattle.agenda.specs.Nodes.{usable, held}

-- The entries that wait, in ascending order.
abbrev pub waiting : {E : Type 0} {entry : Ghosts E} → (E → E → Bool) → Agenda E entry → List E
waiting before agenda = held before agenda.nodes.now agenda.len

-- The first of a list, where there is one.
abbrev pub first_of : {E : Type 0} → List E → Option E
first_of [] = None
first_of (x ∷ xs) = Some x

-- An agenda that stays as it was, node for node.
pub record Unchanged {E : Type 0} {entry : Ghosts E} (old new : Agenda E entry) : Type 0 where
  pub nodes : new.nodes.now ≡ old.nodes.now
  pub len : new.len ≡ old.len

-- An agenda works in lent nodes: there are as many of them, and those past the usable ones hold what they held when they were lent.
pub record WorksIn {E : Type 0} {entry : Ghosts E} (lent : MutBor (List E)) (agenda : Agenda E entry) : Type 0 where
  pub lender : agenda.nodes.ghost_name ≡ lent.ghost_name
  pub number : length agenda.nodes.now ≡ length lent.now
  pub unused : drop (usable lent.now) agenda.nodes.now ≡ drop (usable lent.now) lent.now

-- What a call leaves alone: the agenda works in the nodes that it worked in.
abbrev pub Kept : {E : Type 0} {entry : Ghosts E} → Agenda E entry → Agenda E entry → Type 0
Kept old new = WorksIn old.nodes new
