-- The precedence of deadlines.
use Rattle.std.specs.Prelude.{Bool, cond, ◌==◌, nat_lt}
use Rattle.agenda_tests.specs.declared.Deadline.{Deadline}

-- By tick, then by slot.
abbrev pub deadline_before : Deadline → Deadline → Bool
deadline_before x y = cond (x.tick == y.tick) (nat_lt x.slot y.slot) (nat_lt x.tick y.tick)
