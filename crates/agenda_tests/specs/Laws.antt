-- The precedence of deadlines is a total order.
use Rattle.std.specs.Prelude.{◌≡◌, true, false}
use Rattle.std.proofs.Common.{rules}
use Rattle.agenda_tests.specs.declared.Deadline.{Deadline}
use Rattle.agenda_tests.specs.Orders.{deadline_before}

pub deadline_irreflexive : (x : Deadline) → deadline_before x x ≡ false
deadline_irreflexive = search rules

pub deadline_transitive : (x y z : Deadline) → deadline_before x y ≡ true → deadline_before y z ≡ true → deadline_before x z ≡ true
deadline_transitive = search rules

pub deadline_total : (x y : Deadline) → deadline_before x y ≡ false → deadline_before y x ≡ false → x ≡ y
deadline_total = search rules
