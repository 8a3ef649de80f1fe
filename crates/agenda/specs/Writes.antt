-- The precedence of pending writes is a total order.
use Rattle.std.specs.Prelude.{◌≡◌, true, false}
use Rattle.std.proofs.Common.{rules}
use Rattle.rules.specs.Board.{precedes}
use Rattle.rules.specs.declared.queued.QueuedWrite.{QueuedWrite}

pub precedes_irreflexive : (x : QueuedWrite) → precedes x x ≡ false
precedes_irreflexive = search rules

pub precedes_transitive : (x y z : QueuedWrite) → precedes x y ≡ true → precedes y z ≡ true → precedes x z ≡ true
precedes_transitive = search rules

pub precedes_total : (x y : QueuedWrite) → precedes x y ≡ false → precedes y x ≡ false → x ≡ y
precedes_total = search rules
