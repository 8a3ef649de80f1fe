-- A run on a new board of the standard fitting prints what the runner prints.
use Rattle.std.proofs.Common.{◌≡◌, ℕ, List, ap}
use Rattle.rules.specs.Board.{Board}
use Rattle.rules.specs.Device.{Divided}
use Rattle.rules.specs.I8254.{Timer}
use Rattle.rules.specs.Trace.{on_board, run_lines, printed, standard, standard_board}

pub printed_on : (room : ℕ) (trace : List ℕ) (b : Board (Divided Timer) (Unit {0}) (Unit {0}) (Unit {0})) → b ≡ standard_board → run_lines (on_board standard) room b trace ≡ printed room trace
unfolding printed
printed_on room trace b new = ap (λ x. run_lines (on_board standard) room x trace) new
