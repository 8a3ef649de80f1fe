-- A note is only printed.
use Rattle.std.specs.Prelude.{◌≡◌, ℕ, List}
use Rattle.std.proofs.Math.Path.{refl}
use Rattle.rules.specs.Board.{Board, Fitting}
use Rattle.rules.specs.Trace.{note, note_line, on_board}
use Rattle.trace.specs.Performing.{performed}

pub board_notes : {A B C D : Type 0} (f : Fitting A B C D) (text : List ℕ) (place : ℕ) (b : Board A B C D) → on_board f (note text) place b ≡ performed (note_line text) b
unfolding on_board
board_notes f text place b = refl
