use Rattle.std.proofs.Common.{◌≡◌, ◌/◌, ◌%◌, arith}
use Rattle.std.proofs.lemmas.Nat.{and_mask}
use Rattle.i8254.proofs.control.ModeFromU8.from.Goals as goal

pub returns-in_default : goal.returns-in_default
returns-in_default c = let seven : c.args.word / 2 % 8 ≡ 7 = omega (arith, and_mask (c.args.word / 2) 3) in rw seven
