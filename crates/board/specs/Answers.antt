-- The code's answers, as the tick board gives them.
use Rattle.std.specs.Prelude.{ℕ, Ok, Err, Result}
use Rattle.rules.specs.declared.calls.Answer.{Answer}
use Rattle.rules.specs.declared.calls.Answer.TheVariants.{Edges, Done, Refused}
use Rattle.rules.specs.declared.refusal.Refusal.{Refusal}

abbrev pub of_queue : Result (Unit {0}) Refusal → Answer
of_queue (Ok u) = Done
of_queue (Err r) = Refused r

abbrev pub of_advance : Result ℕ Refusal → Answer
of_advance (Ok n) = Edges n
of_advance (Err r) = Refused r
