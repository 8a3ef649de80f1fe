use Rattle.commands.specs.Meaning as meaning
use Rattle.commands.proofs.words.Words.end.Goals as goal

pub returns-in-None : goal.returns-in-None
unfolding meaning.end
returns-in-None c = rw (c.in-None.ensures.steps.0, c.in-None.ensures.steps.1)

pub returns-in-Some : goal.returns-in-Some
unfolding meaning.end
returns-in-Some c = rw c.in-Some.ensures.steps
