use Rattle.i8254.proofs.Lag.{both_caught_up}
use Rattle.i8254.proofs.channels.Channels.catch_up.Goals as goal

pub returns-clause-meaning : goal.returns-clause-meaning
returns-clause-meaning c = both_caught_up c.args.self.now c.skip.new.self c.skip-2.new.self c.skip.ensures c.skip-2.ensures
