use Rattle.std.proofs.Common.{◌∙◌, ap, rules, arith}
use Rattle.i8254.specs.Channels.{others_after}
use Rattle.i8254.proofs.Lag.{longer}
use Rattle.i8254.proofs.channels.Channels.fall_behind.Goals as goal

pub returns-in-Some : goal.returns-in-Some
returns-in-Some c = longer c.args.self.now c.args.n _ (search rules)

pub returns-in-None : goal.returns-in-None
returns-in-None c =
    longer c.catch_up.new.self c.args.n c.args.n (omega (arith, c.catch_up.ensures.lag)) ∙ ap (others_after c.args.n) c.catch_up.ensures.meaning
