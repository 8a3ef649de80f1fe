use Rattle.std.proofs.Common.{sym}
use Rattle.rules.specs.Flips.{flips_even, flips_odd}
use Rattle.device.proofs.flips.flipped.Goals as goal

pub returns-then-times-eq0 : goal.returns-then-times-eq0
returns-then-times-eq0 c = sym (flips_even c.args.times c.args.level c.if-times-eq0.true)

pub returns-else-times-eq0 : goal.returns-else-times-eq0
returns-else-times-eq0 c = sym (flips_odd c.args.times c.args.level c.if-times-eq0.false)
