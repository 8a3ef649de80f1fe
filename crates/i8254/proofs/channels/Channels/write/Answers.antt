use Rattle.std.proofs.Common.{◌∙◌, ap}
use Rattle.rules.specs.I8254.{at_channel, write_count}
use Rattle.i8254.proofs.Lag.{changed_1, changed_2}
use Rattle.i8254.proofs.channels.Channels.write.Goals as goal

pub returns-in-1 : goal.returns-in-1
returns-in-1 c =
    rw c.in-1.is (changed_1 c.catch_up.new.self c.catch_up.ensures.lag (write_count c.args.byte) c.write_count-in-1.new.self c.write_count-in-1.ensures ∙ ap (at_channel 1 (write_count c.args.byte)) c.catch_up.ensures.meaning)

pub returns-in-2 : goal.returns-in-2
returns-in-2 c =
    rw c.in-2.is (changed_2 c.catch_up-in-2.new.self c.catch_up-in-2.ensures.lag (write_count c.args.byte) c.write_count-in-2.new.self c.write_count-in-2.ensures ∙ ap (at_channel 2 (write_count c.args.byte)) c.catch_up-in-2.ensures.meaning)
