use Rattle.std.proofs.Common.{sym, ◌∙◌, ap}
use Rattle.rules.specs.I8254.{at_channel, after_read_count, byte_of_count}
use Rattle.i8254.proofs.Lag.{caught_up, changed_1, changed_2}
use Rattle.i8254.proofs.channels.Channels.read.Goals as goal

pub returns-in-1-clause-gives : goal.returns-in-1-clause-gives
returns-in-1-clause-gives c =
    rw c.in-1.is (c.read_count-in-1.ensures.gives ∙ ap byte_of_count (sym (caught_up _ _ c.catch_up.ensures.lag)) ∙ ap (λ t. byte_of_count t.channel_1) c.catch_up.ensures.meaning)

pub returns-in-1-clause-leaves : goal.returns-in-1-clause-leaves
returns-in-1-clause-leaves c =
    rw c.in-1.is (changed_1 c.catch_up.new.self c.catch_up.ensures.lag after_read_count c.read_count-in-1.new.self c.read_count-in-1.ensures.leaves ∙ ap (at_channel 1 after_read_count) c.catch_up.ensures.meaning)

pub returns-in-2-clause-gives : goal.returns-in-2-clause-gives
returns-in-2-clause-gives c =
    rw c.in-2.is (c.read_count-in-2.ensures.gives ∙ ap byte_of_count (sym (caught_up _ _ c.catch_up-in-2.ensures.lag)) ∙ ap (λ t. byte_of_count t.channel_2) c.catch_up-in-2.ensures.meaning)

pub returns-in-2-clause-leaves : goal.returns-in-2-clause-leaves
returns-in-2-clause-leaves c =
    rw c.in-2.is (changed_2 c.catch_up-in-2.new.self c.catch_up-in-2.ensures.lag after_read_count c.read_count-in-2.new.self c.read_count-in-2.ensures.leaves ∙ ap (at_channel 2 after_read_count) c.catch_up-in-2.ensures.meaning)
