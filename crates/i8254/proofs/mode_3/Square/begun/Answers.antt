use Rattle.std.proofs.Common.{◌∙◌, sym}
use Rattle.i8254_laws.specs.Mode3.{square_first, square_second}
use Rattle.i8254.proofs.mode_3.Square.begun.Goals as goal

pub returns-then-rest-first : goal.returns-then-rest-first
returns-then-rest-first c =
    let period = c.args.period in
    let within = rw (c.half_length-first.ensures, c.past_whole-rest.ensures, c.ticks.ensures) at c.if-rest-first.true in
    let part = rw (c.past_whole-rest.ensures, c.ticks.ensures) at c.part_of_half.ensures in
    part ∙ sym (square_first c.args.n period.ticks c.args.high period.within.0 within)

pub returns-else-rest-first : goal.returns-else-rest-first
returns-else-rest-first c =
    let period = c.args.period in
    let past = rw (c.half_length-first.ensures, c.past_whole-rest.ensures, c.ticks.ensures) at c.if-rest-first.false in
    let part = rw (c.half_length-first.ensures, c.past_whole-rest.ensures, c.ticks.ensures) at c.part_of_half-else-rest-first.ensures in
    part ∙ sym (square_second c.args.n period.ticks c.args.high period.within.0 past)
