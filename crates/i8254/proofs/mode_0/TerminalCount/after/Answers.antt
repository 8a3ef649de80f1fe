use Rattle.std.proofs.Common.{◌≡◌, ◌<◌, ◌-◌, ◌∙◌, sym, arith, rules, false, None, refl}
use Rattle.rules.specs.TickLaws.{ticks_still, ticks_zero}
use Rattle.i8254_laws.specs.Machines.{counting}
use Rattle.i8254_laws.specs.Counters.{mode_0_counter}
use Rattle.i8254_laws.specs.Mode0.{terminal_waiting}
use Rattle.i8254.specs.Channels.{view_terminal_count}
use Rattle.i8254.proofs.mode_0.TerminalCount.after.Goals as goal

pub returns-in-Some-checked_sub : goal.returns-in-Some-checked_sub
returns-in-Some-checked_sub c =
    let self = c.args.self in
    let few : c.in-Some.count < 65536 = search rules in
    let rest : c.in-Some-checked_sub.rest ≡ c.args.n - 1 = search rules in
    rw c.in-Some.is
    (rw rest at c.count_down.ensures ∙ sym (terminal_waiting c.args.n c.in-Some.count self.value self.out self.loaded (omega arith) few))

pub returns-in-None-checked_sub : goal.returns-in-None-checked_sub
returns-in-None-checked_sub c =
    let none : c.args.n ≡ 0 = omega arith in
    rw none (sym (ticks_zero counting (view_terminal_count c.args.self)))

pub returns-in-None-2 : goal.returns-in-None-2
returns-in-None-2 c =
    let self = c.args.self in
    rw (c.in-None.is, c.if-self.false) (sym (ticks_still counting c.args.n (mode_0_counter self.out false None self.value) refl))
