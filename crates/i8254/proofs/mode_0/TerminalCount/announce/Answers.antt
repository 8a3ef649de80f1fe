use Rattle.std.proofs.Common.{◌≡◌, ℕ, ◌+◌, ◌%◌, ◌≤◌, Bool, true, false, None, Some, refl, arith}
use Rattle.rules.specs.Device.{Announces}
use Rattle.rules.specs.I8254.{count_meant, mode_0}
use Rattle.i8254_laws.specs.Machines.{counting}
use Rattle.i8254_laws.specs.Counters.{mode_0_counter}
use Rattle.i8254_laws.specs.Foresight.{still_foresees}
use Rattle.i8254_laws.specs.Mode0.{high_stays, terminal_announces, terminal_waits_announces}
use Rattle.i8254.specs.Channels.{meant}
use Rattle.i8254.proofs.mode_0.TerminalCount.announce.Goals as goal

waits : (loaded : Bool) (w v r : ℕ) → r ≡ count_meant mode_0 w → 1 ≤ r → r ≤ 65536 → Announces counting (mode_0_counter false loaded (Some (count_meant mode_0 w)) v) (Some (r + 1))
waits loaded w v r means some many = rw (← means) (terminal_waits_announces r v loaded some many)

counts : (v r : ℕ) → r % 65536 ≡ v → 1 ≤ r → r ≤ 65536 → Announces counting (mode_0_counter false true None v) (Some r)
counts v r same some many = rw (← same) (terminal_announces r some many)

pub returns-then-self : goal.returns-then-self
returns-then-self c =
    let self = c.args.self in rw c.if-self.true (high_stays self.value self.loaded (meant mode_0 self.waiting) (omega arith))

pub returns-in-Some : goal.returns-in-Some
returns-in-Some c =
    let self = c.args.self in
    let at = c.ticks_to_zero in
    rw (c.if-self.false, c.in-Some.is) (waits self.loaded c.in-Some.count self.value at.result at.ensures.meant at.ensures.within.0 at.ensures.within.1)

pub returns-in-None : goal.returns-in-None
returns-in-None c =
    let at = c.ticks_to_zero-in-None in
    rw (c.if-self.false, c.in-None.is, c.if-self-2.true) (counts c.args.self.value at.result at.ensures.same at.ensures.within.0 at.ensures.within.1)

pub returns-in-None-2 : goal.returns-in-None-2
returns-in-None-2 c =
    rw (c.if-self.false, c.in-None.is, c.if-self-2.false) (still_foresees counting (mode_0_counter false false None c.args.self.value) refl)
