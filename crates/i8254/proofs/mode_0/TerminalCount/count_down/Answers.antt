use Rattle.std.proofs.Common.{◌≡◌, ℕ, ◌%◌, ◌≤◌, Bool, true, false, ◌||◌, nat_le, sym}
use Rattle.rules.specs.Device.{ticks}
use Rattle.i8254_laws.specs.Machines.{counting}
use Rattle.i8254_laws.specs.Counters.{less}
use Rattle.i8254_laws.specs.Mode0.{running, terminal}
use Rattle.i8254.proofs.mode_0.TerminalCount.count_down.Goals as goal

-- v stands for r
counts : (out : Bool) (k v r h : ℕ) → r % 65536 ≡ v → 1 ≤ r → r ≤ 65536 → h ≡ less k v → running (out || nat_le r k) h ≡ ticks counting k (running out v)
counts out k v r h same some many is = rw (is, ← same) (sym (terminal k r out some many))

pub returns-then-self : goal.returns-then-self
returns-then-self c =
    let at = c.ticks_to_zero in
    rw c.if-self.true (counts true c.args.n c.args.value at.result c.less.result at.ensures.same at.ensures.within.0 at.ensures.within.1 c.less.ensures)

pub returns-else-self : goal.returns-else-self
returns-else-self c =
    let at = c.ticks_to_zero in
    rw c.if-self.false (counts false c.args.n c.args.value at.result c.less.result at.ensures.same at.ensures.within.0 at.ensures.within.1 c.less.ensures)
