use Rattle.std.proofs.Common.{◌-◌, arith}
use Rattle.agenda.proofs.Heaps.{sound_shorter}
use Rattle.agenda.proofs.agenda.Agenda.take.Goals as goal

pub invariant_of-self : goal.invariant_of-self
invariant_of-self g c =
    let self = c.args.self.now in
    record { ready = sound_shorter g.met.E.Entry.order self.nodes.now (self.len - 1) self.len (omega arith) self.ready }
