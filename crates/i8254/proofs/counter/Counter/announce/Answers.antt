use Rattle.i8254_laws.specs.Machines.{counting}
use Rattle.i8254_laws.specs.Foresight.{still_foresees}
use Rattle.i8254.specs.Control.{untriggered_mode}
use Rattle.i8254.specs.Channels.{meant, view_still}
use Rattle.i8254.proofs.Standing.{untriggered_still}
use Rattle.i8254.proofs.counter.Counter.announce.Goals as goal

pub returns-in-Still : goal.returns-in-Still
returns-in-Still c =
    let counter = c.in-Still.field-0 in
    let count = meant (untriggered_mode counter.mode) counter.count in
    rw c.in-Still.is (still_foresees counting (view_still counter) (untriggered_still counter.mode count counter.value))
