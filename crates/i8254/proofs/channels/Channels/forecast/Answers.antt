use Rattle.std.proofs.Common.{◌≡◌, ℕ, Bool, Some, None, Option, unwrap_or, refl, arith}
use Rattle.rules.specs.I8254 as rules
use Rattle.rules.specs.I8254.{timer}
use Rattle.i8254_laws.specs.Foresight.{Foresees}
use Rattle.i8254_laws.specs.Runs.{timer_foresees}
use Rattle.i8254.specs.Channels.{view_channels}
use Rattle.i8254.specs.Forecasts.{Foretold}
use Rattle.i8254.specs.declared.forecast.TheConstants.{NEVER}
use Rattle.i8254.proofs.channels.Channels.forecast.Goals as goal

foretold : (t : rules.Timer) (out : Bool) (change : Option ℕ) → out ≡ timer.level t → Foresees timer t change → Foretold (record { out = out; due = unwrap_or change NEVER }) t
foretold t out (Some k) is f = record { level = is; within = (f.0, omega arith); stays = λ e. absurd (omega arith); changes = λ ne. f }
foretold t out None is f = record { level = is; within = (omega arith, omega arith); stays = λ e. f; changes = λ ne. absurd (ne refl) }

pub returns : goal.returns
returns c =
    let t = view_channels c.args.self.now in
    rw c.unwrap_or.ensures (foretold t c.out.result c.announce.result c.out.ensures (timer_foresees t c.announce.result c.announce.ensures))
