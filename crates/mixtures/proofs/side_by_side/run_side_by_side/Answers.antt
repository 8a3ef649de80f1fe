use Rattle.rules.specs.Board.{Fitting}
use Rattle.mixture_laws.specs.Cutting.{cutting}
use Rattle.mixture_laws.specs.Decoding.{AllLawful}
use Rattle.mixture_laws.specs.Exchanging.{exchanging_0, exchanging_1, exchanging_2, exchanging_3}
use Rattle.mixtures.proofs.side_by_side.run_side_by_side.Goals as goal
use Rattle.mixtures.proofs.side_by_side.run_side_by_side.Given.{Over}

-- The four devices that the boards have in common, and their laws.
abbrev devices : (g : Over) → Fitting g.D0.Device.State g.D1.Device.State g.D2.Device.State g.D3.Device.State
devices g = record { kind_0 = g.D0.Device.meaning; kind_1 = g.D1.Device.meaning; kind_2 = g.D2.Device.meaning; kind_3 = g.D3.Device.meaning }

laws : (g : Over) → AllLawful (devices g)
laws g = record { lawful_0 = g.met.D0.Device.lawful; lawful_1 = g.met.D1.Device.lawful; lawful_2 = g.met.D2.Device.lawful; lawful_3 = g.met.D3.Device.lawful }

pub returns-clause-cutting : goal.returns-clause-cutting
returns-clause-cutting g c = cutting (devices g) _ _ c.run_new.ensures.same c.run_new-2.ensures.same

pub returns-clause-exchanging_0 : goal.returns-clause-exchanging_0
returns-clause-exchanging_0 g c = exchanging_0 (devices g) (laws g) g.E0.Device.meaning g.met.E0.Device.lawful _ _ c.run_new.ensures.same c.run_new-3.ensures.same

pub returns-clause-exchanging_1 : goal.returns-clause-exchanging_1
returns-clause-exchanging_1 g c = exchanging_1 (devices g) (laws g) g.E1.Device.meaning g.met.E1.Device.lawful _ _ c.run_new.ensures.same c.run_new-4.ensures.same

pub returns-clause-exchanging_2 : goal.returns-clause-exchanging_2
returns-clause-exchanging_2 g c = exchanging_2 (devices g) (laws g) g.E2.Device.meaning g.met.E2.Device.lawful _ _ c.run_new.ensures.same c.run_new-5.ensures.same

pub returns-clause-exchanging_3 : goal.returns-clause-exchanging_3
returns-clause-exchanging_3 g c = exchanging_3 (devices g) (laws g) g.E3.Device.meaning g.met.E3.Device.lawful _ _ c.run_new.ensures.same c.run_new-6.ensures.same
