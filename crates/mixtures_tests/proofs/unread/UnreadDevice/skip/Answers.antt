use Rattle.std.proofs.Common.{sym, ◌∙◌}
use Rattle.mixtures_tests.proofs.UnreadLaws.{ticks_unread}
use Rattle.mixtures_tests.proofs.unread.UnreadDevice.skip.Goals as goal

pub returns : goal.returns
returns g c = c.skip.ensures ∙ sym (ticks_unread g.D.Device.meaning _ _)
