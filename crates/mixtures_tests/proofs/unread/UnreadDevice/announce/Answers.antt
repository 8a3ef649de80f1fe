use Rattle.mixtures_tests.proofs.UnreadLaws.{announces_unread}
use Rattle.mixtures_tests.proofs.unread.UnreadDevice.announce.Goals as goal

pub returns : goal.returns
returns g c = announces_unread g.D.Device.meaning _ _ c.announce.ensures
