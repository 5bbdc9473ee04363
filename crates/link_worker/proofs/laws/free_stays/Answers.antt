use Rattle.link_worker.proofs.Freeing.{free_stays}
use Rattle.link_worker.proofs.laws.free_stays.Goals as goal

pub returns : goal.returns
returns g c = free_stays g.U.UnitKind.meaning
