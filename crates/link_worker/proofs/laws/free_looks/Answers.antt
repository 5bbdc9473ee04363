use Rattle.link_worker.proofs.Seeing.{free_looks}
use Rattle.link_worker.proofs.laws.free_looks.Goals as goal

pub returns : goal.returns
returns g c = free_looks g.U.UnitKind.meaning
