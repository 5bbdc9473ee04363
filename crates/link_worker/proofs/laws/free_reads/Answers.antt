use Rattle.link_worker.proofs.Seeing.{free_reads}
use Rattle.link_worker.proofs.laws.free_reads.Goals as goal

pub returns : goal.returns
returns g c = free_reads g.U.UnitKind.meaning
