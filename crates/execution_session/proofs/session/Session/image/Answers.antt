use Rattle.std.proofs.Common.{refl, arith, rules}
use Rattle.session_steps.proofs.Declared.{stands}
use Rattle.execution_session.proofs.session.Session.image.Goals as goal

pub check_places-requires : goal.check_places-requires
check_places-requires g c κs within = (within.0, (within.1, ((search rules), (refl, (c.self.invariant, (omega arith))))))

pub copy_memory-requires : goal.copy_memory-requires
copy_memory-requires g c κs within = (within.0, (within.1, stands g.U.UnitKind.meaning g.row.JMAX c.self.inside.live.parts c.self.inside.live.journal.items _ c.self.invariant))
