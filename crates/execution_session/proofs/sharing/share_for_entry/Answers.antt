use Rattle.std.proofs.Common.{refl, rules, arith}
use Rattle.execution_session.proofs.sharing.share_for_entry.Goals as goal

pub check_places-requires : goal.check_places-requires
check_places-requires g c κs within = (within.0, (within.1, ((search rules), (refl, (c.requires.rest, (omega arith))))))
