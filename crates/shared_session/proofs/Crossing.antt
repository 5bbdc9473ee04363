-- The session behind the turn may cross threads where its units and its notifiers may.
use denote.RattleType.{RattleType}
use denote.Param.Send.{IsSend, sendable}
use denote.Param.SendFields.{declared_send}
use Rattle.std.proofs.Crossing as heap
use Rattle.orc_io.specs.declared.notify.Notify as notify
use Rattle.session_model.specs.declared.traits.UnitKind as unit_kind
use Rattle.execution_session.proofs.Crossing.{session_send}
use Rattle.shared_session.specs.contracts.home.Home as Home

pub home_send : (U N J : RattleType) (g : unit_kind.Ghosts U.Denot) (k : notify.Ghosts N.Denot) → IsSend U → IsSend N → IsSend (Home.the_row U N J g k)
home_send U N J g k u n = let session = session_send U N J g k u n in declared_send (Home.the_type U N J g k) (search (sendable, heap.crosses) depth 20, tt)
