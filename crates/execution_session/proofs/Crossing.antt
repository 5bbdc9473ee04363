-- A session may cross threads where its units and its notifiers may.
use denote.RattleType.{RattleType}
use denote.Param.Send.{IsSend, sendable}
use denote.Param.SendFields.{declared_send}
use Rattle.orc_io.specs.declared.notify.Notify as notify
use Rattle.session_model.specs.declared.traits.UnitKind as unit_kind
use Rattle.session_steps.proofs.Crossing.{live_send}
use Rattle.execution_session.specs.contracts.session.Session as Session
use Rattle.execution_session.specs.contracts.session.Session.TheInside as Inside

inside_send : (U N : RattleType) (J : RattleType) (g : unit_kind.Ghosts U.Denot) (k : notify.Ghosts N.Denot) → IsSend U → IsSend N → IsSend (Inside.the_row U N J g k)
inside_send U N J g k u n = let live = live_send U N g k u n in declared_send (Inside.the_type U N J g k) (live, tt)

pub session_send : (U N : RattleType) (J : RattleType) (g : unit_kind.Ghosts U.Denot) (k : notify.Ghosts N.Denot) → IsSend U → IsSend N → IsSend (Session.the_row U N J g k)
session_send U N J g k u n = let inside = inside_send U N J g k u n in search sendable depth 20
