-- The parts and the journal of a session may cross threads where its units and its notifiers may.
use denote.RattleType.{RattleType}
use denote.Param.Send.{IsSend, sendable}
use denote.Param.SendFields.{declared_send}
use Rattle.std.proofs.Crossing as heap
use Rattle.orc_io.specs.declared.notify.Notify as notify
use Rattle.session_model.specs.declared.traits.UnitKind as unit_kind
use Rattle.session_model.proofs.entry.Entry.TheSendSync as entry
use Rattle.session_parts.proofs.Crossing.{parts_send}
use Rattle.session_steps.specs.contracts.live.Live as Live

pub live_send : (U N : RattleType) (g : unit_kind.Ghosts U.Denot) (k : notify.Ghosts N.Denot) → IsSend U → IsSend N → IsSend (Live.the_row U N g k)
live_send U N g k u n = let parts = parts_send U N g k u n in declared_send (Live.the_type U N g k) (search (sendable, heap.crosses, entry.the_send) depth 20)
