-- The parts of a session may cross threads where its units and its notifiers may.
use denote.RattleType.{RattleType}
use denote.Param.Send.{IsSend, sendable}
use denote.Param.SendFields.{declared_send}
use Rattle.std.proofs.Crossing as heap
use Rattle.orc_io.specs.declared.notify.Notify as notify
use Rattle.session_model.specs.declared.traits.UnitKind as unit_kind
use Rattle.code_memory.proofs.space.Space.TheSendSync as space
use Rattle.generators.proofs.generators.Generators.TheSendSync as generators
use Rattle.instances.proofs.graph.InstanceGraph.TheSendSync as graph
use Rattle.jit_dylib.proofs.dylibs.Dylibs.TheSendSync as dylibs
use Rattle.mat_unit.proofs.units.Units.TheSendSync as units
use Rattle.tracker.proofs.trackers.Trackers.TheSendSync as trackers
use Rattle.query_book.proofs.Crossing.{book_send}
use Rattle.session_parts.specs.contracts.parts.Parts as Parts

pub parts_send : (U N : RattleType) (g : unit_kind.Ghosts U.Denot) (k : notify.Ghosts N.Denot) → IsSend U → IsSend N → IsSend (Parts.the_row U N g k)
parts_send U N g k u n = let book = book_send N k n in declared_send (Parts.the_type U N g k) (search (sendable, heap.crosses, heap.send, dylibs.the_send, graph.the_send, units.the_send, generators.the_send, trackers.the_send, space.the_send) depth 20)
