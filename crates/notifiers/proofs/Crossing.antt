-- A chain of notices may cross threads where its notifiers may.
use denote.RattleType.{RattleType}
use denote.Enum.Declared.{declared, row}
use denote.Hole.{as_row}
use denote.Hole.FixSend.{Sends, fix_send}
use denote.Param.Send.{IsSend, sendable}
use denote.Param.SendFields.{as_row_send, declared_send, variants_send}
use denote.Struct.Field.{row_field}
use Rattle.std.proofs.Crossing as heap
use Rattle.std.specs.contracts.alloc.Global as Heap
use Rattle.std.specs.contracts.boxed.Box as Box
use Rattle.std.specs.contracts.impls.GlobalAllocator.TheImpl.{ghosts}
use Rattle.notifiers.proofs.notice.Notice.TheSendSync as notice
use Rattle.notifiers.specs.contracts.chain.Link as Link
use Rattle.notifiers.specs.contracts.chain.Link.TheKnot as Knot
use Rattle.notifiers.proofs.notice.Unheard.TheSendSync as unheard
use Rattle.notifiers.specs.contracts.armed.Armed as Armed
use Rattle.notifiers.specs.contracts.armed.Armed.TheInside as Inside
use Rattle.notifiers.specs.contracts.notice.Unheard as Unheard
use Rattle.orc_io.specs.declared.notify.Notify.{Ghosts}
use Rattle.notifiers.specs.contracts.notice.Notice as Notice

-- each node, where the rest may
node_send : (N h : RattleType) → IsSend N → IsSend h → IsSend (row (declared (Knot.type-Link N h)))
node_send N h s rest =
    let notice : IsSend (as_row (Notice.the_field N)) = as_row_send (Notice.the_field N) (notice.the_field_send N s) in
    let node : IsSend (Box.the_row h Heap.the_row ghosts) = heap.Box-send h rest in
    variants_send (Knot.type-Link N h) (tt, ((as_row_send (row_field (as_row (Notice.the_field N))) notice, (as_row_send (row_field (Box.the_row h Heap.the_row ghosts)) node, tt)), tt))

hole_send : (N : RattleType) → IsSend N → IsSend (Link.the_hole N)
hole_send N s = fix_send (Link.the_ring N) (Link.by_members N (λ i. Sends (Link.the_ring N) i) (record { send = λ h all. node_send N (h (Link.the_member N)) s (all (Link.the_member N)) })) (Link.the_member N)

pub link_send : (N : RattleType) → IsSend N → IsSend (Link.the_row N)
link_send N s = variants_send (Link.enum N) (tt, ((as_row_send (Notice.the_field N) (notice.the_field_send N s), (heap.Box-send (Link.the_hole N) (hole_send N s), tt)), tt))

-- an object that was armed, with its room
inside_send : (N : RattleType) (g : Ghosts N.Denot) → IsSend N → IsSend (Inside.the_row N g)
inside_send N g s = declared_send (Inside.the_type N g) (as_row_send (Unheard.the_field N) (unheard.the_field_send N s), (heap.Box-send (Link.the_row N) (link_send N s), tt))

pub armed_send : (N : RattleType) (g : Ghosts N.Denot) → IsSend N → IsSend (Armed.the_row N g)
armed_send N g s = let inside = inside_send N g s in search sendable depth 20
