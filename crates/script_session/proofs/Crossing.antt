-- A list of those that were told, and what a member does, may cross threads where units and notifiers may, and the gate may be shared.
use denote.RattleType.{RattleType}
use denote.Param.Send.{IsSend, IsSync, sendable}
use denote.Ref.{NamedLft}
use denote.Param.SendFields.{declared_send, variants_send}
use Rattle.std.proofs.Crossing as heap
use Rattle.notifiers.specs.contracts.chain.Queue as Queue
use Rattle.notifiers.specs.contracts.chain.Queue.TheInside as QueueInside
use Rattle.notifiers.specs.contracts.fires.FiredList as FiredList
use Rattle.notifiers.specs.contracts.fires.FiredList.TheInside as FiredInside
use Rattle.orc_io.specs.declared.notify.Notify.{Ghosts}
use Rattle.notifiers.proofs.Crossing.{link_send}
use Rattle.script_model.proofs.calls.ClientCall.TheSendSync as call
use Rattle.script_model.proofs.line_end.LineEnd.TheSendSync as line_end
use Rattle.orc_names.proofs.hasher.NameHasher.TheSendSync as hasher
use Rattle.script_session.specs.contracts.client.ClientEnd as ClientEnd
use Rattle.script_session.specs.contracts.members.Common as Common
use Rattle.script_session.specs.contracts.members.Member as Member
use Rattle.script_session.specs.contracts.members.Role as Role

queue_send : (N : RattleType) → IsSend N → IsSend (Queue.the_row N)
queue_send N s = let inside : IsSend (QueueInside.the_row N) = declared_send (QueueInside.the_type N) (link_send N s, (link_send N s, tt)) in search sendable depth 20

pub fired_send : (N : RattleType) (g : Ghosts N.Denot) → IsSend N → IsSend (FiredList.the_row N g)
fired_send N g s = let inside : IsSend (FiredInside.the_row N g) = declared_send (FiredInside.the_type N g) (queue_send N s, tt) in search sendable depth 20

client_end_send : (N : RattleType) → IsSend N → IsSend (ClientEnd.the_row N)
client_end_send N n = declared_send (ClientEnd.the_type N) (search (sendable, heap.crosses, line_end.the_send) depth 20)

role_send : (U N : RattleType) → IsSend U → IsSend N → IsSend (Role.the_row U N)
role_send U N u n = let client = client_end_send N n in variants_send (Role.enum U N) (search (sendable, heap.crosses, call.the_send) depth 20)

common_send : (a : NamedLft) (G : RattleType) → IsSync G → IsSend (Common.the_row a G)
common_send a G s = declared_send (Common.the_type a G) (search (sendable, heap.crosses, hasher.the_send) depth 20)

pub member_send : (a : NamedLft) (U N G : RattleType) (g : Ghosts N.Denot) → IsSend U → IsSend N → IsSync G → IsSend (Member.the_row a U N G g)
member_send a U N G g u n s =
    let common = common_send a G s in
    let role = role_send U N u n in
    let fired = fired_send N g n in
    declared_send (Member.the_type a U N G g) (search sendable depth 20)
