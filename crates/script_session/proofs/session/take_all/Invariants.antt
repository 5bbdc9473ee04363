use Rattle.std.proofs.Common.{◌≡◌, ◌++◌, length, map}
use Rattle.script_session.specs.Leaving.{HasRoom}
use Rattle.script_session.specs.Members.{ends_of, told_of, unlodged_of}
use Rattle.script_session.proofs.session.take_all.Given as goal

abbrev pub invariant-loop-member : goal.invariant-loop-member
invariant-loop-member g l = record {
  room : HasRoom (length l.members.items) l.left;
  set_up : l.left.end.set_up ≡ l.fn.left.end.set_up;
  clients : map (λ c. c.items) l.left.end.clients.items ++ ends_of l.members.items ≡ map (λ c. c.items) l.fn.left.end.clients.items ++ ends_of l.fn.members.items;
  told : l.left.notified.told.items ++ told_of l.members.items ≡ l.fn.left.notified.told.items ++ told_of l.fn.members.items;
  unlodged : map (λ c. c.items) l.left.notified.unlodged.items ++ unlodged_of l.members.items ≡ map (λ c. c.items) l.fn.left.notified.unlodged.items ++ unlodged_of l.fn.members.items;
}

abbrev pub decreases-loop-member : goal.decreases-loop-member
decreases-loop-member g l = length l.members.items
