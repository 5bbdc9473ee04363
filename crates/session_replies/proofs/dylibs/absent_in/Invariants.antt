-- Those so far are there.
use Rattle.std.proofs.Common.{◌≡◌, drop}
use Rattle.orc_ids.specs.declared.lookup.OrderItem.{OrderItem}
use Rattle.session_model.specs.Lists.{first_some}
use Rattle.session_replies.specs.Reasons.{absent}
use Rattle.session_replies.proofs.dylibs.absent_in.Given as goal

abbrev pub invariant-loop-item : goal.invariant-loop-item
invariant-loop-item l = first_some (λ (item : OrderItem). absent l.dylibs.dylibs item.dylib) (drop l.item-index l.order) ≡ first_some (λ (item : OrderItem). absent l.dylibs.dylibs item.dylib) l.order
