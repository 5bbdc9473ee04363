use Rattle.std.proofs.Common.{◌≡◌, ◌++◌, drop, map}
use Rattle.session_script.specs.Forms.{order_of}
use Rattle.session_script.proofs.lists.order_of.Given as goal

-- the order so far, and that of the items that are left
abbrev pub invariant-loop-item : goal.invariant-loop-item
invariant-loop-item l = l.order.items ++ order_of l.dylibs (map (λ w. w.now) (drop l.item-index l.items)) ≡ order_of l.dylibs (map (λ w. w.now) l.items)
