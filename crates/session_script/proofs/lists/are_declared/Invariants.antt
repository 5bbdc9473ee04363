use Rattle.std.proofs.Common.{◌≡◌, drop, map}
use Rattle.session_script.specs.Forms.{are_declared}
use Rattle.session_script.proofs.lists.are_declared.Given as goal

-- the items that are left decide
abbrev pub invariant-loop-item : goal.invariant-loop-item
invariant-loop-item l = are_declared l.dylibs (map (λ w. w.now) (drop l.item-index l.items)) ≡ are_declared l.dylibs (map (λ w. w.now) l.items)
