use Rattle.std.proofs.Common.{◌≡◌, drop, map}
use Rattle.session_script.specs.Setup.{are_new}
use Rattle.session_script.proofs.lists.are_new.Given as goal

-- the definitions that are left decide
abbrev pub invariant-loop-definition : goal.invariant-loop-definition
invariant-loop-definition l = are_new l.seen (map (λ w. w.now) (drop l.definition-index l.definitions)) ≡ are_new l.fn.seen (map (λ w. w.now) l.definitions)
