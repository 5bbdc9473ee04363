use Rattle.std.proofs.Common.{◌≡◌, ◌++◌, map, drop}
use Rattle.session_model.specs.Change.{instance_of}
use Rattle.link_order.specs.declared.search.Find.{Find}
use Rattle.link_order.proofs.matching.instances.Given as goal

abbrev pub invariant-loop-find : goal.invariant-loop-find
invariant-loop-find l =
    l.found.items ++ map (λ (f : Find). instance_of f.found) (drop l.find-index l.all) ≡ map (λ (f : Find). instance_of f.found) l.all
