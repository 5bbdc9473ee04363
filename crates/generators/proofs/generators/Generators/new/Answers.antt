use Rattle.generators.proofs.InLine.{none_kept}
use Rattle.generators.proofs.generators.Generators.new.Goals as goal

pub invariant_of-result : goal.invariant_of-result
invariant_of-result g c = none_kept g.U.UnitKind.meaning c.new.result.items c.new-2.result c.new-3.result c.new.ensures.items c.new-2.ensures c.new-3.ensures
