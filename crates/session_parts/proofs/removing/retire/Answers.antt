use Rattle.std.proofs.Common.{ap, sym, subst}
use Rattle.session_parts.specs.Removed.{AreRanged}
use Rattle.session_parts.proofs.Retiring.{ranged_placed, range_freed, still_ranged}
use Rattle.session_parts.proofs.removing.retire.Goals as goal

pub free-requires : goal.free-requires
free-requires g c = record { placed = λ x e r. ranged_placed g.U.UnitKind.meaning c.args.units.now.units c.args.space.now c.args.u x c.requires.ranged e r }

pub returns-clause-space : goal.returns-clause-space
returns-clause-space g c = range_freed g.U.UnitKind.meaning c.args.units.now.units c.args.space.now c.free.new.space c.args.u c.requires.there c.requires.ranged c.free.ensures

pub returns-clause-ranged : goal.returns-clause-ranged
returns-clause-ranged g c = subst (λ (r : _). AreRanged g.U.UnitKind.meaning r c.free.new.space) (sym (ap (λ r. r.units) c.remove.ensures))
    (still_ranged g.U.UnitKind.meaning c.args.units.now.units c.args.space.now c.free.new.space c.args.u c.requires.ranged
    (range_freed g.U.UnitKind.meaning c.args.units.now.units c.args.space.now c.free.new.space c.args.u c.requires.there c.requires.ranged c.free.ensures))
