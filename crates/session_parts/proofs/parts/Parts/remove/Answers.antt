use Rattle.std.proofs.Common.{ap, sym, subst, ◌∙◌, length}
use Rattle.mat_unit.specs.Jobs.{without_jobs_of}
use Rattle.session_parts.specs.Removed.{AreRemoved}
use Rattle.session_parts.proofs.Removal.{owned_below, owned_units, units_count, parts_ranged, all_removed}
use Rattle.session_parts.proofs.parts.Parts.remove.Goals as goal

pub drop_all_names-requires-clause-units : goal.drop_all_names-requires-clause-units
drop_all_names-requires-clause-units g c = owned_below g.U.UnitKind.meaning c.args.self.now g.m c.args.t c.take-owned.result c.args.self.now.graph.units c.requires.1.1.0 c.take-owned.ensures.owned c.requires.1.1.0.spans

pub remove-requires : goal.remove-requires
remove-requires g c = owned_below g.U.UnitKind.meaning c.args.self.now g.m c.args.t c.take-owned.result c.args.self.now.graph.units c.requires.1.1.0 c.take-owned.ensures.owned c.requires.1.1.0.spans

pub retire_all-requires-clause-there : goal.retire_all-requires-clause-there
retire_all-requires-clause-there g c = owned_below g.U.UnitKind.meaning c.args.self.now g.m c.args.t c.take-owned.result (length c.args.self.now.units.units) c.requires.1.1.0 c.take-owned.ensures.owned c.requires.1.1.0.kept.units.count

pub retire_all-requires-clause-ranged : goal.retire_all-requires-clause-ranged
retire_all-requires-clause-ranged g c = parts_ranged g.U.UnitKind.meaning c.args.self.now g.m c.requires.1.1.0

pub drop_jobs-requires : goal.drop_jobs-requires
drop_jobs-requires g c = owned_units g.U.UnitKind.meaning c.args.self.now g.m c.args.t c.take-owned.result (length c.retire_all.new.units.units) c.requires.1.1.0 c.take-owned.ensures.owned
    (units_count c.take-owned.result.units c.args.self.now.units.units c.retire_all.new.units.units c.retire_all.ensures.units ∙ c.requires.1.1.0.kept.units.count)

pub returns-clause-parts : goal.returns-clause-parts
returns-clause-parts g c = let r = c.requires.1.1 in
    all_removed g.U.UnitKind.meaning c.args.self.now g.m c.args.t c.take-owned.result c.drop_all_names.new.dylibs c.remove.new.self c.drop_jobs.new.self c.spend_all.new.generators c.take-owned.new.self c.retire_all.new.space c.shelf_drops.ensures r.0 r.1.0 r.1.1.0 r.1.1.1.1
    c.take-owned.ensures.owned c.take-owned.ensures.gone c.drop_all_names.ensures.rows c.drop_all_names.ensures.rest c.drop_all_names.ensures.count
    c.remove.ensures.rows c.remove.ensures.rooms.0
    (subst (λ us. AreRemoved c.take-owned.result.units c.args.self.now.units.units us) (sym (ap (λ r. r.units) c.drop_jobs.ensures)) c.retire_all.ensures.units)
    (ap (λ r. r.jobs) c.drop_jobs.ensures ∙ ap (without_jobs_of c.take-owned.result.units) c.retire_all.ensures.jobs)
    c.spend_all.ensures c.retire_all.ensures.space
