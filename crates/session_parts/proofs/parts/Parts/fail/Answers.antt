use Rattle.std.proofs.Common.{refl, sym, subst}
use Rattle.session_model.specs.Lists.{changed_at}
use Rattle.session_model.specs.Change.{failed}
use Rattle.mat_unit.specs.Changes as one
use Rattle.session_parts.specs.Tied.{IsTied}
use Rattle.session_laws.proofs.Declared.{changed_length}
use Rattle.session_parts.specs.Parts.{kept_of}
use Rattle.session_parts.proofs.Steps.{with_graph, unit_below, ranged_has_range, failed_either}
use Rattle.session_parts.proofs.Ties.{kept_unit}
use Rattle.session_parts.proofs.parts.Parts.fail.Goals as goal

pub free-requires : goal.free-requires
free-requires g c = record { placed = λ y e r. ranged_has_range g.U.UnitKind.meaning c.args.self.now g.m c.args.u y c.requires.1.1.0 e r }

pub fail-requires-2 : goal.fail-requires-2
fail-requires-2 g c = unit_below g.U.UnitKind.meaning c.args.self.now g.m c.args.u.0 c.requires.1.1.1.0.0 c.requires.1.1.0 c.requires.1.1.1.0.1

pub returns-clause-parts : goal.returns-clause-parts
returns-clause-parts g c = let x = c.requires.1.1.1.0 in
    let y = kept_unit g.U.UnitKind.meaning (kept_of c.args.self.now) g.m c.args.u.0 x.0 c.requires.1.1.0.kept x.1 in
    with_graph g.U.UnitKind.meaning c.args.self.now (record (c.args.self.now) { graph = c.fail.new.self; space = c.free.new.space }) c.fail.new.self c.fail-2.new.self _ g.m _ c.requires.1.1.0 refl c.fail.ensures.rooms.0
    c.fail-2.ensures (changed_length c.args.u.0 _ g.m.units)
    (subst (λ rows. IsTied g.U.UnitKind.meaning (record (kept_of c.args.self.now) { rows = rows; units = changed_at c.args.u.0 one.failed c.args.self.now.units.units; memory = c.free.new.space }) (failed c.args.u.0 g.m)) (sym c.fail.ensures.rows)
    (failed_either g.U.UnitKind.meaning (kept_of c.args.self.now) g.m c.args.u x.0 y.0 c.free.new.space c.requires.1.1.0.kept x.1 y.1 (c.free.ensures y.0 y.1)))
