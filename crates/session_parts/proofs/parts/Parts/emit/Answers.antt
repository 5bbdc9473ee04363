use Rattle.std.proofs.Common.{ap, sym, subst, ◌∙◌, length, ◌<◌}
use Rattle.std.specs.Bool.{if◌then◌else◌}
use Rattle.session_model.specs.Lists.{changed_at}
use Rattle.session_model.specs.Change.{emitted}
use Rattle.code_memory.specs.Places.{with_bytes}
use Rattle.mat_unit.specs.Changes as one
use Rattle.session_parts.specs.Tied.{IsTied}
use Rattle.session_laws.proofs.Declared.{changed_length}
use Rattle.session_parts.specs.Parts.{kept_of, is_ranged}
use Rattle.session_parts.proofs.Steps.{with_graph, unit_below, ranged_image_fits, emitted_either}
use Rattle.session_parts.proofs.Ties.{kept_unit}
use Rattle.session_parts.proofs.parts.Parts.emit.Goals as goal

pub deposit-requires : goal.deposit-requires
deposit-requires g c = let x = c.requires.1.1.1.0 in record { fits = λ y e r. ranged_image_fits g.U.UnitKind.meaning c.args.self.now g.m c.args.u y x.0 c.args.bytes c.requires.1.1.0 e x.1 x.3 x.4 r }

pub done-requires : goal.done-requires
done-requires g c = let x = c.requires.1.1.1.0 in subst (λ n. c.args.u.0 < n) (sym (ap (λ p. length p.units.units) c.deposit.ensures.rest)) (unit_below g.U.UnitKind.meaning c.args.self.now g.m c.args.u.0 x.0 c.requires.1.1.0 x.1)

pub returns-clause-ok : goal.returns-clause-ok
returns-clause-ok g c = let x = c.requires.1.1.1.0 in
    let y = kept_unit g.U.UnitKind.meaning (kept_of c.args.self.now) g.m c.args.u.0 x.0 c.requires.1.1.0.kept x.1 in
    let space = c.deposit.ensures.done y.0 y.1 ∙ ap (λ bytes. if is_ranged g.U.UnitKind.meaning y.0 then with_bytes c.args.self.now.space c.args.u bytes else c.args.self.now.space) x.4 in
    with_graph g.U.UnitKind.meaning c.args.self.now c.deposit.new.self c.emit.new.self c.done.new.self _ g.m _ c.requires.1.1.0 c.deposit.ensures.rest c.in_ok-emit.ensures.rooms.0
    (c.done.ensures ∙ ap (λ p. record (p.units) { units = changed_at c.args.u.0 one.done p.units.units }) c.deposit.ensures.rest) (changed_length c.args.u.0 _ g.m.units)
    (subst (λ rows. IsTied g.U.UnitKind.meaning (record (kept_of c.args.self.now) { rows = rows; units = changed_at c.args.u.0 one.done c.args.self.now.units.units; memory = c.deposit.new.self.space }) (emitted c.args.u.0 c.args.groups.now g.m)) (sym c.in_ok-emit.ensures.emitted)
    (emitted_either g.U.UnitKind.meaning (kept_of c.args.self.now) g.m c.args.u c.args.groups.now x.0 y.0 c.deposit.new.self.space c.requires.1.1.0.kept x.1 y.1 x.2 space))
