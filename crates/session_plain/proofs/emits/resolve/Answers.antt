use Rattle.std.proofs.Common.{◌∙◌, ap, sym, map, slice_get}
use Rattle.session_plain.specs.Meant.{meant, unit_row}
use Rattle.session_plain.proofs.EmitLemmas.{resolved_there, resolved_nowhere}
use Rattle.session_plain.proofs.emits.resolve.Goals as goal

pub returns-in-Some : goal.returns-in-Some
returns-in-Some g c = let means = g.U.UnitKind.meaning in
    resolved_there (meant means c.args.s.now) c.args.u.0 (unit_row means c.in-Some.x.now) c.resolve_all.new.rows.items (map (unit_row means) c.step_in.new.units.items)
    (ap (λ us. slice_get (map (unit_row means) us) c.args.u.0) (sym c.deref.ensures.value) ∙ sym (rw c.in-Some.is at c.unit_at.ensures.row))
    c.resolve_all.ensures c.step_in.ensures

pub returns-in_default : goal.returns-in_default
returns-in_default g c = let means = g.U.UnitKind.meaning in
    resolved_nowhere (meant means c.args.s.now) c.args.u.0
    (ap (λ us. slice_get (map (unit_row means) us) c.args.u.0) (sym c.deref.ensures.value) ∙ sym (rw c.in_default.is at c.unit_at.ensures.row))
