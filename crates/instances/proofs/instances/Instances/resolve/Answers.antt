use Rattle.std.proofs.Common.{List, slice_get, subst, refl, ap, sym, ◌∙◌}
use Rattle.session_model.specs.declared.rows.InstRow.{InstRow}
use Rattle.instances.specs.Rows.{addressed_row}
use Rattle.instances.specs.Table.{Table, AreChanged}
use Rattle.instances.proofs.Kept.{map_changed, spanned_changed}
use Rattle.instances.proofs.instances.Instances.resolve.Goals as goal

pub resolve_rows-requires-clause-offers : goal.resolve_rows-requires-clause-offers
resolve_rows-requires-clause-offers g c i r e is = c.requires.offers i r (sym (ap (λ (t : Table). slice_get t.rows i) c.self.view_is) ∙ e) is

pub invariant_of-self : goal.invariant_of-self
invariant_of-self g c =
    let f : InstRow → InstRow = addressed_row c.args.u.0 (λ k. (g.U.UnitKind.meaning c.args.unit.now).address k c.args.base) in
    spanned_changed (λ _ r. f r) c.self.inside.rows.items c.resolve_rows.new.rows.items c.self.inside.spans.items (λ j y. refl)
    (subst (λ (xs : List InstRow). AreChanged (λ _ r. f r) c.self.inside.rows.items xs) (sym c.resolve_rows.ensures.rows) (map_changed f c.self.inside.rows.items)) c.self.invariant
