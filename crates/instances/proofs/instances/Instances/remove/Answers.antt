use Rattle.std.proofs.Common.{refl, subst, sym, List}
use Rattle.session_model.specs.declared.rows.InstRow.{InstRow}
use Rattle.instances.specs.Table.{removed_row}
use Rattle.instances.specs.Table.{AreChanged}
use Rattle.instances.proofs.Kept.{map_changed, spanned_changed}
use Rattle.instances.proofs.instances.Instances.remove.Goals as goal

pub invariant_of-self : goal.invariant_of-self
invariant_of-self c = spanned_changed (λ _ r. removed_row c.args.u.0 r) c.self.inside.rows.items c.remove_rows.new.rows.items c.self.inside.spans.items (λ j y. refl)
    (subst (λ (xs : List InstRow). AreChanged (λ _ r. removed_row c.args.u.0 r) c.self.inside.rows.items xs) (sym c.remove_rows.ensures.rows) (map_changed (removed_row c.args.u.0) c.self.inside.rows.items)) c.self.invariant
