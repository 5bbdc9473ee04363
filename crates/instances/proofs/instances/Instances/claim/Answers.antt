use Rattle.std.proofs.Common.{refl, subst, sym, List}
use Rattle.session_model.specs.declared.rows.InstRow.{InstRow}
use Rattle.session_model.specs.Change.{claimed_row}
use Rattle.instances.specs.Table.{AreChanged}
use Rattle.instances.proofs.Kept.{map_changed, spanned_changed}
use Rattle.instances.proofs.instances.Instances.claim.Goals as goal

pub invariant_of-self : goal.invariant_of-self
invariant_of-self c = spanned_changed (λ _ r. claimed_row c.args.u.0 r) c.self.inside.rows.items c.claim_rows.new.rows.items c.self.inside.spans.items (λ j y. refl)
    (subst (λ (xs : List InstRow). AreChanged (λ _ r. claimed_row c.args.u.0 r) c.self.inside.rows.items xs) (sym c.claim_rows.ensures.rows) (map_changed (claimed_row c.args.u.0) c.self.inside.rows.items)) c.self.invariant
