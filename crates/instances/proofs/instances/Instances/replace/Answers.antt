use Rattle.std.proofs.Common.{◌-◌, refl, ap, ap₂, ◌∙◌}
use Rattle.instances.specs.Table.{Table, replaced_row}
use Rattle.instances.proofs.Kept.{spanned_changed, changed_length}
use Rattle.instances.proofs.instances.Instances.replace.Goals as goal

pub invariant_of-self : goal.invariant_of-self
invariant_of-self c = spanned_changed (replaced_row c.args.gone.now) c.self.inside.rows.items c.replace_rows.new.rows.items c.self.inside.spans.items (λ j y. refl) c.replace_rows.ensures.rows c.self.invariant

pub returns-clause-rooms : goal.returns-clause-rooms
returns-clause-rooms c =
    let long = changed_length (replaced_row c.args.gone.now) c.self.inside.rows.items c.replace_rows.new.rows.items c.replace_rows.ensures.rows in (
      ap (λ (t : Table). t.units) c.self.view_is,
      ap₂ (λ n k. n - k) c.replace_rows.ensures.capacity long ∙ ap (λ (t : Table). t.spare) c.self.view_is,
      ap (λ (t : Table). t.spare_units) c.self.view_is,
    )
