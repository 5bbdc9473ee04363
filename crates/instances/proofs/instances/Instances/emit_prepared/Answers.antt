use Rattle.std.proofs.Common.{ℕ, ◌-◌, List, length, vec_capacity, subst, refl, ap, ap₂, sym, ◌∙◌}
use Rattle.orc_ids.specs.declared.groups.Group.{Group}
use Rattle.session_model.specs.Lists.{numbered}
use Rattle.session_model.specs.Change.{emitted_row}
use Rattle.session_model.specs.declared.rows.InstRow.{InstRow}
use Rattle.instances.specs.Prepared.{IsPrepared}
use Rattle.instances.specs.Table.{Table, AreChanged}
use Rattle.instances.proofs.Kept.{numbered_changed, changed_length, spanned_changed}
use Rattle.instances.proofs.instances.Instances.emit_prepared.Goals as goal

-- what was prepared is so of the rows inside
prepared : (c : goal.After-emit_rows) (groups : List Group) → IsPrepared (c.args.self.now).rows c.args.u.0 groups c.args.prepared → IsPrepared c.self.inside.rows.items c.args.u.0 groups c.args.prepared
prepared c groups p = subst (λ (t : Table). IsPrepared t.rows c.args.u.0 groups c.args.prepared) (sym c.self.view_is) p

pub emit_rows-requires : goal.emit_rows-requires
emit_rows-requires c =
    let p = subst (λ (t : Table). IsPrepared t.rows c.args.u.0 c.requires.0 c.args.prepared) (sym c.self.view_is) c.requires.1 in
    record { span = (length c.args.prepared.deps.items, p.span, refl) }

pub invariant_of-self : goal.invariant_of-self
invariant_of-self c =
    let groups = c.requires.0 in
    let f : ℕ → InstRow → InstRow = emitted_row c.args.u.0 groups in
    spanned_changed f c.self.inside.rows.items c.emit_rows.new.rows.items c.self.inside.spans.items (λ j y. refl)
    (subst (λ (xs : List InstRow). AreChanged f c.self.inside.rows.items xs) (sym (c.emit_rows.ensures.rows groups (prepared c groups c.requires.1).deps)) (numbered_changed f c.self.inside.rows.items)) c.self.invariant

pub returns : goal.returns
returns c = λ groups p.
    let f : ℕ → InstRow → InstRow = emitted_row c.args.u.0 groups in
    let is = c.emit_rows.ensures.rows groups (prepared c groups p).deps in
    let long = ap length is ∙ changed_length f c.self.inside.rows.items (numbered f 0 c.self.inside.rows.items) (numbered_changed f c.self.inside.rows.items) in
    ap₂ (λ (xs : List InstRow) n. record { rows = xs; units = length c.self.inside.spans.items; spare = n; spare_units = vec_capacity c.self.inside.spans - length c.self.inside.spans.items }) is (ap₂ (λ n k. n - k) c.emit_rows.ensures.capacity long)
    ∙ ap (λ (t : Table). record t { rows = numbered f 0 t.rows }) c.self.view_is
