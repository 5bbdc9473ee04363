use Rattle.std.proofs.Common.{ℕ, ◌≡◌, ◌+◌, ◌≤◌, ◌++◌, List, length, subst, ap, sym, ◌∙◌, arith}
use Rattle.std.proofs.lemmas.List.{length-append}
use Rattle.orc_ids.specs.declared.limits.TheConstants.{INSTANCE_LIMIT}
use Rattle.session_model.specs.declared.rows.InstRow.{InstRow}
use Rattle.instances.specs.Spans.{AreSpanned}
use Rattle.instances.specs.Table.{Table, fresh_rows}
use Rattle.instances.specs.declared.span.Span.{Span}
use Rattle.instances.proofs.Fresh.{fresh_length, fresh_unit}
use Rattle.instances.proofs.Kept.{spanned_more}
use Rattle.instances.proofs.instances.Instances.define.Goals as goal

pub overflow_cast-count : goal.overflow_cast-count
overflow_cast-count c =
    let rows : List InstRow = c.self.inside.rows.items in
    let fresh : List InstRow = fresh_rows c.args.d.0 (length c.as_slice.result.now) 0 c.args.offers.now c.args.live.now in
    let after : length c.as_slice-3.result.now ≡ length (rows ++ fresh) = ap length (c.as_slice-3.ensures.value ∙ c.push_rows.ensures.rows) in
    let few : length rows + length c.args.offers.now ≤ INSTANCE_LIMIT = subst (λ (t : Table). length t.rows + length c.args.offers.now ≤ INSTANCE_LIMIT) (sym c.self.view_is) c.requires.few in
    let most = fresh_length c.args.d.0 (length c.as_slice.result.now) 0 c.args.offers.now c.args.live.now in
    omega (arith, after, length-append rows fresh, few, most)

pub invariant_of-self : goal.invariant_of-self
invariant_of-self c =
    let rows : List InstRow = c.self.inside.rows.items in
    let its : List Span = c.self.inside.spans.items in
    let u : ℕ = length c.as_slice.result.now in
    let fresh : List InstRow = fresh_rows c.args.d.0 u 0 c.args.offers.now c.args.live.now in
    let long : length (rows ++ fresh) ≡ length rows + length fresh = length-append rows fresh in
    let before : length c.as_slice-2.result.now ≡ length rows = ap length c.as_slice-2.ensures.value in
    let after : length c.as_slice-3.result.now ≡ length (rows ++ fresh) = ap length (c.as_slice-3.ensures.value ∙ c.push_rows.ensures.rows) in
    let few : length rows + length c.args.offers.now ≤ INSTANCE_LIMIT = subst (λ (t : Table). length t.rows + length c.args.offers.now ≤ INSTANCE_LIMIT) (sym c.self.view_is) c.requires.few in
    let most = fresh_length c.args.d.0 u 0 c.args.offers.now c.args.live.now in
    subst (λ (xs : List InstRow). AreSpanned xs c.push_reserved.new.self.items) (sym c.push_rows.ensures.rows)
    (subst (λ (ys : List Span). AreSpanned (rows ++ fresh) ys) (sym c.push_reserved.ensures.items)
    (spanned_more rows fresh its _ c.self.invariant (omega (arith, long, few, most)) before (omega (arith, before, after, long))
    (λ i r e. fresh_unit c.args.d.0 u 0 c.args.offers.now c.args.live.now i r e ∙ ap length c.as_slice.ensures.value)))
