use Rattle.std.proofs.Common.{ℕ, Some, length, refl, ap, sym, ◌∙◌, arith}
use Rattle.std.proofs.lemmas.Option.{slice_get-get_or}
use Rattle.list_laws.proofs.Lists.{map_more}
use Rattle.session_model.specs.declared.rows.InstRow.{InstRow}
use Rattle.instances.specs.Rows.{addressed_row}
use Rattle.instances.proofs.Lists.{still_there, mapped_within}
use Rattle.instances.proofs.Spans.{address_leaves, span_init, span_done}
use Rattle.instances.proofs.rows.resolve_rows.Goals as goal

pub loop-i-init : goal.loop-i-init
loop-i-init g c =
    let address : ℕ → ℕ = λ k. (g.U.UnitKind.meaning c.args.unit.now).address k c.args.base in
    record { rows = span_init (addressed_row c.args.u.0 address) c.args.rows.now.items c.args.u.0 c.args.span.first c.args.span.count (address_leaves c.args.u.0 address) c.requires.span; capacity = refl }

pub resolve_row-requires : goal.resolve_row-requires
resolve_row-requires g c =
    let i = c.loop-i.i in
    let s = c.requires.span in
    let f : InstRow → InstRow = addressed_row c.args.u.0 (λ k. (g.U.UnitKind.meaning c.args.unit.now).address k c.args.base) in
    let same = mapped_within f i c.args.rows.now.items in
    let there = sym (still_there f i c.args.rows.now.items c.loop-i.rows.items c.loop-i.invariant.rows)
    ∙ slice_get-get_or c.loop-i.rows.items i c.index_mut.result.now (omega (arith, c.loop-i-test.true, s.inside, ap length c.loop-i.invariant.rows, same)) ∙ ap Some (sym c.index_mut.ensures.value) in
    λ own. c.requires.offers i c.index_mut.result.now there own

pub loop-i-preserved : goal.loop-i-preserved
loop-i-preserved g c =
    let f : InstRow → InstRow = addressed_row c.args.u.0 (λ k. (g.U.UnitKind.meaning c.args.unit.now).address k c.args.base) in
    record {
      rows = map_more f c.loop-i.i c.args.rows.now.items c.loop-i.rows.items c.index_mut.result.now c.resolve_row.new.row c.loop-i.invariant.rows
          (omega (arith, c.loop-i-test.true, c.requires.span.inside)) (c.resolve_row.ensures ∙ ap f c.index_mut.ensures.value);
      capacity = c.loop-i.invariant.capacity;
    }

pub returns-clause-rows : goal.returns-clause-rows
returns-clause-rows g c =
    let address : ℕ → ℕ = λ k. (g.U.UnitKind.meaning c.args.unit.now).address k c.args.base in
    span_done (addressed_row c.args.u.0 address) c.args.rows.now.items c.loop-i.rows.items c.args.u.0 c.args.span.first c.args.span.count c.loop-i.i (address_leaves c.args.u.0 address) c.requires.span c.loop-i-test.false c.loop-i.invariant.rows
