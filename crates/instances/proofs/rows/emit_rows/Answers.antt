use Rattle.std.proofs.Common.{◌<◌, ◌+◌, ◌++◌, take, drop, length, refl, ap, ◌∙◌, arith}
use Rattle.std.proofs.lemmas.List.{length-set}
use Rattle.std.proofs.lemmas.Option.{get_or_from_slice_get}
use Rattle.session_model.proofs.Changes.{numbered_more}
use Rattle.list_laws.proofs.Lists.{set_elsewhere}
use Rattle.session_model.specs.Lists.{numbered}
use Rattle.session_model.specs.Change.{emitted_row}
use Rattle.instances.proofs.Spans.{emitted_before, emitted_after, emitted_by}
use Rattle.instances.proofs.rows.emit_rows.Goals as goal

pub loop-j-init : goal.loop-j-init
loop-j-init c = record {
  rows = λ groups h. emitted_before c.args.rows.now.items c.args.u.0 c.args.first c.requires.span.0 groups c.requires.span.1
      ∙ ap (λ k. numbered (emitted_row c.args.u.0 groups) 0 (take k c.args.rows.now.items) ++ drop k c.args.rows.now.items) (omega arith);
  count = refl;
  inside = refl;
  ahead = λ i b. refl;
  capacity = refl;
}

pub loop-j-preserved : goal.loop-j-preserved
loop-j-preserved c =
    let j = c.loop-j.j in
    let i = c.args.first + j in
    let u = c.args.u.0 in
    let inv = c.loop-j.invariant in
    let span = c.requires.span in
    let within : j < length c.args.table.items = omega (arith, c.loop-j-test.true, ap length c.as_slice-j-end.ensures.value) in
    record {
      rows = λ groups h.
          let deps = c.replace-deps.ensures.value ∙ c.index_mut.ensures.value ∙ get_or_from_slice_get c.loop-j.table.items j _ _ (inv.ahead j (omega arith) ∙ h.each j within) in
          numbered_more (emitted_row u groups) i c.args.rows.now.items c.loop-j.rows.items c.index_mut-in-loop-j.result.now c.emit_row.new.row (inv.rows groups h) (omega (arith, within, span.1.inside, span.2))
          (c.emit_row.ensures ∙ emitted_by u i groups c.replace-deps.result c.index_mut-in-loop-j.result.now deps ∙ ap (emitted_row u groups i) c.index_mut-in-loop-j.ensures.value)
          ∙ ap (λ k. numbered (emitted_row u groups) 0 (take k c.args.rows.now.items) ++ drop k c.args.rows.now.items) (omega arith);
      count = length-set c.loop-j.rows.items i c.emit_row.new.row ∙ inv.count;
      inside = length-set c.loop-j.table.items j c.replace-deps.new.dest ∙ inv.inside;
      capacity = inv.capacity;
      ahead = λ k b. set_elsewhere c.loop-j.table.items j k c.replace-deps.new.dest (λ e. absurd (omega (arith, b, e))) ∙ inv.ahead k (omega (arith, b));
    }

pub returns-clause-rows : goal.returns-clause-rows
returns-clause-rows c = λ groups h.
    let span = c.requires.span in
    c.loop-j.invariant.rows groups h
    ∙ emitted_after c.args.rows.now.items c.args.u.0 c.args.first span.0 (c.args.first + c.loop-j.j) groups span.1 (omega (arith, c.loop-j-test.false, ap length c.as_slice-j-end.ensures.value, span.2))
