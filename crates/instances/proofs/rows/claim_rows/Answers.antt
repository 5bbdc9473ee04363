use Rattle.std.proofs.Common.{refl, ap, ◌∙◌, arith}
use Rattle.list_laws.proofs.Lists.{map_more}
use Rattle.session_model.specs.Change.{claimed_row}
use Rattle.instances.proofs.Spans.{claim_leaves, span_init, span_done}
use Rattle.instances.proofs.rows.claim_rows.Goals as goal

pub loop-i-init : goal.loop-i-init
loop-i-init c = record { rows = span_init (claimed_row c.args.u.0) c.args.rows.now.items c.args.u.0 c.args.span.first c.args.span.count (claim_leaves c.args.u.0) c.requires; capacity = refl }

pub loop-i-preserved : goal.loop-i-preserved
loop-i-preserved c = record {
  rows = map_more (claimed_row c.args.u.0) c.loop-i.i c.args.rows.now.items c.loop-i.rows.items c.index_mut.result.now c.claim_row.new.row c.loop-i.invariant.rows
      (omega (arith, c.loop-i-test.true, c.requires.inside)) (c.claim_row.ensures ∙ ap (claimed_row c.args.u.0) c.index_mut.ensures.value);
  capacity = c.loop-i.invariant.capacity;
}

pub returns-clause-rows : goal.returns-clause-rows
returns-clause-rows c = span_done (claimed_row c.args.u.0) c.args.rows.now.items c.loop-i.rows.items c.args.u.0 c.args.span.first c.args.span.count c.loop-i.i (claim_leaves c.args.u.0) c.requires c.loop-i-test.false c.loop-i.invariant.rows
