use Rattle.std.proofs.Common.{sym, ◌∙◌}
use Rattle.link_graph.proofs.Labels.{upper_added, other_passed}
use Rattle.link_graph.proofs.pairs.upper_labels.Goals as goal
use Rattle.link_graph.proofs.pairs.upper_labels.Goals.{then-is_upper_kind+in_ok-insert, else-is_upper_kind}

pub loop-e-preserved : goal.loop-e-preserved
loop-e-preserved c = λ block offset. elim c.if-is_upper_kind.branch [
  | then-is_upper_kind+in_ok-insert w ↦
      rw w.keys-is
      (upper_added c.loop-e.keys.keys _ c.args.edges.now c.loop-e.e-index _ block offset c.loop-e-test.true (sym c.is_upper_kind.ensures ∙ w.if-is_upper_kind.true)
      (w.in_ok-insert.ensures.updates.0 (record { block = block; offset = offset }))
      (c.loop-e.invariant block offset))
  | else-is_upper_kind w ↦
      rw w.keys-is
      (other_passed c.loop-e.keys.keys c.args.edges.now c.loop-e.e-index _ block offset c.loop-e-test.true (sym c.is_upper_kind.ensures ∙ w.if-is_upper_kind.false)
      (c.loop-e.invariant block offset))
]
