-- One visit more was looked at.
use Rattle.std.proofs.Common.{◌∙◌, ◌<◌, subst, sym, arith}
use Rattle.dep_groups.proofs.Lists.{none_case}
use Rattle.dep_groups.proofs.Trails.{group_within, more_then, exhausted_next}
use Rattle.dep_groups.proofs.trail.search.Goals as goal

pub advance-start-requires-clause-within : goal.advance-start-requires-clause-within
advance-start-requires-clause-within c =
    subst (λ n. c.group_at.result < n) (sym c.loop-from.invariant.sizes)
    (group_within c.args.graph.now c.loop-from.trail c.loop-from.from c.group_at.result c.loop-from.invariant.trail c.group_at.ensures)

pub returns-then-is_some-clause-more : goal.returns-then-is_some-clause-more
returns-then-is_some-clause-more c = more_then c.args.trail.now c.loop-from.trail c.scan-found.new.trail c.loop-from.invariant.more c.scan-found.ensures.more

pub loop-from-preserved : goal.loop-from-preserved
loop-from-preserved c = record {
  trail = c.scan-found.ensures.trail;
  room = c.scan-found.ensures.room;
  more = more_then c.args.trail.now c.loop-from.trail c.scan-found.new.trail c.loop-from.invariant.more c.scan-found.ensures.more;
  cursors = c.advance-start.ensures.cursors;
  sizes = c.advance-start.auto.cursors ∙ c.loop-from.invariant.sizes ∙ sym c.scan-found.ensures.more.groups;
  looked = exhausted_next c.args.graph.now c.loop-from.trail c.scan-found.new.trail c.loop-from.from c.advance-start.result c.group_at.result (omega (arith, c.loop-from.trail.order.ok.0)) c.scan-found.ensures.more c.loop-from.invariant.looked (none_case c.scan-found.result _ _ (sym c.is_some.ensures ∙ c.if-is_some.false) c.scan-found.ensures.found) c.advance-start.ensures.passed c.group_at.ensures;
}
