-- The range comes back to the gaps on both sides of it, or to what is above the last placement.
use Rattle.std.proofs.Common.{◌≡◌}
use Rattle.code_memory.specs.Gaps.{ending_below}
use Rattle.code_memory.proofs.Cuts.{given_below, given_last, given_between}
use Rattle.code_memory.proofs.ranges.give_back.Goals as goal

pub returns-then-end-last-clause-gaps : goal.returns-then-end-last-clause-gaps
returns-then-end-last-clause-gaps c = λ low p high cut kept.
    let count : c.count_below-at.result ≡ ending_below c.args.base c.args.gaps.now.items = c.count_below-at.ensures.count in
    let parts = given_below low p high c.args.gaps.now.items c.take_ending-start.new.gaps.items c.args.last c.args.base c.args.end c.count_below-at.result c.take_ending-start.result cut kept count c.take_ending-start.ensures.start c.take_ending-start.ensures.items in
    given_last low p high c.args.gaps.now.items c.take_ending-start.new.gaps.items c.args.last c.args.base c.args.end c.take_ending-start.result cut kept c.if-end-last.true parts.1 parts.2

pub returns-clause-gaps : goal.returns-clause-gaps
returns-clause-gaps c = λ low p high cut kept.
    let count : c.count_below-at.result ≡ ending_below c.args.base c.args.gaps.now.items = c.count_below-at.ensures.count in
    let parts = given_below low p high c.args.gaps.now.items c.take_ending-start.new.gaps.items c.args.last c.args.base c.args.end c.count_below-at.result c.take_ending-start.result cut kept count c.take_ending-start.ensures.start c.take_ending-start.ensures.items in
    given_between low p high c.args.gaps.now.items c.take_ending-start.new.gaps.items c.take_starting-top.new.gaps.items c.add_gap.new.gaps.items c.args.last c.args.base c.args.end c.count_below-at.result c.take_ending-start.result c.take_starting-top.result cut kept c.if-end-last.false parts.0 parts.1 parts.2
    c.take_starting-top.ensures.end c.take_starting-top.ensures.items c.add_gap.ensures.items
