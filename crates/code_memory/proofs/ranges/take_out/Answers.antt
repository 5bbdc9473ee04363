-- The range comes out of what is above the last placement, or out of the gap between two.
use Rattle.std.proofs.Common.{◌≡◌, length, add-one, arith}
use Rattle.code_memory.proofs.Cuts.{taken_above, taken_between}
use Rattle.code_memory.proofs.ranges.take_out.Goals as goal

pub returns-then-at-len-clause-gaps : goal.returns-then-at-len-clause-gaps
returns-then-at-len-clause-gaps c = λ low p high cut kept place.
    taken_above low p high c.args.gaps.now.items c.add_gap.new.gaps.items c.args.last c.args.base c.args.end c.args.at cut kept place
    (let e : c.args.at ≡ length c.args.gaps.now.items = omega (arith, c.args.gaps.now.ok.0) in e) c.add_gap.ensures.items

pub returns-clause-gaps : goal.returns-clause-gaps
returns-clause-gaps c = λ low p high cut kept place.
    taken_between low p high c.args.gaps.now.items c.raise_start-gap.new.gaps.items c.add_gap-2.new.gaps.items c.raise_start-gap.result c.args.last c.args.base c.args.end c.args.at cut kept place
    (λ e. c.if-at-len.false (let same : c.args.at ≡ c.len.result = omega (arith, e, c.args.gaps.now.ok.0, c.len.ensures) in same))
    c.raise_start-gap.ensures.gap (rw add-one at c.raise_start-gap.ensures.items) c.add_gap-2.ensures.items
