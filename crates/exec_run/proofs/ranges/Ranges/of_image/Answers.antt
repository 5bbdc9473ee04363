-- No range has a copy, and there is room for all.
use Rattle.std.proofs.Common.{◌∙◌, sym, subst, arith}
use Rattle.code_memory.specs.Mapped.{AreSegments}
use Rattle.exec_run.proofs.Places.{fresh_places, fresh_seen}
use Rattle.exec_run.proofs.ranges.Ranges.of_image.Goals as goal

pub invariant_of-result : goal.invariant_of-result
invariant_of-result c =
    fresh_places c.segments-segments.result.now c.in_ok-with_capacity.field-0.items _ c.in_ok-with_capacity-2.field-0.items _ (subst AreSegments (sym c.segments-segments.ensures.list) c.segments-segments.ensures.apart) c.in_ok-with_capacity.ensures.items c.in_ok-with_capacity-2.ensures.items
    (omega (arith, c.in_ok-with_capacity.ensures.capacity)) (omega (arith, c.extent.ensures, c.in_ok-with_capacity-2.ensures.capacity))

pub returns-clause-image : goal.returns-clause-image
returns-clause-image c =
    fresh_seen c.segments-segments.result.now c.in_ok-with_capacity.field-0.items c.in_ok-with_capacity-2.field-0.items c.in_ok-with_capacity.ensures.items c.in_ok-with_capacity-2.ensures.items
    ∙ c.segments-segments.ensures.list
