-- The ranges lie between the first base and the last end.
use Rattle.std.proofs.Common.{◌≡◌, ◌-◌, ◌<◌, Some, length, ap, sym, arith}
use Rattle.std.specs.Prelude.{slice_get}
use Rattle.orc_ids.specs.declared.limits.TheConstants.{CODE_START, CODE_END}
use Rattle.code_memory.specs.declared.image.Segment.{Segment}
use Rattle.exec_run.proofs.Places.{extent_is, extent_none}
use Rattle.exec_run.proofs.Regions.{bounds, inside, item_at}
use Rattle.exec_run.proofs.ranges.extent.Goals as goal

pub returns-in_default : goal.returns-in_default
returns-in_default c = extent_none c.args.segments.now (sym c.in_default.ensures.value)

pub overflow_sub-result : goal.overflow_sub-result
overflow_sub-result c =
    let ss = c.args.segments.now in
    let s = c.index-segments-0.result in
    let t = c.in-Some.last.now in
    let last : slice_get ss (length ss - 1) ≡ Some t = sym c.in-Some.ensures.value in
    let less : 0 < length ss = omega (arith, inside ss (length ss - 1) t last) in
    let is = extent_is ss s t c.requires (item_at ss 0 s less c.index-segments-0.is) last in
    let base = ap (λ (x : Segment). x.base) c.index-segments-0.is in
    omega (arith, is.0, base)

pub overflow_add-result : goal.overflow_add-result
overflow_add-result c =
    let ss = c.args.segments.now in
    let s = c.index-segments-0.result in
    let t = c.in-Some.last.now in
    let last : slice_get ss (length ss - 1) ≡ Some t = sym c.in-Some.ensures.value in
    let less : 0 < length ss = omega (arith, inside ss (length ss - 1) t last) in
    let is = extent_is ss s t c.requires (item_at ss 0 s less c.index-segments-0.is) last in
    let base = ap (λ (x : Segment). x.base) c.index-segments-0.is in
    omega (arith, is.0, base, c.len.ensures, bounds CODE_START ss CODE_END (length ss - 1) t c.requires last)

pub returns : goal.returns
returns c =
    let ss = c.args.segments.now in
    let s = c.index-segments-0.result in
    let t = c.in-Some.last.now in
    let last : slice_get ss (length ss - 1) ≡ Some t = sym c.in-Some.ensures.value in
    let less : 0 < length ss = omega (arith, inside ss (length ss - 1) t last) in
    let is = extent_is ss s t c.requires (item_at ss 0 s less c.index-segments-0.is) last in
    let base = ap (λ (x : Segment). x.base) c.index-segments-0.is in
    omega (arith, is.0, is.1, base, c.len.ensures)
