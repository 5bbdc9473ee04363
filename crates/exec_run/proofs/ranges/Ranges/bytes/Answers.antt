-- The bytes that are seen are those of the copy, or the image's.
use Rattle.std.proofs.Common.{◌≡◌, ◌∙◌, ◌+◌, ◌-◌, Some, None, length, take, drop, get_or, ap, sym, arith}
use Rattle.std.specs.Prelude.{option_map}
use Rattle.code_memory.specs.declared.image.Segment.{Segment}
use Rattle.exec_run.specs.Regions.{bytes_of}
use Rattle.exec_run.proofs.Copies.{copy_is}
use Rattle.exec_run.proofs.Places.{seen_few, seen_within, seen_get, place_within}
use Rattle.exec_run.proofs.ranges.Ranges.bytes.Goals as goal

pub offset_bounds-segments-k : goal.offset_bounds-segments-k
offset_bounds-segments-k c = omega (arith, c.requires, seen_few _ _ _ c.args.self.now c.self.invariant.copied c.self.view_is)

pub bounds-segments-k : goal.bounds-segments-k
bounds-segments-k c = seen_within _ _ _ c.args.self.now c.args.k c.self.view_is c.requires

pub slice_bounds-result-end : goal.slice_bounds-result-end
slice_bounds-result-end c =
    let i = c.self.inside in
    let is : get_or i.places.items c.args.k None ≡ Some c.in-Some.place = ap (λ ps. get_or ps c.args.k None) (sym c.deref.ensures.value) ∙ sym c.place_of.ensures ∙ c.in-Some.is in
    let within = place_within i.segments.now i.places.items i.pool.items _ c.args.k c.in-Some.place c.index-segments-k.result c.self.invariant.copied (seen_within _ _ _ c.args.self.now c.args.k c.self.view_is c.requires) c.index-segments-k.is is in
    omega (arith, within, ap (λ (s : Segment). length s.bytes) c.index-segments-k.is, ap length c.as_slice-bytes.ensures, ap length c.deref-in-Some.ensures.value)

pub returns-in-Some : goal.returns-in-Some
returns-in-Some c =
    let i = c.self.inside in
    let s = c.index-segments-k.result in
    let place = c.in-Some.place in
    let is : get_or i.places.items c.args.k None ≡ Some place = ap (λ ps. get_or ps c.args.k None) (sym c.deref.ensures.value) ∙ sym c.place_of.ensures ∙ c.in-Some.is in
    let long : length s.bytes ≡ place + length c.as_slice-bytes.result.now - place = omega (arith, ap (λ (s : Segment). length s.bytes) c.index-segments-k.is, ap length c.as_slice-bytes.ensures) in
    ap (option_map (λ (s : Segment). s.bytes)) (seen_get _ _ _ c.args.self.now c.args.k s c.self.view_is c.requires c.index-segments-k.is)
    ∙ ap Some (copy_is i.pool.items (get_or i.places.items c.args.k None) place s.bytes is ∙ ap (λ n. take n (drop place i.pool.items)) long
    ∙ ap (λ bs. take (place + length c.as_slice-bytes.result.now - place) (drop place bs)) (sym c.deref-in-Some.ensures.value))

pub returns-in-None : goal.returns-in-None
returns-in-None c =
    let i = c.self.inside in
    let s = c.index-segments-k.result in
    let none : get_or i.places.items c.args.k None ≡ None = ap (λ ps. get_or ps c.args.k None) (sym c.deref.ensures.value) ∙ sym c.place_of.ensures ∙ c.in-None.is in
    ap (option_map (λ (s : Segment). s.bytes)) (seen_get _ _ _ c.args.self.now c.args.k s c.self.view_is c.requires c.index-segments-k.is)
    ∙ ap (λ p. Some (bytes_of i.pool.items p s.bytes)) none
    ∙ ap Some (ap (λ (s : Segment). s.bytes) c.index-segments-k.is ∙ sym c.as_slice-bytes.ensures)
