-- As many bytes are seen as the image has.
use Rattle.std.proofs.Common.{◌∙◌, Some, None, length, get_or, ap, sym, arith}
use Rattle.std.specs.Prelude.{option_map}
use Rattle.code_memory.specs.declared.image.Segment.{Segment}
use Rattle.exec_run.specs.Regions.{regions, region_of}
use Rattle.exec_run.proofs.Copies.{shown_long}
use Rattle.exec_run.proofs.Places.{seen_few, seen_within, seen_get, region_at}
use Rattle.exec_run.proofs.Regions.{item_at}
use Rattle.exec_run.proofs.ranges.Ranges.size.Goals as goal

pub offset_bounds-segments-k : goal.offset_bounds-segments-k
offset_bounds-segments-k c = omega (arith, c.requires, seen_few _ _ _ c.args.self.now c.self.invariant.copied c.self.view_is)

pub bounds-segments-k : goal.bounds-segments-k
bounds-segments-k c = seen_within _ _ _ c.args.self.now c.args.k c.self.view_is c.requires

pub returns : goal.returns
returns c =
    let i = c.self.inside in
    let s = c.index-segments-k.result in
    let there = item_at i.segments.now c.args.k s (seen_within _ _ _ c.args.self.now c.args.k c.self.view_is c.requires) c.index-segments-k.is in
    ap (option_map (λ (s : Segment). length s.bytes)) (seen_get _ _ _ c.args.self.now c.args.k s c.self.view_is c.requires c.index-segments-k.is)
    ∙ ap Some (shown_long (regions i.segments.now i.places.items) i.pool.items _ c.args.k (region_of s (get_or i.places.items c.args.k None)) c.self.invariant.copied (region_at i.segments.now i.places.items c.args.k s there) ∙ ap (λ (s : Segment). length s.bytes) c.index-segments-k.is ∙ sym c.len.ensures)
