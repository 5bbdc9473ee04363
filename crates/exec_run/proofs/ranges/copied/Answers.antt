-- The bytes of the range are added to the pool, which has room for them.
use Rattle.std.proofs.Common.{◌≡◌, ◌∙◌, ◌++◌, None, ap, sym, cond, arith, length, get_or}
use Rattle.std.specs.Prelude.{vec_capacity}
use Rattle.code_memory.specs.declared.image.Segment.{Segment}
use Rattle.exec_run.specs.Regions.{regions, region_of}
use Rattle.exec_run.proofs.Copies.{uncopied_within}
use Rattle.exec_run.proofs.Places.{made, region_at}
use Rattle.exec_run.proofs.Regions.{item_at}
use Rattle.exec_run.proofs.ranges.copied.Goals as goal

pub returns : goal.returns
returns c =
    let ss = c.args.segments.now in
    let places = c.args.places.now.items in
    let pool = c.args.pool.now.items in
    let s = c.index-segments-k.result in
    let there = item_at ss c.args.k s c.requires.there c.index-segments-k.is in
    let none : get_or places c.args.k None ≡ None = ap (λ ps. get_or ps c.args.k None) (sym c.deref.ensures.value) ∙ sym c.place_of.ensures ∙ c.in_default.is in
    let bytes : c.as_slice.result.now ≡ s.bytes = c.as_slice.ensures ∙ ap (λ (x : Segment). x.bytes) (sym c.index-segments-k.is) in
    let fits = uncopied_within (regions ss places) c.args.k (region_of s (get_or places c.args.k None)) (region_at ss places c.args.k s there) none in
    let done = c.extend_from_slice.ensures.succeeds (omega (arith, ap length bytes, c.args.pool.now.ok.0, c.requires.places.copied.room, fits)) in
    let added : c.extend_from_slice.new.self.items ≡ pool ++ s.bytes =
    c.extend_from_slice.ensures.items ∙ ap (λ b. cond b (pool ++ c.as_slice.result.now) pool) done ∙ ap (λ bs. pool ++ bs) bytes in
    let is = made ss places c.set_place.new.places.items pool c.extend_from_slice.new.self.items (vec_capacity c.args.places.now) (vec_capacity c.args.pool.now) (vec_capacity c.set_place.new.places) (vec_capacity c.extend_from_slice.new.self) c.args.k c.len-place.result s c.requires.places there none c.set_place.ensures.noted added (c.len-place.ensures ∙ c.args.pool.now.ok.0) c.set_place.ensures.capacity c.extend_from_slice.ensures.capacity in
    record { places = is.kept; same = is.same; place = is.named }
