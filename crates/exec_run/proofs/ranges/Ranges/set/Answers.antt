-- The copy has the byte, and so has the range.
use Rattle.std.proofs.Common.{◌∙◌, ◌+◌, ◌-◌, None, get_or, ap, set, subst, arith}
use Rattle.std.specs.Prelude.{vec_capacity}
use Rattle.code_memory.specs.declared.image.Segment.{Segment}
use Rattle.exec_run.specs.Regions.{all_shown, regions, region_of, AreCopied, HasPlaces, IsSet}
use Rattle.exec_run.proofs.Copies.{set_copied}
use Rattle.exec_run.proofs.Places.{address_read, place_within, seen_few, seen_within, set_seen}
use Rattle.exec_run.proofs.Regions.{inside}
use Rattle.exec_run.proofs.ranges.Ranges.set.Goals as goal

pub copied-place-requires-clause-there : goal.copied-place-requires-clause-there
copied-place-requires-clause-there c = seen_within _ _ _ c.args.self.now c.args.k c.self.view_is (inside c.args.self.now c.args.k c.requires.segment c.requires.there)

pub offset_bounds-self-inside-k : goal.offset_bounds-self-inside-k
offset_bounds-self-inside-k c = omega (arith, inside c.args.self.now c.args.k c.requires.segment c.requires.there, seen_few _ _ _ c.args.self.now c.self.invariant.copied c.self.view_is)

pub bounds-self-inside-k : goal.bounds-self-inside-k
bounds-self-inside-k c = seen_within _ _ _ c.args.self.now c.args.k c.self.view_is (inside c.args.self.now c.args.k c.requires.segment c.requires.there)

pub overflow_sub-from : goal.overflow_sub-from
overflow_sub-from c =
    let ss = c.self.inside.segments.now in
    let places = c.copied-place.new.places.items in
    let pool = c.copied-place.new.pool.items in
    let copied = c.copied-place.ensures.places.copied in
    let view = c.copied-place.ensures.same ∙ c.self.view_is in
    let s = c.index-self-k.result in
    let here = address_read ss places pool _ c.args.k c.args.at s c.args.self.now copied view c.requires c.index-self-k.is in
    let base = ap (λ (x : Segment). x.base) c.index-self-k.is in
    omega (arith, here.low, base)

pub overflow_add-place : goal.overflow_add-place
overflow_add-place c =
    let ss = c.self.inside.segments.now in
    let places = c.copied-place.new.places.items in
    let pool = c.copied-place.new.pool.items in
    let copied = c.copied-place.ensures.places.copied in
    let view = c.copied-place.ensures.same ∙ c.self.view_is in
    let s = c.index-self-k.result in
    let here = address_read ss places pool _ c.args.k c.args.at s c.args.self.now copied view c.requires c.index-self-k.is in
    let base = ap (λ (x : Segment). x.base) c.index-self-k.is in
    let within = place_within ss places pool _ c.args.k c.copied-place.result s copied (seen_within _ _ _ c.args.self.now c.args.k c.self.view_is (inside c.args.self.now c.args.k c.requires.segment c.requires.there)) c.index-self-k.is c.copied-place.ensures.place in
    omega (arith, here.low, here.high, base, within, copied.small)

pub index_mut-requires : goal.index_mut-requires
index_mut-requires c =
    let ss = c.self.inside.segments.now in
    let places = c.copied-place.new.places.items in
    let pool = c.copied-place.new.pool.items in
    let copied = c.copied-place.ensures.places.copied in
    let view = c.copied-place.ensures.same ∙ c.self.view_is in
    let s = c.index-self-k.result in
    let here = address_read ss places pool _ c.args.k c.args.at s c.args.self.now copied view c.requires c.index-self-k.is in
    let base = ap (λ (x : Segment). x.base) c.index-self-k.is in
    let within = place_within ss places pool _ c.args.k c.copied-place.result s copied (seen_within _ _ _ c.args.self.now c.args.k c.self.view_is (inside c.args.self.now c.args.k c.requires.segment c.requires.there)) c.index-self-k.is c.copied-place.ensures.place in
    omega (arith, here.low, here.high, base, within, c.copied-place.new.pool.ok.0)

pub invariant_of-self : goal.invariant_of-self
invariant_of-self c =
    let ss = c.self.inside.segments.now in
    let places = c.copied-place.new.places.items in
    let pool = c.copied-place.new.pool.items in
    let copied = c.copied-place.ensures.places.copied in
    let view = c.copied-place.ensures.same ∙ c.self.view_is in
    let s = c.index-self-k.result in
    let here = address_read ss places pool _ c.args.k c.args.at s c.args.self.now copied view c.requires c.index-self-k.is in
    let base = ap (λ (x : Segment). x.base) c.index-self-k.is in
    subst (λ b. HasPlaces ss places (vec_capacity c.copied-place.new.places) (set pool (c.copied-place.result + (c.args.at - b)) c.args.byte) (vec_capacity c.copied-place.new.pool)) base (record {
      listed = c.copied-place.ensures.places.listed;
      copied = set_copied (regions ss places) pool _ c.args.k c.args.at c.copied-place.result c.args.byte (region_of s (get_or places c.args.k None)) copied here c.copied-place.ensures.place;
    })

pub returns-clause-done : goal.returns-clause-done
returns-clause-done c =
    let ss = c.self.inside.segments.now in
    let places = c.copied-place.new.places.items in
    let pool = c.copied-place.new.pool.items in
    let copied = c.copied-place.ensures.places.copied in
    let view = c.copied-place.ensures.same ∙ c.self.view_is in
    let s = c.index-self-k.result in
    let here = address_read ss places pool _ c.args.k c.args.at s c.args.self.now copied view c.requires c.index-self-k.is in
    let base = ap (λ (x : Segment). x.base) c.index-self-k.is in
    subst (λ b. IsSet c.args.self.now (all_shown (set pool (c.copied-place.result + (c.args.at - b)) c.args.byte) (regions ss places)) c.args.k c.args.at c.args.byte) base
    (set_seen ss places pool _ c.args.k c.args.at c.copied-place.result c.args.byte s c.args.self.now copied view here c.copied-place.ensures.place)

pub returns-clause-apart : goal.returns-clause-apart
returns-clause-apart c =
    let ss = c.self.inside.segments.now in
    let places = c.copied-place.new.places.items in
    let pool = c.copied-place.new.pool.items in
    let copied = c.copied-place.ensures.places.copied in
    let view = c.copied-place.ensures.same ∙ c.self.view_is in
    let s = c.index-self-k.result in
    let here = address_read ss places pool _ c.args.k c.args.at s c.args.self.now copied view c.requires c.index-self-k.is in
    let base = ap (λ (x : Segment). x.base) c.index-self-k.is in
    (subst (λ b. AreCopied (regions ss places) (set pool (c.copied-place.result + (c.args.at - b)) c.args.byte) (vec_capacity c.copied-place.new.pool)) base
    (set_copied (regions ss places) pool _ c.args.k c.args.at c.copied-place.result c.args.byte (region_of s (get_or places c.args.k None)) copied here c.copied-place.ensures.place)).segments
