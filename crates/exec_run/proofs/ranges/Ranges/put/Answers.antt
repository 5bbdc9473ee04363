-- The copy has the value, and so has the range.
use Rattle.std.proofs.Common.{◌≡◌, ◌∙◌, ◌+◌, ◌-◌, ◌≤◌, Some, None, length, get_or, ap, sym, subst, arith}
use Rattle.code_memory.specs.declared.image.Segment.{Segment}
use Rattle.exec_run.specs.Regions.{regions, region_of, with_number, AreCopied}
use Rattle.exec_run.proofs.Copies.{put_copied}
use Rattle.exec_run.proofs.Places.{address_read, place_within, put_seen, seen_few, seen_within}
use Rattle.exec_run.proofs.Regions.{inside}
use Rattle.exec_run.proofs.ranges.Ranges.put.Goals as goal

pub offset_bounds-self-inside-k : goal.offset_bounds-self-inside-k
offset_bounds-self-inside-k c = omega (arith, inside c.args.self.now c.args.k c.requires.segment c.requires.there, seen_few _ _ _ c.args.self.now c.self.invariant.copied c.self.view_is)

pub bounds-self-inside-k : goal.bounds-self-inside-k
bounds-self-inside-k c = seen_within _ _ _ c.args.self.now c.args.k c.self.view_is (inside c.args.self.now c.args.k c.requires.segment c.requires.there)

pub overflow_sub-from : goal.overflow_sub-from
overflow_sub-from c =
    let i = c.self.inside in
    let s = c.index-self-k.result in
    let here = address_read i.segments.now i.places.items i.pool.items _ c.args.k c.args.at s c.args.self.now c.self.invariant.copied c.self.view_is c.requires c.index-self-k.is in
    omega (arith, here.low, ap (λ (x : Segment). x.base) c.index-self-k.is)

pub overflow_sub-len : goal.overflow_sub-len
overflow_sub-len c =
    let i = c.self.inside in
    let s = c.index-self-k.result in
    let here = address_read i.segments.now i.places.items i.pool.items _ c.args.k c.args.at s c.args.self.now c.self.invariant.copied c.self.view_is c.requires c.index-self-k.is in
    omega (arith, here.low, here.high, ap (λ (x : Segment). x.base) c.index-self-k.is, ap (λ (x : Segment). length x.bytes) c.index-self-k.is, c.len.ensures)

pub put-requires : goal.put-requires
put-requires c =
    let i = c.self.inside in
    let s = c.index-self-k.result in
    let is : get_or i.places.items c.args.k None ≡ Some c.in-Some.place = ap (λ ps. get_or ps c.args.k None) (sym c.deref.ensures.value) ∙ sym c.place_of.ensures ∙ c.in-Some.is in
    let here = address_read i.segments.now i.places.items i.pool.items _ c.args.k c.args.at s c.args.self.now c.self.invariant.copied c.self.view_is c.requires c.index-self-k.is in
    let base = ap (λ (x : Segment). x.base) c.index-self-k.is in
    let fits : c.args.at - s.base + c.args.width ≤ length s.bytes = omega (arith, here.low, here.high, base, ap (λ (x : Segment). length x.bytes) c.index-self-k.is, c.len.ensures, c.from.ensures, c.if-len-from.false) in
    let within = place_within i.segments.now i.places.items i.pool.items _ c.args.k c.in-Some.place s c.self.invariant.copied (seen_within _ _ _ c.args.self.now c.args.k c.self.view_is (inside c.args.self.now c.args.k c.requires.segment c.requires.there)) c.index-self-k.is is in
    omega (arith, base, fits, within, i.pool.ok.0)

pub overflow_add-place : goal.overflow_add-place
overflow_add-place c =
    let i = c.self.inside in
    let s = c.index-self-k.result in
    let is : get_or i.places.items c.args.k None ≡ Some c.in-Some.place = ap (λ ps. get_or ps c.args.k None) (sym c.deref.ensures.value) ∙ sym c.place_of.ensures ∙ c.in-Some.is in
    let here = address_read i.segments.now i.places.items i.pool.items _ c.args.k c.args.at s c.args.self.now c.self.invariant.copied c.self.view_is c.requires c.index-self-k.is in
    let base = ap (λ (x : Segment). x.base) c.index-self-k.is in
    let fits : c.args.at - s.base + c.args.width ≤ length s.bytes = omega (arith, here.low, here.high, base, ap (λ (x : Segment). length x.bytes) c.index-self-k.is, c.len.ensures, c.from.ensures, c.if-len-from.false) in
    let within = place_within i.segments.now i.places.items i.pool.items _ c.args.k c.in-Some.place s c.self.invariant.copied (seen_within _ _ _ c.args.self.now c.args.k c.self.view_is (inside c.args.self.now c.args.k c.requires.segment c.requires.there)) c.index-self-k.is is in
    omega (arith, base, fits, within, c.self.invariant.copied.small)

pub invariant_of-self : goal.invariant_of-self
invariant_of-self c =
    let i = c.self.inside in
    let s = c.index-self-k.result in
    let is : get_or i.places.items c.args.k None ≡ Some c.in-Some.place = ap (λ ps. get_or ps c.args.k None) (sym c.deref.ensures.value) ∙ sym c.place_of.ensures ∙ c.in-Some.is in
    let here = address_read i.segments.now i.places.items i.pool.items _ c.args.k c.args.at s c.args.self.now c.self.invariant.copied c.self.view_is c.requires c.index-self-k.is in
    let base = ap (λ (x : Segment). x.base) c.index-self-k.is in
    let fits : c.args.at - s.base + c.args.width ≤ length s.bytes = omega (arith, here.low, here.high, base, ap (λ (x : Segment). length x.bytes) c.index-self-k.is, c.len.ensures, c.from.ensures, c.if-len-from.false) in
    let written : c.put.new.bytes.items ≡ with_number i.pool.items (c.in-Some.place + (c.args.at - s.base)) c.args.width c.args.value = c.put.ensures.items ∙ ap (λ b. with_number i.pool.items (c.in-Some.place + (c.args.at - b)) c.args.width c.args.value) (sym base) in
    record {
      listed = c.self.invariant.listed;
      copied = subst (AreCopied (regions i.segments.now i.places.items) c.put.new.bytes.items) (sym c.put.ensures.capacity) (
          put_copied (regions i.segments.now i.places.items) i.pool.items c.put.new.bytes.items _ c.args.k c.args.at c.in-Some.place c.args.width c.args.value (region_of s (get_or i.places.items c.args.k None)) c.self.invariant.copied here is fits written);
    }

pub returns-clause-done : goal.returns-clause-done
returns-clause-done c =
    let i = c.self.inside in
    let s = c.index-self-k.result in
    let is : get_or i.places.items c.args.k None ≡ Some c.in-Some.place = ap (λ ps. get_or ps c.args.k None) (sym c.deref.ensures.value) ∙ sym c.place_of.ensures ∙ c.in-Some.is in
    let here = address_read i.segments.now i.places.items i.pool.items _ c.args.k c.args.at s c.args.self.now c.self.invariant.copied c.self.view_is c.requires c.index-self-k.is in
    let base = ap (λ (x : Segment). x.base) c.index-self-k.is in
    let fits : c.args.at - s.base + c.args.width ≤ length s.bytes = omega (arith, here.low, here.high, base, ap (λ (x : Segment). length x.bytes) c.index-self-k.is, c.len.ensures, c.from.ensures, c.if-len-from.false) in
    let written : c.put.new.bytes.items ≡ with_number i.pool.items (c.in-Some.place + (c.args.at - s.base)) c.args.width c.args.value = c.put.ensures.items ∙ ap (λ b. with_number i.pool.items (c.in-Some.place + (c.args.at - b)) c.args.width c.args.value) (sym base) in
    put_seen i.segments.now i.places.items i.pool.items c.put.new.bytes.items _ c.args.k c.args.at c.in-Some.place c.args.width c.args.value s c.args.self.now c.self.invariant.copied c.self.view_is here is fits written

pub returns-clause-apart : goal.returns-clause-apart
returns-clause-apart c =
    let i = c.self.inside in
    let s = c.index-self-k.result in
    let is : get_or i.places.items c.args.k None ≡ Some c.in-Some.place = ap (λ ps. get_or ps c.args.k None) (sym c.deref.ensures.value) ∙ sym c.place_of.ensures ∙ c.in-Some.is in
    let here = address_read i.segments.now i.places.items i.pool.items _ c.args.k c.args.at s c.args.self.now c.self.invariant.copied c.self.view_is c.requires c.index-self-k.is in
    let base = ap (λ (x : Segment). x.base) c.index-self-k.is in
    let fits : c.args.at - s.base + c.args.width ≤ length s.bytes = omega (arith, here.low, here.high, base, ap (λ (x : Segment). length x.bytes) c.index-self-k.is, c.len.ensures, c.from.ensures, c.if-len-from.false) in
    let written : c.put.new.bytes.items ≡ with_number i.pool.items (c.in-Some.place + (c.args.at - s.base)) c.args.width c.args.value = c.put.ensures.items ∙ ap (λ b. with_number i.pool.items (c.in-Some.place + (c.args.at - b)) c.args.width c.args.value) (sym base) in
    (put_copied (regions i.segments.now i.places.items) i.pool.items c.put.new.bytes.items _ c.args.k c.args.at c.in-Some.place c.args.width c.args.value (region_of s (get_or i.places.items c.args.k None)) c.self.invariant.copied here is fits written).segments
