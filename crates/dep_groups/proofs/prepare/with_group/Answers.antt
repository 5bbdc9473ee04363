use Rattle.std.proofs.Common.{List, Contains, subst, sym, arith}
use Rattle.orc_ids.specs.declared.ids.InstId.{InstId}
use Rattle.dep_groups.proofs.prepare.with_group.Goals as goal

pub returns : goal.returns
returns c = record {
  more = omega (arith, c.places_for-housed.ensures.more, c.places_for-places.ensures.more);
  members = λ m named.
      let less = c.places_for-housed.ensures.covers m (subst (λ (ms : List InstId). Contains ms m) (sym c.as_slice.ensures) named) in
      omega (arith, less, c.places_for-places.ensures.more);
  deps = λ d named. c.places_for-places.ensures.covers d (subst (λ (ds : List InstId). Contains ds d) (sym c.as_slice-2.ensures) named);
  member_count = omega (arith, c.in_ok-members.ensures, c.len.ensures);
  dep_count = omega (arith, c.in_ok-deps.ensures, c.len-2.ensures);
}
