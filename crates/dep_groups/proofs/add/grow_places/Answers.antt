use Rattle.std.proofs.Common.{◌∙◌, ◌++◌, ◌∷◌, [], ℕ, Option, List, ap, arith}
use Rattle.dep_groups.specs.Places.{place}
use Rattle.dep_groups.proofs.Adds.{place_grown}
use Rattle.dep_groups.proofs.add.grow_places.Goals as goal

pub loop-places-preserved : goal.loop-places-preserved
loop-places-preserved c = record {
  same = λ k. ap (λ (xs : List (Option ℕ)). place xs k) c.push_reserved.ensures.items ∙ ap (λ (o : Option ℕ). place (c.loop-places.places.items ++ o ∷ []) k) c.none.ensures ∙ place_grown c.loop-places.places.items k ∙ c.loop-places.invariant.same k;
  few = omega (arith, c.push_reserved.ensures.len, c.len.ensures, c.loop-places-test.true);
  room = omega (arith, c.push_reserved.ensures.capacity, c.loop-places.invariant.room);
}
