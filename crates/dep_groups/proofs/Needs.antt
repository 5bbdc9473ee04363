-- What groups need: places for all that their dependencies name.
use Rattle.std.proofs.Common.{◌≡◌, ℕ, Option, Some, None, ◌<◌, List, Contains, sym, subst, ◌∙◌, refl}
use Rattle.std.specs.Prelude.{slice_get}
use Rattle.std.specs.Option.{option_map}
use Rattle.std.proofs.lemmas.Option.{same_Some, none-some, slice_get-map}
use Rattle.orc_ids.specs.declared.ids.InstId.{InstId}
use Rattle.dep_groups.specs.Frontier.{numbers}
use Rattle.dep_groups.proofs.Lists.{contains_at, at_contains}

pub numbers_below : (ids : List InstId) (n d : ℕ) → ((i : InstId) → Contains ids i → i.0 < n) → Contains (numbers ids) d → d < n
numbers_below ids n d below named =
    let k = contains_at (numbers ids) d named in
    sort k.0 (slice_get ids k.0) refl (sym (slice_get-map (λ (i : InstId). i.0) ids k.0) ∙ k.1)
  where
    sort : (k : ℕ) (o : Option InstId) → slice_get ids k ≡ o → option_map (λ (i : InstId). i.0) o ≡ Some d → d < n
    sort k None at is = absurd (none-some d is)
    sort k (Some i) at is = subst (λ m. m < n) (same_Some i.0 d is) (below i (at_contains ids k i at))
