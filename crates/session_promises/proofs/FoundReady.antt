-- What a lookup at Ready found is ready.
use Rattle.std.proofs.Common.{◌≡◌, true, List, Contains, take, subst, Option, Some}
use Rattle.std.specs.Option.{option_map_or}
use Rattle.std.proofs.lemmas.List.Elements.{All-contains}
use Rattle.std.proofs.lemmas.List.Sums.{AllPass-from_list_all}
use Rattle.orc_ids.specs.declared.ids.InstId.{InstId}
use Rattle.orc_ids.specs.declared.lookup.Level.TheVariants.{Ready}
use Rattle.session_model.specs.Query.{all_at, at_level}
use Rattle.session_model.specs.State.{state}
use Rattle.session_model.specs.declared.rows.InstRow.{InstRow}
use Rattle.session_laws.proofs.Declared.{ready_from_test}
use Rattle.session_promises.specs.Laws.{FoundIsReady}

-- each of the instances is at the level
each_at : (rows : List InstRow) (found : List (Option InstId)) (i : InstId) → all_at rows Ready found ≡ true → Contains found (Some i) → at_level rows Ready i.0 ≡ true
each_at rows found i all has = All-contains (λ (o : Option InstId). option_map_or (λ (j : InstId). at_level rows Ready j.0) o true ≡ true) found (Some i)
    (AllPass-from_list_all (λ (o : Option InstId). option_map_or (λ (j : InstId). at_level rows Ready j.0) o true) found all) has

pub found_is_ready : FoundIsReady
found_is_ready h l q at matches f at_ready i has = let rows = (state (take at h)).rows in
    ready_from_test rows i.0 (each_at rows f.found i (subst (λ v. all_at rows v f.found ≡ true) at_ready f.first.here) has)
