-- A define and a removal, whole; and addresses.
use Rattle.std.proofs.Common.{◌≡◌, ℕ, ◌<◌, ◌⊎◌, inl, inr, true, false, List, [], ◌∷◌, ◌++◌, length, map, slice_get, Option, Some, None, option_map, is_some, unwrap_or, refl, ap, sym, subst, ◌∙◌, zero, suc}
use Rattle.std.specs.Bool.{if◌then◌else◌}
use Rattle.std.specs.Prelude.{◌==◌}
use Rattle.std.specs.Option.{option_map_or}
use Rattle.std.proofs.lemmas.Bool.{both_ways}
use Rattle.std.proofs.lemmas.Option.{same_Some}
use Rattle.orc_ids.specs.declared.ids.DylibId.{DylibId}
use Rattle.orc_ids.specs.declared.ids.QueryId.{QueryId}
use Rattle.orc_ids.specs.declared.ids.TrackId.{TrackId}
use Rattle.orc_ids.specs.declared.ids.UnitId.{UnitId}
use Rattle.orc_ids.specs.declared.ids.NameId.{NameId}
use Rattle.session_model.specs.Lists.{changed_at, numbered}
use Rattle.session_model.specs.Meaning.{Meaning}
use Rattle.session_model.specs.Plain.{Plain, UnitRow, is_alias, unit_shape}
use Rattle.session_model.specs.Change.{verdicts, kept_names, without_replaced, new_unit, defined, removed, resolved, resolved_unit, resolved_row, target_address, waiting_unit}
use Rattle.session_model.specs.declared.rows.InstRow.{InstRow}
use Rattle.session_model.specs.declared.rows.Job.{Job}
use Rattle.session_model.specs.declared.rows.UnitPhase.TheVariants as stage
use Rattle.session_model.specs.declared.rows.Verdict.{Verdict}
use Rattle.session_model.specs.Memory.{is_done}
use Rattle.session_laws.specs.Sound.{IsSound}
use Rattle.session_laws.proofs.Declared.{numbered_at}
use Rattle.code_memory.specs.declared.placement.Placement.{Placement}
use Rattle.generators.specs.declared.generator.Generator.{Generator}
use Rattle.instances.specs.Rows.{addressed_row}
use Rattle.jit_dylib.specs.Rows.{replaced_instances}
use Rattle.jit_dylib.specs.Shelf.{Shelf}
use Rattle.mat_unit.specs.declared.unit.Unit.{Unit as OneUnit}
use Rattle.mat_unit.specs.Changes as one
use Rattle.tracker.specs.declared.owned.Owned.{Owned}
use Rattle.tracker.specs.Owners.{within, with_unit, without}
use Rattle.session_parts.specs.Units.{dylib_at, is_unlinked}
use Rattle.session_parts.specs.Stored.{IsStored, is_placed}
use Rattle.session_parts.specs.Defined.{AreLost}
use Rattle.session_parts.specs.Removed.{AreRemoved, AreFreed, AreSpent}
use Rattle.session_parts.specs.Tied.{Kept, IsTied, AreDylibs}
use Rattle.session_parts.proofs.NewUnits.{units_lost, units_pushed, stored_lost, stored_pushed}
use Rattle.session_parts.proofs.Memories.{no_range}
use Rattle.session_parts.proofs.OwnerChanges.{owners_with_unit}
use Rattle.session_parts.proofs.Removed.{units_removed, generators_removed, memory_removed, owners_removed}
use Rattle.session_parts.proofs.RowChanges.{IsSeenSame, dylibs_mapped}
use Rattle.session_parts.proofs.Storing.{changed_one, rephased}
use Rattle.session_parts.proofs.Ties.{unit_ties, as_kept, phase_of_kept, ready_after}
use Rattle.session_parts.proofs.UnitChanges.{owners_stay, KeepTrackers}

-- A define

lost_trackers : (rows : List InstRow) (found : List Verdict) (units : List UnitRow) → KeepTrackers units (numbered (without_replaced rows found) 0 units)
lost_trackers rows found units u t = ap (λ o. option_map_or (λ (x : UnitRow). x.tracker == t) o false) (numbered_at (without_replaced rows found) units u) ∙ one (slice_get units u)
  where
    one : (o : Option UnitRow) → option_map_or (λ (x : UnitRow). x.tracker == t) (option_map (without_replaced rows found u) o) false ≡ option_map_or (λ (x : UnitRow). x.tracker == t) o false
    one None = refl
    one (Some x) = refl

pub unit_defined : {U : Type 0} (means : U → Meaning) (k : Kept U) (m : Plain) (d : DylibId) (t : TrackId) (u : UnitId) (unit : U) (shelf : Shelf) (rows : List InstRow) (lost : List (OneUnit U)) → IsTied means k m → IsSound m →
    t.0 < length m.trackers → d.0 ≡ dylib_at m.trackers t.0 → u.0 ≡ length m.units →
    AreDylibs shelf m.dylibs (defined d.0 t.0 (means unit) (verdicts m.rows d.0 (means unit).offers) m).rows →
    rows ≡ (defined d.0 t.0 (means unit) (verdicts m.rows d.0 (means unit).offers) m).rows →
    AreLost m.rows (replaced_instances (verdicts m.rows d.0 (means unit).offers)) k.units lost →
    IsTied means (record k { shelf = shelf; rows = rows; units = lost ++ one.fresh unit d (kept_names (verdicts m.rows d.0 (means unit).offers)) ∷ []; owners = with_unit k.owners t u }) (defined d.0 t.0 (means unit) (verdicts m.rows d.0 (means unit).offers) m)
unit_defined {U} means k m d t u unit shelf rows lost tied sound b its at dylibs same ls = record {
  dylibs = dylibs;
  rows = same;
  units = units_pushed means lost units m.trackers t.0 (one.fresh unit d (kept_names found)) b its
      (record { flags = flags (means unit).offers; starts = λ h. refl; finishes = λ h. refl })
      (units_lost means k.units lost m.units m.trackers m.rows found ls tied.units);
  jobs = tied.jobs;
  generators = tied.generators;
  owners = owners_with_unit k.owners m.trackers units m.generators t u (new_unit t.0 (means unit) found) (at ∙ sym (Rattle.session_laws.proofs.Declared.numbered_length (without_replaced m.rows found) 0 m.units)) refl
      (owners_stay k.owners m.trackers m.units units m.generators (lost_trackers m.rows found m.units) tied.owners);
  memory = stored_pushed units k.memory (new_unit t.0 (means unit) found) refl refl (stored_lost m d.0 (means unit).offers k.memory sound tied.memory);
}
  where
    found : List Verdict
    found = verdicts m.rows d.0 (means unit).offers

    units : List UnitRow
    units = numbered (without_replaced m.rows found) 0 m.units

    flags : (offers : List (NameId × Rattle.orc_ids.specs.declared.flags.SymFlags.SymFlags)) → length (kept_names (verdicts m.rows d.0 offers)) ≡ length offers
    flags [] = refl
    flags (o ∷ os) = ap suc (flags os)

-- A removal

pub tracker_removed : {U : Type 0} (means : U → Meaning) (k : Kept U) (m : Plain) (t : TrackId) (o : Owned) (shelf : Shelf) (rows : List InstRow) (units : List (OneUnit U)) (jobs : List Job) (generators : List (Generator U)) (memory : List Placement) → IsTied means k m →
    t.0 < length m.trackers → within (slice_get k.owners.tracks t.0) ≡ Some o → AreDylibs shelf m.dylibs (removed t.0 m).rows → rows ≡ (removed t.0 m).rows → AreRemoved o.units k.units units → jobs ≡ (removed t.0 m).jobs → AreSpent o.generators k.generators generators → AreFreed o.units k.memory memory →
    IsTied means (record { shelf = shelf; rows = rows; units = units; jobs = jobs; generators = generators; owners = without k.owners t; memory = memory }) (removed t.0 m)
tracker_removed means k m t o shelf rows units jobs generators memory tied b its dylibs same gone js spent freed = record {
  dylibs = dylibs;
  rows = same;
  units = units_removed means k.units units m.units m.trackers t.0 o.units owned.units_are gone tied.units;
  jobs = js;
  generators = generators_removed means k.generators generators m.generators m.trackers t.0 o.generators owned.generators_are spent tied.generators;
  owners = owners_removed k.owners m.trackers m.units m.generators t b tied.owners;
  memory = memory_removed k.memory memory m.units t.0 o.units owned.units_are freed tied.memory;
}
  where
    owned : Rattle.session_parts.specs.Units.IsOwned m.units m.generators t.0 o
    owned = tied.owners.owned t.0 o its

-- Addresses

-- changes that agree on the one that is changed
changed_alike : {X : Type 0} (u : ℕ) (f g : X → X) (xs : List X) (x : X) → slice_get xs u ≡ Some x → f x ≡ g x → changed_at u f xs ≡ changed_at u g xs
changed_alike u f g [] x t e = refl
changed_alike zero f g (y ∷ ys) x t e = let same = same_Some y x t in ap (λ z. z ∷ ys) (ap f same ∙ (e ∙ ap g (sym same)))
changed_alike (suc u) f g (y ∷ ys) x t e = ap (λ zs. y ∷ zs) (changed_alike u f g ys x t e)

addressed_seen : (u : ℕ) (address : ℕ → ℕ) (r : InstRow) → IsSeenSame r (addressed_row u address r)
addressed_seen u address r = record { present = refl; dylib = refl; name = refl; flags = refl }

-- the session after a resolve of a unit that is there
pub resolved_there : (u : ℕ) (m : Plain) (x : UnitRow) → slice_get m.units u ≡ Some x → resolved u m ≡ record m { rows = map (resolved_row u (resolved_unit x)) m.rows; units = changed_at u resolved_unit m.units }
resolved_there u m x e = ap (λ o. option_map_or (λ (y : UnitRow). record m { rows = map (resolved_row u (resolved_unit y)) m.rows; units = changed_at u resolved_unit m.units }) o m) e

abbrev linking_row : UnitRow → UnitRow
linking_row x = record x { phase = stage.Linking }

-- of a unit that is no alias
pub unit_resolved : {U : Type 0} (means : U → Meaning) (k : Kept U) (m : Plain) (u : UnitId) (x : UnitRow) → IsTied means k m → slice_get m.units u.0 ≡ Some x → is_alias x ≡ false → (x.phase ≡ stage.Placed) ⊎ ((x.phase ≡ stage.Started) × (x.base ≡ None) × (unit_shape x ≡ None)) →
    IsTied means (record k { rows = map (addressed_row u.0 (λ j. x.meaning.address j (unwrap_or x.base 0))) k.rows; units = changed_at u.0 one.linking k.units }) (resolved u.0 m)
unit_resolved {U} means k m u x t e own p = subst (IsTied means (record k { rows = map (addressed_row u.0 (λ j. x.meaning.address j (unwrap_or x.base 0))) k.rows; units = changed_at u.0 one.linking k.units })) (sym is)
    (as_kept means (record k { rows = map (addressed_row u.0 (λ j. x.meaning.address j (unwrap_or x.base 0))) k.rows; units = changed_at u.0 one.linking k.units })
    (record m { rows = map (addressed_row u.0 (λ j. x.meaning.address j (unwrap_or x.base 0))) m.rows; units = changed_at u.0 linking_row m.units })
    (map (addressed_row u.0 (λ j. x.meaning.address j (unwrap_or x.base 0))) m.rows) m.jobs (ap (map (addressed_row u.0 (λ j. x.meaning.address j (unwrap_or x.base 0)))) (sym t.rows)) (sym t.jobs)
    (unit_ties means k m u.0 one.linking linking_row (map (addressed_row u.0 (λ j. x.meaning.address j (unwrap_or x.base 0))) m.rows) m.jobs k.memory t
    (record { row = λ t x. refl; tracker = λ x. refl; dylib = λ x. refl })
    (dylibs_mapped k.shelf m.dylibs m.rows (addressed_row u.0 (λ j. x.meaning.address j (unwrap_or x.base 0))) (addressed_seen u.0 (λ j. x.meaning.address j (unwrap_or x.base 0))) t.dylibs)
    (λ y f r. ready_after means y (one.linking y) refl refl refl (λ h. absurd cc) (λ h. unlinked y f p) r)
    (changed_one m.units k.memory u.0 linking_row x t.memory e (stored_here p))))
  where
    unit_is : resolved_unit x ≡ linking_row x
    unit_is = ap (λ b. record x { phase = if b then x.phase else stage.Linking; base = if b then Some (target_address x) else x.base }) own

    is : resolved u.0 m ≡ record m { rows = map (addressed_row u.0 (λ j. x.meaning.address j (unwrap_or x.base 0))) m.rows; units = changed_at u.0 linking_row m.units }
    is = resolved_there u.0 m x e ∙ (ap (λ (y : UnitRow). record m { rows = map (resolved_row u.0 y) m.rows; units = changed_at u.0 resolved_unit m.units }) unit_is
        ∙ ap (λ us. record m { rows = map (addressed_row u.0 (λ j. x.meaning.address j (unwrap_or x.base 0))) m.rows; units = us }) (changed_alike u.0 resolved_unit linking_row m.units x e unit_is))

    unlinked : (y : OneUnit U) → slice_get k.units u.0 ≡ Some y → (x.phase ≡ stage.Placed) ⊎ ((x.phase ≡ stage.Started) × (x.base ≡ None) × (unit_shape x ≡ None)) → is_unlinked y.phase ≡ true
    unlinked y f (inl q) = subst (λ q. is_unlinked q ≡ true) (sym (phase_of_kept means k m u.0 x y t e f ∙ q)) refl
    unlinked y f (inr q) = subst (λ q. is_unlinked q ≡ true) (sym (phase_of_kept means k m u.0 x y t e f ∙ q.0)) refl

    stored_here : (x.phase ≡ stage.Placed) ⊎ ((x.phase ≡ stage.Started) × (x.base ≡ None) × (unit_shape x ≡ None)) → IsStored k.memory u.0 (linking_row x)
    stored_here (inl q) = rephased k.memory u.0 x (linking_row x) (t.memory.each u.0 x e) (ap is_done q) refl refl refl refl (λ h a. (t.memory.each u.0 x e).placed (ap is_placed q) a)
    stored_here (inr q) = rephased k.memory u.0 x (linking_row x) (t.memory.each u.0 x e) (ap is_done q.0) refl refl refl refl (λ h a. ap is_some q.1 ∙ sym (ap is_some q.2))

abbrev fixed_row : ℕ → UnitRow → UnitRow
fixed_row base y = record y { base = Some base }

-- of an alias that is bound
pub alias_resolved : {U : Type 0} (means : U → Meaning) (k : Kept U) (m : Plain) (u : UnitId) (x : UnitRow) → IsTied means k m → slice_get m.units u.0 ≡ Some x → is_alias x ≡ true →
    IsTied means (record k { rows = map (addressed_row u.0 (λ j. x.meaning.address j (target_address x))) k.rows; units = changed_at u.0 (one.based (target_address x)) k.units }) (resolved u.0 m)
alias_resolved {U} means k m u x t e alias = subst (IsTied means (record k { rows = map (addressed_row u.0 (λ j. x.meaning.address j (target_address x))) k.rows; units = changed_at u.0 (one.based (target_address x)) k.units })) (sym is)
    (as_kept means (record k { rows = map (addressed_row u.0 (λ j. x.meaning.address j (target_address x))) k.rows; units = changed_at u.0 (one.based (target_address x)) k.units })
    (record m { rows = map (addressed_row u.0 (λ j. x.meaning.address j (target_address x))) m.rows; units = changed_at u.0 (fixed_row (target_address x)) m.units })
    (map (addressed_row u.0 (λ j. x.meaning.address j (target_address x))) m.rows) m.jobs (ap (map (addressed_row u.0 (λ j. x.meaning.address j (target_address x)))) (sym t.rows)) (sym t.jobs)
    (unit_ties means k m u.0 (one.based (target_address x)) (fixed_row (target_address x)) (map (addressed_row u.0 (λ j. x.meaning.address j (target_address x))) m.rows) m.jobs k.memory t
    (record { row = λ t x. refl; tracker = λ x. refl; dylib = λ x. refl })
    (dylibs_mapped k.shelf m.dylibs m.rows (addressed_row u.0 (λ j. x.meaning.address j (target_address x))) (addressed_seen u.0 (λ j. x.meaning.address j (target_address x))) t.dylibs)
    (λ y f r. record { flags = r.flags; starts = r.starts; finishes = r.finishes })
    (changed_one m.units k.memory u.0 (fixed_row (target_address x)) x t.memory e (record {
      range = (t.memory.each u.0 x e).range ∙ (no_range u.0 x (inr alias) ∙ sym (no_range u.0 (fixed_row (target_address x) x) (inr alias)));
      based = λ a h. absurd (both_ways (is_alias x) a alias);
      placed = λ h a. absurd (both_ways (is_alias x) a alias);
    }))))
  where
    unit_is : resolved_unit x ≡ fixed_row (target_address x) x
    unit_is = ap (λ b. record x { phase = if b then x.phase else stage.Linking; base = if b then Some (target_address x) else x.base }) alias

    is : resolved u.0 m ≡ record m { rows = map (addressed_row u.0 (λ j. x.meaning.address j (target_address x))) m.rows; units = changed_at u.0 (fixed_row (target_address x)) m.units }
    is = resolved_there u.0 m x e ∙ (ap (λ (y : UnitRow). record m { rows = map (resolved_row u.0 y) m.rows; units = changed_at u.0 resolved_unit m.units }) unit_is
        ∙ ap (λ us. record m { rows = map (addressed_row u.0 (λ j. x.meaning.address j (target_address x))) m.rows; units = us }) (changed_alike u.0 resolved_unit (fixed_row (target_address x)) m.units x e unit_is))

-- Waiting for a link query

pub unit_waits : {U : Type 0} (means : U → Meaning) (k : Kept U) (m : Plain) (u : ℕ) (q : QueryId) (x : UnitRow) → IsTied means k m → slice_get m.units u ≡ Some x → (x.phase ≡ stage.Linking) ⊎ ((x.phase ≡ stage.Started) × (is_alias x ≡ true)) →
    IsTied means (record k { units = changed_at u (one.waiting q) k.units }) (record m { units = changed_at u (waiting_unit q.0) m.units })
unit_waits {U} means k m u q x t e p = as_kept means (record k { units = changed_at u (one.waiting q) k.units }) (record m { units = changed_at u (waiting_unit q.0) m.units }) m.rows m.jobs (sym t.rows) (sym t.jobs)
    (unit_ties means k m u (one.waiting q) (waiting_unit q.0) m.rows m.jobs k.memory t
    (record { row = λ t x. refl; tracker = λ x. refl; dylib = λ x. refl }) t.dylibs
    (λ y f r. ready_after means y (one.waiting q y) refl refl refl (λ h. absurd cc) (λ h. unlinked y f p) r)
    (changed_one m.units k.memory u (waiting_unit q.0) x t.memory e (stored_here p)))
  where
    unlinked : (y : OneUnit U) → slice_get k.units u ≡ Some y → (x.phase ≡ stage.Linking) ⊎ ((x.phase ≡ stage.Started) × (is_alias x ≡ true)) → is_unlinked y.phase ≡ true
    unlinked y f (inl q) = subst (λ q. is_unlinked q ≡ true) (sym (phase_of_kept means k m u x y t e f ∙ q)) refl
    unlinked y f (inr q) = subst (λ q. is_unlinked q ≡ true) (sym (phase_of_kept means k m u x y t e f ∙ q.0)) refl

    stored_here : (x.phase ≡ stage.Linking) ⊎ ((x.phase ≡ stage.Started) × (is_alias x ≡ true)) → IsStored k.memory u (waiting_unit q.0 x)
    stored_here (inl r) = rephased k.memory u x (waiting_unit q.0 x) (t.memory.each u x e) (ap is_done r) refl refl refl refl (λ h a. (t.memory.each u x e).placed (ap is_placed r) a)
    stored_here (inr r) = rephased k.memory u x (waiting_unit q.0 x) (t.memory.each u x e) (ap is_done r.0) refl refl refl refl (λ h a. absurd (both_ways (is_alias x) a r.1))
