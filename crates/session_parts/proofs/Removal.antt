-- A tracker's removal, for the parts.
use Prim.{tt}
use mathlib.Core.Path.{fun_ext}
use Rattle.std.proofs.Common.{◌≡◌, ℕ, ◌<◌, Bool, true, false, ◌&&◌, ◌||◌, ◌==◌, not, List, [], ◌∷◌, length, map, slice_get, Option, Some, None, option_map, is_some, refl, ap, sym, subst, ◌∙◌}
use Rattle.std.specs.Bool.{if◌then◌else◌}
use Rattle.std.specs.Prelude.{All, filter, get_or}
use Rattle.std.specs.List.{list_any}
use Rattle.std.specs.Option.{option_map_or}
use Rattle.std.proofs.lemmas.Bool.{both_ways, and_parts, eq-eqb}
use Rattle.std.proofs.lemmas.List.Folds.{list_any_at}
use Rattle.list_laws.proofs.Lists.{lengths_from}
use Rattle.orc_ids.specs.declared.ids.TrackId.{TrackId}
use Rattle.orc_ids.specs.declared.ids.UnitId.{UnitId}
use Rattle.session_model.specs.Change.{removed, removed_unit, hits_failed, is_unit_of, job_unit}
use Rattle.session_model.specs.Meaning.{Meaning}
use Rattle.session_model.specs.Plain.{Plain, UnitRow, row_test, has_tracker, tracker_dylib}
use Rattle.session_model.specs.Reach.{is_ready}
use Rattle.session_model.specs.declared.rows.InstRow.{InstRow}
use Rattle.session_model.specs.declared.rows.Job.{Job}
use Rattle.session_model.specs.declared.rows.Track.{Track}
use Rattle.session_laws.proofs.Declared.{element_below, mapped_length}
use Rattle.code_memory.specs.Places.{placement_of}
use Rattle.code_memory.specs.declared.placement.Placement.{Placement}
use Rattle.generators.specs.Rows.{Stock}
use Rattle.instances.specs.Graph.{Graph}
use Rattle.instances.specs.Removal.{removed_rows}
use Rattle.jit_dylib.specs.Laws.{NamesGone, HasOneRowInEach, IsTrackerOf, ShelfDrops}
use Rattle.jit_dylib.specs.Shelf.{Shelf, table_of, ChangesOnlyTable}
use Rattle.mat_unit.specs.Changes as one
use Rattle.mat_unit.specs.Jobs.{without_jobs_of, AreUnits}
use Rattle.mat_unit.specs.Roster.{Roster}
use Rattle.mat_unit.specs.Rows.{unit_row}
use Rattle.mat_unit.specs.declared.unit.Unit.{Unit as OneUnit}
use Rattle.tracker.specs.declared.owned.Owned.{Owned}
use Rattle.tracker.specs.Owners.{Owners, owned_by, without}
use Rattle.session_parts.specs.declared.parts.Parts.{Parts}
use Rattle.session_parts.specs.Parts.{kept_of, is_ranged, AreParts}
use Rattle.session_parts.specs.Removed.{goes, is_named, IsLeftBut, AreRanged, AreRemoved, AreFreed, AreSpent}
use Rattle.session_parts.specs.Tied.{IsTied, AreDylibs}
use Rattle.session_parts.specs.Units.{tracker_at}
use Rattle.session_parts.proofs.Memories.{no_range}
use Rattle.session_parts.proofs.Moves.{tracker_there}
use Rattle.session_parts.proofs.Names.{left_same, names_of, listed}
use Rattle.session_parts.proofs.Steps.{bare_parts, ranged_has_range}
use Rattle.session_parts.proofs.Ties.{session_unit}
use Rattle.session_parts.proofs.Whole.{tracker_removed}

-- What a tracker owns

-- its dylib is the session's
pub owned_dylib : {U N : Type 0} (means : U → Meaning) (p : Parts U N) (m : Plain) (t : TrackId) (o : Owned) → AreParts means p m → has_tracker m t.0 ≡ true → owned_by p.trackers t ≡ Some o → o.dylib.0 ≡ tracker_dylib m t.0
owned_dylib means p m t o a h e = let x = tracker_there m t.0 h in a.kept.owners.dylibs t.0 x.0 o x.1 e ∙ sym (ap (λ (q : Option Track). option_map_or (λ (y : Track). y.dylib) q 0) x.1)

-- its units are those of the session's tracker
pub units_are : {U N : Type 0} (means : U → Meaning) (p : Parts U N) (m : Plain) (t : TrackId) (o : Owned) → AreParts means p m → owned_by p.trackers t ≡ Some o → goes o.units ≡ is_unit_of m t.0
units_are means p m t o a e = fun_ext (λ (u : ℕ). (a.kept.owners.owned t.0 o e).units_are u ∙ same (slice_get m.units u))
  where
    same : (q : Option UnitRow) → option_map_or (λ (x : UnitRow). x.tracker == t.0) q false ≡ option_map_or (λ (v : ℕ). v == t.0) (option_map (λ (x : UnitRow). x.tracker) q) false
    same None = refl
    same (Some x) = refl

unit_there : {U N : Type 0} (means : U → Meaning) (p : Parts U N) (m : Plain) (t : TrackId) (o : Owned) → AreParts means p m → owned_by p.trackers t ≡ Some o → (u : ℕ) → goes o.units u ≡ true → u < length m.units
unit_there means p m t o a e u h = split (slice_get m.units u) refl (sym ((a.kept.owners.owned t.0 o e).units_are u) ∙ h)
  where
    split : (q : Option UnitRow) → slice_get m.units u ≡ q → option_map_or (λ (x : UnitRow). x.tracker == t.0) q false ≡ true → u < length m.units
    split None s b = absurd (both_ways false refl b)
    split (Some x) s b = element_below m.units u x s

-- each of them is there
all_below : (n : ℕ) (us : List UnitId) → ((u : ℕ) → goes us u ≡ true → u < n) → All (λ (u : UnitId). u.0 < n) us
all_below n us h = λ k d b. h (get_or us k d).0 (list_any_at (λ (v : UnitId). v.0 == (get_or us k d).0) us k d b (eq-eqb (get_or us k d).0 (get_or us k d).0 refl))

are_below : (n : ℕ) (us : List UnitId) → ((u : ℕ) → goes us u ≡ true → u < n) → AreUnits n us
are_below n [] h = tt
are_below n (u ∷ us) h = (h u.0 (ap (λ b. b || goes us u.0) (eq-eqb u.0 u.0 refl)), are_below n us (λ v e. h v (either (u.0 == v) (goes us v) e)))
  where
    either : (a b : Bool) → b ≡ true → (a || b) ≡ true
    either true b e = refl
    either false b e = e

pub owned_below : {U N : Type 0} (means : U → Meaning) (p : Parts U N) (m : Plain) (t : TrackId) (o : Owned) (n : ℕ) → AreParts means p m → owned_by p.trackers t ≡ Some o → n ≡ length m.units → All (λ (u : UnitId). u.0 < n) o.units
owned_below means p m t o n a e same = subst (λ k. All (λ (u : UnitId). u.0 < k) o.units) (sym same) (all_below (length m.units) o.units (unit_there means p m t o a e))

pub owned_units : {U N : Type 0} (means : U → Meaning) (p : Parts U N) (m : Plain) (t : TrackId) (o : Owned) (n : ℕ) → AreParts means p m → owned_by p.trackers t ≡ Some o → n ≡ length m.units → AreUnits n o.units
owned_units means p m t o n a e same = subst (λ k. AreUnits k o.units) (sym same) (are_below (length m.units) o.units (unit_there means p m t o a e))

-- there are as many units as before
pub units_count : {U : Type 0} (gone : List UnitId) (old new : List (OneUnit U)) → AreRemoved gone old new → length new ≡ length old
units_count gone old new removed = lengths_from old new (λ u x. if goes gone u then one.removed x else x) removed

-- Ranges

pub parts_ranged : {U N : Type 0} (means : U → Meaning) (p : Parts U N) (m : Plain) → AreParts means p m → AreRanged means p.units.units p.space
parts_ranged {U} means p m a u y e = split (is_ranged means y) refl
  where
    row : slice_get m.units u ≡ Some (unit_row means (tracker_at m.units u) y)
    row = session_unit means (kept_of p) m u y a.kept e

    split : (b : Bool) → is_ranged means y ≡ b → is_some (placement_of p.space (record { 0 = u })) ≡ is_ranged means y
    split true r = ranged_has_range means p m (record { 0 = u }) y a e r ∙ sym r
    split false r = ap is_some ((a.kept.memory.each u (unit_row means (tracker_at m.units u) y) row).range ∙ no_range u (unit_row means (tracker_at m.units u) y) (bare_parts means (tracker_at m.units u) y r)) ∙ sym r

-- Names

-- the names of a tracker's units are gone
names_gone : (m : Plain) (t d : ℕ) (unit : ℕ → Bool) → unit ≡ is_unit_of m t → NamesGone m t d (names_of unit 0 m.rows)
names_gone m t d unit same name i r e here = listed unit m.rows name i ∙ (ap (λ o. option_map_or (λ (x : InstRow). unit x.unit.0 && x.name.0 == name) o false) e
    ∙ (ap (λ b. unit r.unit.0 && b) (and_parts (r.present && r.dylib.0 == d) (r.name.0 == name) here).1 ∙ (and_true (unit r.unit.0) ∙ ap (λ f. f r.unit.0) same)))
  where
    and_true : (b : Bool) → (b && true) ≡ b
    and_true true = refl
    and_true false = refl

pub dylibs_dropped : (m : Plain) (t d : ℕ) (gone : List UnitId) (rows : List InstRow) (old new : Shelf) → ShelfDrops → AreDylibs old m.dylibs m.rows → HasOneRowInEach m.rows → IsTrackerOf m t d → goes gone ≡ is_unit_of m t → rows ≡ m.rows → IsLeftBut (is_named (goes gone) rows) (table_of old d) (table_of new d) → ChangesOnlyTable d old new → length new.tables ≡ length new.dylibs →
    AreDylibs new m.dylibs (removed t m).rows
dylibs_dropped m t d gone rows old new law a once home same is left only count =
    let after = law m t d (names_of (goes gone) 0 m.rows) old new (record { dylibs = a.dylibs_are; tables = a.tables }) once home (names_gone m t d (goes gone) same)
    (left_same (is_named (goes gone) m.rows) (λ name i. list_any (λ g. g.0.0 == name && g.1.0 == i) (names_of (goes gone) 0 m.rows)) (table_of old d) (table_of new d) (λ name i. sym (listed (goes gone) m.rows name i))
    (subst (λ rs. IsLeftBut (is_named (goes gone) rs) (table_of old d) (table_of new d)) is left)) only in
    record { dylibs_are = after.dylibs; count = count ∙ ap length after.dylibs; tables = after.tables }

-- Rows and jobs

rows_removed : (m : Plain) (t : ℕ) (gone : List UnitId) (rows : List InstRow) → goes gone ≡ is_unit_of m t → rows ≡ m.rows → removed_rows gone rows ≡ (removed t m).rows
rows_removed m t gone rows same is = ap (removed_rows gone) is
    ∙ ap (λ (f : ℕ → Bool). map (λ (r : InstRow). record r { present = r.present && not (f r.unit.0) }) (hits_failed (λ i. row_test (λ (r : InstRow). r.present && f r.unit.0) m.rows i && not (is_ready m.rows i)) m.rows)) same

jobs_removed : (m : Plain) (t : ℕ) (gone : List UnitId) (jobs : List Job) → goes gone ≡ is_unit_of m t → jobs ≡ m.jobs → without_jobs_of gone jobs ≡ (removed t m).jobs
jobs_removed m t gone jobs same is = ap (without_jobs_of gone) is ∙ ap (λ (f : ℕ → Bool). filter (λ (j : Job). not (f (job_unit j))) m.jobs) same

-- All of it

pub all_removed : {U N : Type 0} (means : U → Meaning) (p : Parts U N) (m : Plain) (t : TrackId) (o : Owned) (shelf : Shelf) (graph : Graph) (units : Roster U) (spent : Stock U) (owners : Owners) (space : List Placement) → ShelfDrops → AreParts means p m → HasOneRowInEach m.rows → IsTrackerOf m t.0 (tracker_dylib m t.0) → has_tracker m t.0 ≡ true →
    owned_by p.trackers t ≡ Some o → owners ≡ without p.trackers t → IsLeftBut (is_named (goes o.units) p.graph.rows) (table_of p.dylibs o.dylib.0) (table_of shelf o.dylib.0) → ChangesOnlyTable o.dylib.0 p.dylibs shelf → length shelf.tables ≡ length shelf.dylibs →
    graph.rows ≡ removed_rows o.units p.graph.rows → graph.units ≡ p.graph.units → AreRemoved o.units p.units.units units.units → units.jobs ≡ without_jobs_of o.units p.units.jobs → AreSpent o.generators p.generators.rows spent.rows → AreFreed o.units p.space space →
    AreParts means (record p { dylibs = shelf; graph = graph; units = units; generators = spent; trackers = owners; space = space }) (removed t.0 m)
all_removed {U} {N} means p m t o shelf graph units spent owners space law a once home there e gone left only count rows many us js gs freed = record {
  kept = subst (λ (os : Owners). IsTied means (record { shelf = shelf; rows = graph.rows; units = units.units; jobs = units.jobs; generators = spent.rows; owners = os; memory = space }) (removed t.0 m)) (sym gone)
      (tracker_removed means (kept_of p) m t o shelf graph.rows units.units units.jobs spent.rows space a.kept (let x = tracker_there m t.0 there in element_below m.trackers t.0 x.0 x.1) e
      (dylibs_dropped m t.0 o.dylib.0 o.units p.graph.rows p.dylibs shelf law a.kept.dylibs once (subst (IsTrackerOf m t.0) (sym (owned_dylib means p m t o a there e)) home) (units_are means p m t o a e) a.kept.rows left only count)
      (rows ∙ rows_removed m t.0 o.units p.graph.rows (units_are means p m t o a e) a.kept.rows)
      us
      (js ∙ jobs_removed m t.0 o.units p.units.jobs (units_are means p m t o a e) a.kept.jobs)
      gs freed);
  spans = many ∙ (a.spans ∙ sym (mapped_length (removed_unit t.0) m.units));
}
