-- A unit is entered in all parts.
use Rattle.std.proofs.Common.{◌≡◌, ℕ, ◌+◌, ◌<◌, Bool, true, false, not, ◌&&◌, List, [], ◌∷◌, ◌++◌, length, slice_get, Option, Some, None, refl, ap, ap₂, sym, subst, ◌∙◌}
use Rattle.std.specs.Prelude.{◌==◌}
use Rattle.std.specs.Option.{option_map_or}
use Rattle.std.proofs.lemmas.Bool.{and_parts, both_ways, eqb-true}
use Rattle.std.proofs.lemmas.List.{length-append}
use Rattle.orc_ids.specs.declared.flags.SymFlags.{SymFlags}
use Rattle.orc_ids.specs.declared.ids.DylibId.{DylibId}
use Rattle.orc_ids.specs.declared.ids.InstId.{InstId}
use Rattle.orc_ids.specs.declared.ids.NameId.{NameId}
use Rattle.orc_ids.specs.declared.ids.TrackId.{TrackId}
use Rattle.orc_ids.specs.declared.ids.UnitId.{UnitId}
use Rattle.session_model.specs.Lists.{numbered}
use Rattle.session_model.specs.Meaning.{Meaning}
use Rattle.session_model.specs.Plain.{Plain, UnitRow, GenRow, has_tracker, is_tracker_of}
use Rattle.session_model.specs.Change.{verdicts, kept_names, unreplaced_row, new_rows, without_replaced, new_unit, defined}
use Rattle.session_model.specs.declared.rows.InstRow.{InstRow}
use Rattle.session_model.specs.declared.rows.Track.{Track}
use Rattle.session_model.specs.declared.rows.Verdict.{Verdict}
use Rattle.session_laws.specs.Sound.{IsSound}
use Rattle.session_laws.proofs.Declared.{element_below, numbered_at, numbered_length}
use Rattle.instances.specs.Table.{is_among, replaced_row}
use Rattle.jit_dylib.specs.Laws.{HasOneRowInEach, IsShelfOf, ShelfDefines, ShelfJudges}
use Rattle.jit_dylib.specs.Rows as table
use Rattle.jit_dylib.specs.Rows.{AreAdded, replaced_instances, verdicts_at}
use Rattle.jit_dylib.specs.Shelf.{Shelf, table_of}
use Rattle.mat_unit.specs.Roster.{added}
use Rattle.tracker.specs.Owners.{Owners, with_unit}
use Rattle.session_parts.specs.declared.parts.Parts.{Parts}
use Rattle.session_parts.specs.Defined.{exchanged, AreLost, AreOf, IsAdded, IsJudged, IsSame}
use Rattle.session_parts.specs.Parts.{kept_of, AreParts}
use Rattle.session_parts.specs.Tied.{Kept, IsTied, AreDylibs}
use Rattle.session_parts.specs.Units.{AreUnits, AreOwners, dylib_at}
use Rattle.session_parts.proofs.LostNames.{replaced_of}
use Rattle.session_parts.proofs.Moves.{tracker_there}
use Rattle.session_parts.proofs.NewUnits.{fresh_is_new, rows_replaced}
use Rattle.session_parts.proofs.Whole.{unit_defined}

-- Room

owners_roomy : (old new : Owners) (trackers : List Track) (units : List UnitRow) (generators : List GenRow) → new.tracks ≡ old.tracks → AreOwners old trackers units generators → AreOwners new trackers units generators
owners_roomy old new trackers units generators e a = subst (λ ts. AreOwners (record { tracks = ts; room = new.room }) trackers units generators) (sym e) (record { count = a.count; gone = a.gone; dylibs = a.dylibs; owned = a.owned })

-- with more room they are the same session's
pub parts_roomy : {U N : Type 0} (means : U → Meaning) (old new : Parts U N) (m : Plain) → IsSame old new → AreParts means old m → AreParts means new m
parts_roomy {U} {N} means old new m same a = subst (λ (p : Parts U N). AreParts means p m) (sym same.rest) (record {
  kept = record {
    dylibs = a.kept.dylibs;
    rows = same.rows ∙ a.kept.rows;
    units = subst (λ us. AreUnits means us m.units m.trackers) (sym same.units) a.kept.units;
    jobs = same.jobs ∙ a.kept.jobs;
    generators = a.kept.generators;
    owners = owners_roomy old.trackers new.trackers m.trackers m.units m.generators same.tracks a.kept.owners;
    memory = a.kept.memory;
  };
  spans = same.graph_units ∙ a.spans;
})

-- The tracker

pub tracker_of : (m : Plain) (d t : ℕ) → is_tracker_of m d t ≡ true → (has_tracker m t ≡ true) × (d ≡ dylib_at m.trackers t)
tracker_of m d t = split (slice_get m.trackers t) refl
  where
    split : (o : Option Track) → slice_get m.trackers t ≡ o → option_map_or (λ (x : Track). not x.gone && x.dylib == d) o false ≡ true → (has_tracker m t ≡ true) × (d ≡ dylib_at m.trackers t)
    split None e h = absurd (both_ways false refl h)
    split (Some x) e h = let p = and_parts (not x.gone) (x.dylib == d) h in
        (ap (λ o. option_map_or (λ (y : Track). not y.gone) o false) e ∙ p.0, sym (ap (λ o. option_map_or (λ (y : Track). y.dylib) o 0) e ∙ eqb-true x.dylib d p.1))

pub tracker_below : (m : Plain) (t : ℕ) → has_tracker m t ≡ true → t < length m.trackers
tracker_below m t h = let x = tracker_there m t h in element_below m.trackers t x.0 x.1

-- The tables

-- what was judged is the session's
pub record IsOfSession (m : Plain) (d t : ℕ) (u : Meaning) (shelf : Shelf) (live : List Bool) (replaced : List InstId) : Type 0 where
  pub live_are : live ≡ kept_names (verdicts m.rows d u.offers)
  pub replaced_are : replaced ≡ replaced_instances (verdicts m.rows d u.offers)
  pub dylibs : AreDylibs shelf m.dylibs (defined d t u (verdicts m.rows d u.offers) m).rows

pub judged_is : {U N : Type 0} (means : U → Meaning) (p : Parts U N) (m : Plain) (d t : ℕ) (u : Meaning) (new : Shelf) (live : List Bool) (replaced : List InstId) → ShelfJudges → ShelfDefines →
    AreParts means p m → HasOneRowInEach m.rows → d < length m.dylibs → IsJudged p.graph.rows d u.offers p.dylibs new live replaced → IsOfSession m d t u new live replaced
judged_is means p m d t u new live replaced judges defines a once b judged = record {
  live_are = j.stay ∙ ap kept_names same;
  replaced_are = j.go ∙ ap replaced_instances same;
  dylibs = record { dylibs_are = after.dylibs; count = j.tables ∙ ap length after.dylibs; tables = after.tables };
}
  where
    before : IsShelfOf m p.dylibs
    before = record { dylibs = a.kept.dylibs.dylibs_are; tables = a.kept.dylibs.tables }

    j : IsJudged m.rows d u.offers p.dylibs new live replaced
    j = subst (λ rows. IsJudged rows d u.offers p.dylibs new live replaced) a.kept.rows judged

    same : verdicts_at m.rows (table_of p.dylibs d) u.offers ≡ verdicts m.rows d u.offers
    same = (judges m d p.dylibs u.offers before b).0

    after : IsShelfOf (defined d t u (verdicts m.rows d u.offers) m) new
    after = defines m d t u p.dylibs new before once (subst (λ l. AreAdded (table.fresh_rows (length m.rows) u.offers l) (table_of p.dylibs d) (table_of new d)) j.stay j.there) j.only

-- the units of the replaced instances are there
pub judged_of : {U N : Type 0} (means : U → Meaning) (old new : Parts U N) (m : Plain) (d t : ℕ) (u : Meaning) (shelf : Shelf) (live : List Bool) (replaced : List InstId) → IsSame old new → AreParts means old m → IsSound m → IsOfSession m d t u shelf live replaced →
    AreOf new.graph.rows replaced (length new.units.units)
judged_of means old new m d t u shelf live replaced same a sound j i r among e = subst (λ n. r.unit.0 < n) (sym (ap length same.units ∙ a.kept.units.count))
    (replaced_of m d u.offers sound i r (subst (λ is. is_among is i ≡ true) j.replaced_are among) (subst (λ rs. slice_get rs i ≡ Some r) (same.rows ∙ a.kept.rows) e))

-- The instances

rows_exchanged : (d u : ℕ) (rows : List InstRow) (offers : List (NameId × SymFlags)) (found : List Verdict) →
    exchanged d u offers (kept_names found) (replaced_instances found) rows ≡ numbered (unreplaced_row found) 0 rows ++ new_rows d u 0 offers found
rows_exchanged d u rows offers found = ap₂ (λ xs ys. xs ++ ys)
    (rows_replaced found rows (numbered (replaced_row (replaced_instances found)) 0 rows) (λ i. numbered_at (replaced_row (replaced_instances found)) rows i))
    (fresh_is_new d u 0 offers found)

-- All of it

-- how the parts are once the unit is entered
pub record IsEntered {U N : Type 0} (d : DylibId) (t : TrackId) (unit : U) (offers : List (NameId × SymFlags)) (live : List Bool) (replaced : List InstId) (old new : Parts U N) (u : UnitId) : Type 0 where
  pub rest : new ≡ record old { graph = new.graph; units = new.units; trackers = new.trackers }
  pub rows : new.graph.rows ≡ exchanged d.0 old.graph.units offers live replaced old.graph.rows
  pub graph_units : new.graph.units ≡ old.graph.units + 1
  pub units : IsAdded old.graph.rows replaced unit d live old.units new.units
  pub owners : new.trackers ≡ with_unit old.trackers t u
  pub number : u.0 ≡ length old.units.units

pub entered_parts : {U N : Type 0} (means : U → Meaning) (old new : Parts U N) (before : Shelf) (m : Plain) (d : DylibId) (t : TrackId) (u : UnitId) (unit : U) (live : List Bool) (replaced : List InstId) →
    AreParts means (record old { dylibs = before }) m → IsSound m → is_tracker_of m d.0 t.0 ≡ true → IsOfSession m d.0 t.0 (means unit) old.dylibs live replaced → IsEntered d t unit (means unit).offers live replaced old new u →
    AreParts means new (defined d.0 t.0 (means unit) (verdicts m.rows d.0 (means unit).offers) m)
entered_parts {U} {N} means old new before m d t u unit live replaced a sound its j e = subst (λ (p : Parts U N). AreParts means p after) (sym e.rest) (record {
  kept = subst (λ os. IsTied means (record k { shelf = old.dylibs; rows = new.graph.rows; units = new.units.units; jobs = new.units.jobs; owners = os }) after) (sym e.owners)
      (subst (λ r. IsTied means (record k { shelf = old.dylibs; rows = new.graph.rows; units = r.units; jobs = r.jobs; owners = with_unit old.trackers t u }) after) (sym roster)
      (unit_defined means k m d t u unit old.dylibs new.graph.rows e.units.0 a.kept sound (tracker_below m t.0 tracker.0) tracker.1 (e.number ∙ a.kept.units.count) j.dylibs rows lost));
  spans = e.graph_units ∙ (ap (λ n. n + 1) a.spans ∙ sym (length-append (numbered (without_replaced m.rows found) 0 m.units) (new_unit t.0 (means unit) found ∷ []) ∙ ap (λ n. n + 1) (numbered_length (without_replaced m.rows found) 0 m.units)));
})
  where
    found : List Verdict
    found = verdicts m.rows d.0 (means unit).offers

    after : Plain
    after = defined d.0 t.0 (means unit) found m

    k : Kept U
    k = kept_of (record old { dylibs = before })

    tracker : (has_tracker m t.0 ≡ true) × (d.0 ≡ dylib_at m.trackers t.0)
    tracker = tracker_of m d.0 t.0 its

    roster : new.units ≡ added unit d (kept_names found) (record (old.units) { units = e.units.0 })
    roster = e.units.2 ∙ ap (λ l. added unit d l (record (old.units) { units = e.units.0 })) j.live_are

    lost : AreLost m.rows (replaced_instances found) old.units.units e.units.0
    lost = subst (λ is. AreLost m.rows is old.units.units e.units.0) j.replaced_are (subst (λ rows. AreLost rows replaced old.units.units e.units.0) a.kept.rows e.units.1)

    rows : new.graph.rows ≡ after.rows
    rows = e.rows ∙ (ap (λ is. exchanged d.0 old.graph.units (means unit).offers live is old.graph.rows) j.replaced_are
        ∙ (ap (λ l. exchanged d.0 old.graph.units (means unit).offers l (replaced_instances found) old.graph.rows) j.live_are
        ∙ (ap (λ rs. exchanged d.0 old.graph.units (means unit).offers (kept_names found) (replaced_instances found) rs) a.kept.rows
        ∙ (ap (λ n. exchanged d.0 n (means unit).offers (kept_names found) (replaced_instances found) m.rows) a.spans
        ∙ rows_exchanged d.0 (length m.units) m.rows (means unit).offers found))))
