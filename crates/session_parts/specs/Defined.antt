-- A unit that is defined: what becomes of its names, what it takes from others, and how it is entered.
use Rattle.std.specs.Prelude.{◌≡◌, ℕ, ◌+◌, ◌<◌, ◌≤◌, Bool, true, ◌&&◌, ◌==◌, not, List, ◌++◌, length, slice_get, count_by, Option, Some, option_map}
use Rattle.std.specs.List.{list_any}
use Rattle.std.specs.Option.{option_map_or}
use Rattle.orc_ids.specs.declared.flags.SymFlags.{SymFlags}
use Rattle.orc_ids.specs.declared.ids.DylibId.{DylibId}
use Rattle.orc_ids.specs.declared.ids.InstId.{InstId}
use Rattle.orc_ids.specs.declared.ids.NameId.{NameId}
use Rattle.orc_ids.specs.declared.ids.TrackId.{TrackId}
use Rattle.session_model.specs.Lists.{changed_at, first_some, numbered}
use Rattle.session_model.specs.Meaning.{Meaning}
use Rattle.session_model.specs.Plain.{Plain, row_test}
use Rattle.session_model.specs.Answer.{clash}
use Rattle.session_model.specs.Change.{changed, kept_names, verdict, verdicts}
use Rattle.session_model.specs.declared.change.Change.TheVariants.{Define}
use Rattle.session_model.specs.declared.entry.Reply.{Reply}
use Rattle.session_model.specs.declared.rows.InstRow.{InstRow}
use Rattle.instances.specs.Table as own
use Rattle.instances.specs.Table.{is_among, replaced_row}
use Rattle.jit_dylib.specs.Rows.{fresh_rows, replaced_instances, verdicts_at, AreAdded}
use Rattle.jit_dylib.specs.Shelf.{Shelf, table_of, ChangesOnlyTable}
use Rattle.mat_unit.specs.Changes.{without_name}
use Rattle.mat_unit.specs.Roster.{Roster, added}
use Rattle.mat_unit.specs.declared.unit.Unit.{Unit as OneUnit}
use Rattle.session_parts.specs.declared.parts.Parts.{Parts}

-- the session with the unit
abbrev pub after_define : DylibId → TrackId → Meaning → Plain → Plain
after_define d t u m = changed (Define d t u (verdicts m.rows d.0 u.offers)) m

-- the answer to the first offered name that clashes
abbrev pub first_duplicate : List InstRow → ℕ → List (NameId × SymFlags) → Option Reply
first_duplicate rows d offers = first_some (λ (offer : NameId × SymFlags). clash offer.0 (verdict rows d offer)) offers

-- how many of the offered names get an instance
abbrev pub kept_count : List InstRow → ℕ → List (NameId × SymFlags) → ℕ
kept_count rows d offers = count_by (λ (b : Bool). b) (kept_names (verdicts rows d offers))

-- the unit's name at k is one of the replaced instances
abbrev pub loses : List InstRow → List InstId → ℕ → ℕ → Bool
loses rows replaced u k = list_any (λ (i : InstId). row_test (λ r. r.unit.0 == u && r.offer == k) rows i.0) replaced

-- each unit no longer offers its replaced names
abbrev pub AreLost : {U : Type 0} → List InstRow → List InstId → List (OneUnit U) → List (OneUnit U) → Type 0
AreLost {U} rows replaced old new = (u : ℕ) → slice_get new u ≡ option_map (λ (x : OneUnit U). record x { live = numbered (λ k (flag : Bool). flag && not (loses rows replaced u k)) 0 x.live }) (slice_get old u)

-- the unit of one instance no longer offers the name
abbrev pub unnamed : {U : Type 0} → List InstRow → InstId → List (OneUnit U) → List (OneUnit U)
unnamed rows i units = option_map_or (λ (r : InstRow). changed_at r.unit.0 (without_name r.offer) units) (slice_get rows i.0) units

-- the replaced instances are gone, and those of the names that stay are behind all others
abbrev pub exchanged : ℕ → ℕ → List (NameId × SymFlags) → List Bool → List InstId → List InstRow → List InstRow
exchanged d u offers live replaced rows = numbered (replaced_row replaced) 0 rows ++ own.fresh_rows d u 0 offers live

-- the replaced names are lost, and the unit is behind all others
abbrev pub IsAdded : {U : Type 0} → List InstRow → List InstId → U → DylibId → List Bool → Roster U → Roster U → Type 0
IsAdded {U} rows replaced unit d live old new = (lost : List (OneUnit U)) × AreLost rows replaced old.units lost × (new ≡ added unit d live (record old { units = lost }))

-- these instances are of the first n units
abbrev pub AreOf : List InstRow → List InstId → ℕ → Type 0
AreOf rows instances n = (i : ℕ) (r : InstRow) → is_among instances i ≡ true → slice_get rows i ≡ Some r → r.unit.0 < n

-- there is room for one more unit of the tracker, with so many instances
pub record HasRoom {U N : Type 0} (p : Parts U N) (t : TrackId) (count : ℕ) : Type 0 where
  pub units : 0 < p.units.spare
  pub tracker : p.trackers.room ≡ Some t
  pub instances : length p.graph.rows + count ≤ p.graph.places
  pub graph_units : 0 < p.graph.spare_units

-- all is as it was, but for room
pub record IsSame {U N : Type 0} (old new : Parts U N) : Type 0 where
  pub rest : new ≡ record old { graph = new.graph; units = new.units; trackers = new.trackers }
  pub rows : new.graph.rows ≡ old.graph.rows
  pub graph_units : new.graph.units ≡ old.graph.units
  pub changed : new.graph.changed ≡ old.graph.changed
  pub units : new.units.units ≡ old.units.units
  pub jobs : new.units.jobs ≡ old.units.jobs
  pub tracks : new.trackers.tracks ≡ old.trackers.tracks

-- what became of the names that a unit offers: which stay, which instances are replaced, and the tables since
pub record IsJudged (rows : List InstRow) (d : ℕ) (offers : List (NameId × SymFlags)) (old new : Shelf) (live : List Bool) (replaced : List InstId) : Type 0 where
  pub stay : live ≡ kept_names (verdicts_at rows (table_of old d) offers)
  pub go : replaced ≡ replaced_instances (verdicts_at rows (table_of old d) offers)
  pub there : AreAdded (fresh_rows (length rows) offers live) (table_of old d) (table_of new d)
  pub only : ChangesOnlyTable d old new
  pub tables : length new.tables ≡ length new.dylibs
