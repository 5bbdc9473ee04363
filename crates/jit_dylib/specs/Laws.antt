-- What a table is to a session: the present rows of one of its dylibs, after a define and after a removal.
use Rattle.std.specs.Prelude.{◌≡◌, ℕ, ◌<◌, true, ◌&&◌, ◌==◌, Bool, List, [], ◌∷◌, ◌++◌, length, slice_get, Some, None}
use Rattle.orc_ids.specs.declared.flags.SymFlags.{SymFlags}
use Rattle.orc_ids.specs.declared.ids.InstId.{InstId}
use Rattle.orc_ids.specs.declared.ids.NameId.{NameId}
use Rattle.session_model.specs.Answer.{clash}
use Rattle.session_model.specs.Change.{verdict, verdicts, kept_names, new_dylib, changed, defined, is_unit_of, removed}
use Rattle.session_model.specs.Lists.{first_some}
use Rattle.session_model.specs.Match.{row_of}
use Rattle.session_model.specs.Meaning.{Meaning}
use Rattle.session_model.specs.Plain.{Plain}
use Rattle.session_model.specs.declared.change.Change.TheVariants.{MakeDylib}
use Rattle.session_model.specs.declared.rows.InstRow.{InstRow}
use Rattle.jit_dylib.specs.Rows.{Rows, row_at, verdicts_at, first_clash, fresh_rows, AreAdded, is_gone, AreLeft}
use Rattle.jit_dylib.specs.Shelf.{Shelf, table_of, ChangesOnlyTable}

-- the present row of a name is the session's
abbrev pub IsTableOf : List InstRow → ℕ → Rows → Type 0
IsTableOf rows d t = (name : ℕ) → row_at t name ≡ row_of rows d name

-- the row is the name's in the dylib
abbrev pub is_present_as : ℕ → ℕ → InstRow → Bool
is_present_as d name r = r.present && r.dylib.0 == d && r.name.0 == name

-- a name has one present row in the dylib at most
abbrev pub HasOneRowEach : List InstRow → ℕ → Type 0
HasOneRowEach rows d = (name i j : ℕ) (r s : InstRow) → slice_get rows i ≡ Some r → slice_get rows j ≡ Some s → is_present_as d name r ≡ true → is_present_as d name s ≡ true → i ≡ j

-- a define judges as the session does
abbrev pub JudgesAsTheSession : Type 0
JudgesAsTheSession = (rows : List InstRow) (d : ℕ) (t : Rows) (offers : List (NameId × SymFlags)) → IsTableOf rows d t →
    (verdicts_at rows t offers ≡ verdicts rows d offers) × (first_clash rows t offers ≡ first_some (λ (offer : NameId × SymFlags). clash offer.0 (verdict rows d offer)) offers)

-- after a define the table has the present rows of the session that defined the unit, the new rows being numbered on from the session's
abbrev pub DefinesAsTheSession : Type 0
DefinesAsTheSession = (m : Plain) (d t : ℕ) (u : Meaning) (old new : Rows) → IsTableOf m.rows d old → HasOneRowEach m.rows d →
    AreAdded (fresh_rows (length m.rows) u.offers (kept_names (verdicts_at m.rows old u.offers))) old new →
    IsTableOf (defined d t u (verdicts m.rows d u.offers) m).rows d new

-- and the tables of other dylibs are still theirs
abbrev pub DefinesNothingElsewhere : Type 0
DefinesNothingElsewhere = (m : Plain) (d e t : ℕ) (u : Meaning) (table : Rows) → (e ≡ d → ⊥) → IsTableOf m.rows e table → HasOneRowEach m.rows e →
    IsTableOf (defined d t u (verdicts m.rows d u.offers) m).rows e table

-- the list has the dylib's present rows of the tracker's units, each beside its name, and no other present row
abbrev pub NamesGone : Plain → ℕ → ℕ → List (NameId × InstId) → Type 0
NamesGone m t d gone = (name i : ℕ) (r : InstRow) → slice_get m.rows i ≡ Some r → is_present_as d name r ≡ true →
    is_gone gone name (record { inst = record { 0 = i }; flags = r.flags }) ≡ is_unit_of m t r.unit.0

-- with these rows dropped the table has the present rows of the session that removed the tracker
abbrev pub DropsAsTheSession : Type 0
DropsAsTheSession = (m : Plain) (t d : ℕ) (gone : List (NameId × InstId)) (old new : Rows) → IsTableOf m.rows d old → HasOneRowEach m.rows d → NamesGone m t d gone →
    AreLeft gone old new → IsTableOf (removed t m).rows d new

-- what is left of a table after some rows go and then others is what is left after all of them go
abbrev pub DropsOneByOne : Type 0
DropsOneByOne = (gone more : List (NameId × InstId)) (old mid new : Rows) → AreLeft gone old mid → AreLeft more mid new → AreLeft (gone ++ more) old new

-- All dylibs

-- the dylibs are the session's, and the table of each is
pub record IsShelfOf (m : Plain) (s : Shelf) : Type 0 where
  pub dylibs : s.dylibs ≡ m.dylibs
  pub tables : (d : ℕ) → d < length m.dylibs → IsTableOf m.rows d (table_of s d)

-- a name has one present row in each dylib at most
abbrev pub HasOneRowInEach : List InstRow → Type 0
HasOneRowInEach rows = (d : ℕ) → HasOneRowEach rows d

-- with one more dylib, which has no rows, they are those of the session that made it
abbrev pub ShelfMakes : Type 0
ShelfMakes = (m : Plain) (name : NameId) (old new : Shelf) → IsShelfOf m old → length old.tables ≡ length old.dylibs → ((n : ℕ) → row_of m.rows (length m.dylibs) n ≡ None) →
    new.dylibs ≡ old.dylibs ++ new_dylib (length old.dylibs) name.0 ∷ [] → new.tables ≡ old.tables ++ [] ∷ [] → IsShelfOf (changed (MakeDylib name) m) new

-- a define in one of the dylibs judges as the session does
abbrev pub ShelfJudges : Type 0
ShelfJudges = (m : Plain) (d : ℕ) (s : Shelf) (offers : List (NameId × SymFlags)) → IsShelfOf m s → d < length m.dylibs →
    (verdicts_at m.rows (table_of s d) offers ≡ verdicts m.rows d offers) × (first_clash m.rows (table_of s d) offers ≡ first_some (λ (offer : NameId × SymFlags). clash offer.0 (verdict m.rows d offer)) offers)

-- after a define they are those of the session that defined the unit
abbrev pub ShelfDefines : Type 0
ShelfDefines = (m : Plain) (d t : ℕ) (u : Meaning) (old new : Shelf) → IsShelfOf m old → HasOneRowInEach m.rows →
    AreAdded (fresh_rows (length m.rows) u.offers (kept_names (verdicts_at m.rows (table_of old d) u.offers))) (table_of old d) (table_of new d) → ChangesOnlyTable d old new →
    IsShelfOf (defined d t u (verdicts m.rows d u.offers) m) new

-- the tracker's units have present rows in this dylib alone
abbrev pub IsTrackerOf : Plain → ℕ → ℕ → Type 0
IsTrackerOf m t d = (i : ℕ) (r : InstRow) → slice_get m.rows i ≡ Some r → r.present ≡ true → is_unit_of m t r.unit.0 ≡ true → r.dylib.0 ≡ d

-- with the rows of a tracker's units dropped they are those of the session that removed the tracker
abbrev pub ShelfDrops : Type 0
ShelfDrops = (m : Plain) (t d : ℕ) (gone : List (NameId × InstId)) (old new : Shelf) → IsShelfOf m old → HasOneRowInEach m.rows → IsTrackerOf m t d → NamesGone m t d gone →
    AreLeft gone (table_of old d) (table_of new d) → ChangesOnlyTable d old new → IsShelfOf (removed t m) new
