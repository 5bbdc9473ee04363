-- What is so where an event isn't refused: what it will be answered, and what its change asks for.
use Rattle.std.specs.Prelude.{◌≡◌, ℕ, ◌+◌, ◌<◌, ◌≤◌, Bool, true, false, List, length, slice_get, count_by, Option, Some, unwrap_or}
use Rattle.orc_ids.specs.declared.flags.SymFlags.{SymFlags}
use Rattle.orc_ids.specs.declared.ids.DylibId.{DylibId}
use Rattle.orc_ids.specs.declared.ids.GenId.{GenId}
use Rattle.orc_ids.specs.declared.ids.NameId.{NameId}
use Rattle.orc_ids.specs.declared.ids.TrackId.{TrackId}
use Rattle.orc_ids.specs.declared.limits.TheConstants.{TRACKER_LIMIT, UNIT_LIMIT, GENERATOR_LIMIT, INSTANCE_LIMIT}
use Rattle.orc_ids.specs.declared.lookup.OrderItem.{OrderItem}
use Rattle.session_model.specs.Lists.{first_some}
use Rattle.session_model.specs.Meaning.{Meaning}
use Rattle.session_model.specs.Plain.{Plain, GenRow, has_tracker, is_tracker_of, tracker_dylib}
use Rattle.session_model.specs.Answer.{clash, answer_set_order, answer_tracker, answer_move, answer_remove, answer_attach, answer_define, answer_unit, answer_generate}
use Rattle.session_model.specs.Change.{verdict, verdicts, kept_names}
use Rattle.session_model.specs.declared.entry.Reply.{Reply}
use Rattle.session_model.specs.declared.entry.Reply.TheVariants as reply

pub record AcceptsOrder (m : Plain) (d : DylibId) (order : List OrderItem) : Type 0 where
  pub answered : answer_set_order m d order ≡ reply.Set
  pub there : d.0 < length m.dylibs

pub record AcceptsTracker (m : Plain) (d : DylibId) : Type 0 where
  pub answered : answer_tracker m d ≡ reply.Tracker (record { 0 = length m.trackers })
  pub there : d.0 < length m.dylibs
  pub few : length m.trackers < TRACKER_LIMIT

-- both trackers are there, of one dylib
pub record AcceptsMove (m : Plain) (t to : TrackId) : Type 0 where
  pub answered : answer_move m t to ≡ reply.Moved
  pub from : has_tracker m t.0 ≡ true
  pub into : has_tracker m to.0 ≡ true
  pub dylib : tracker_dylib m t.0 ≡ tracker_dylib m to.0

pub record AcceptsRemove (m : Plain) (t : TrackId) : Type 0 where
  pub answered : answer_remove m t ≡ reply.Removed
  pub there : has_tracker m t.0 ≡ true

pub record AcceptsAttach (m : Plain) (d : DylibId) (t : TrackId) : Type 0 where
  pub answered : answer_attach m d t ≡ reply.Generator (record { 0 = length m.generators })
  pub there : d.0 < length m.dylibs
  pub tracker : is_tracker_of m d.0 t.0 ≡ true
  pub few : length m.generators < GENERATOR_LIMIT

-- the first of these names that clashes
abbrev pub first_clash : Plain → ℕ → List (NameId × SymFlags) → Option Reply
first_clash m d offers = first_some (λ (offer : NameId × SymFlags). clash offer.0 (verdict m.rows d offer)) offers

-- the next unit is defined, with an instance for each name that it keeps
abbrev pub next_defined : Plain → ℕ → List (NameId × SymFlags) → Reply
next_defined m d offers = reply.Defined (record { 0 = length m.units }) (record { 0 = length m.rows }) (count_by (λ (b : Bool). b) (kept_names (verdicts m.rows d offers)))

-- a unit that offers so many names is defined, unless one of them clashes
pub record AcceptsDefine (m : Plain) (d : DylibId) (t : TrackId) (count : ℕ) : Type 0 where
  pub answered : (u : Meaning) → length u.offers ≡ count → answer_define m d t u ≡ unwrap_or (first_clash m d.0 u.offers) (next_defined m d.0 u.offers)
  pub there : d.0 < length m.dylibs
  pub tracker : is_tracker_of m d.0 t.0 ≡ true
  pub units : length m.units < UNIT_LIMIT
  pub instances : length m.rows + count ≤ INSTANCE_LIMIT

-- its unit is defined in its dylib
pub record AcceptsGenerate (m : Plain) (g : GenId) : Type 0 where
  pub generator : GenRow
  pub there : slice_get m.generators g.0 ≡ Some generator
  pub unspent : generator.spent ≡ false
  pub answered : answer_generate m g ≡ answer_unit m generator.dylib generator.meaning
