-- Histories that define the objects of a program in one dylib, and then change no name.
use Rattle.std.specs.Prelude.{◌≡◌, ℕ, Bool, true, false, List, ◌∷◌, ◌++◌, length, map, slice_get, All, Some}
use Rattle.orc_ids.specs.declared.ids.DylibId.{DylibId}
use Rattle.orc_ids.specs.declared.ids.NameId.{NameId}
use Rattle.orc_ids.specs.declared.ids.TrackId.{TrackId}
use Rattle.orc_ids.specs.declared.ids.UnitName.{UnitName}
use Rattle.link_model.specs.Sound.{Sound, OffersDiffer}
use Rattle.link_model.specs.declared.graph.LinkGraph.{LinkGraph}
use Rattle.session_model.specs.Meaning.{Meaning}
use Rattle.session_model.specs.declared.entry.Entry.{Entry}
use Rattle.session_model.specs.declared.entry.Event.{Event}
use Rattle.session_model.specs.declared.entry.Event.TheVariants as event
use Rattle.session_model.specs.declared.entry.Reply.{Reply}
use Rattle.session_model.specs.declared.entry.Reply.TheVariants as reply
use Rattle.session_units.specs.Meaning.{graph_meaning}

abbrev pub first_dylib : DylibId
first_dylib = record { 0 = 0 }

abbrev pub first_tracker : TrackId
first_tracker = record { 0 = 0 }

-- a dylib, a tracker of it, and the definitions of the units in it, in order
abbrev pub setup_events : NameId → List Meaning → List (Event Meaning)
setup_events main units = event.Dylib main ∷ event.Tracker first_dylib ∷ map (event.Define first_dylib first_tracker) units

-- a reply to one of these that refuses nothing
abbrev pub is_done : Reply → Bool
is_done (reply.Made d) = true
is_done (reply.Tracker t) = true
is_done (reply.Defined u first count) = true
is_done r = false

-- The units are those of graphs, in order, which are sound and offer no name twice.
pub record AreUnits (units : List Meaning) (graphs : List LinkGraph) : Type 0 where
  pub whole : length units ≡ length graphs
  pub each : (k : ℕ) (unit : Meaning) (g : LinkGraph) → slice_get units k ≡ Some unit → slice_get graphs k ≡ Some g → (name : UnitName) × (unit ≡ graph_meaning name g)
  pub sound : All (λ g. Sound g) graphs
  pub differ : All (λ g. OffersDiffer g) graphs

-- an event that changes no name, and where none is looked for
abbrev pub keeps_names : Event Meaning → Bool
keeps_names (event.Ask order wanted level _) = true
keeps_names (event.Collect q) = true
keeps_names event.Take = true
keeps_names (event.Place u shape) = true
keeps_names (event.Resolve u) = true
keeps_names (event.Link u) = true
keeps_names (event.Emit u groups) = true
keeps_names (event.Fail u why) = true
keeps_names event.Image = true
keeps_names e = false

-- The objects were defined, each was taken, and later events change no name.
pub record IsProgram (graphs : List LinkGraph) (h : List (Entry Meaning)) : Type 0 where
  pub main : NameId
  pub units : List Meaning
  pub are : AreUnits units graphs
  pub setup : List (Entry Meaning)
  pub later : List (Entry Meaning)
  pub parts : h ≡ setup ++ later
  pub events : map (λ (e : Entry Meaning). e.event) setup ≡ setup_events main units
  pub done : All (λ (e : Entry Meaning). is_done e.reply ≡ true) setup
  pub quiet : All (λ (e : Entry Meaning). keeps_names e.event ≡ true) later
