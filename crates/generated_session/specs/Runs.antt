-- The history of such a session, without workers.
use Rattle.std.specs.Prelude.{◌≡◌, ℕ, Bool, true, false, List, [], ◌∷◌, length, slice_get, Option, Some, Ok}
use Rattle.orc_ids.specs.declared.ids.UnitName.TheVariants.{Object}
use Rattle.orc_ids.specs.declared.lookup.Stop.{Stop}
use Rattle.link_graph.specs.Checks.{graph_of_object}
use Rattle.link_model.specs.declared.graph.LinkGraph.{LinkGraph}
use Rattle.session_model.specs.Meaning.{Meaning}
use Rattle.session_model.specs.declared.entry.Entry.{Entry}
use Rattle.session_units.specs.Meaning.{graph_meaning}
use Rattle.script_model.specs.Scripts.{IsScriptRun}
use Rattle.script_model.specs.declared.line_end.LineEnd.{LineEnd}
use Rattle.script_model.specs.declared.line_end.LineEnd.TheVariants.{Stopped}
use Rattle.generated_objects.specs.Objects.{generated_object, session_names}
use Rattle.generated_session.specs.Scripts.{generated_script}

-- the unit of the graph of object k of n, by the numbers of the session's texts
abbrev pub IsUnit : ℕ → ℕ → Meaning → Type 0
IsUnit n k unit = (g : LinkGraph) × (graph_of_object (session_names n) (generated_object n k) ≡ Ok g) × (unit ≡ graph_meaning (Object k) g)

-- the units of the first so many objects of n
pub record AreUnits (n count : ℕ) (units : List Meaning) : Type 0 where
  pub whole : length units ≡ count
  pub each : (k : ℕ) (unit : Meaning) → slice_get units k ≡ Some unit → IsUnit n k unit

-- The history of the session of n objects, in which the client's lines ended so; or a call of the set-up was stopped.
pub record IsGeneratedRun (jmax n : ℕ) (stopped : Option Stop) (ends : List LineEnd) (h : List (Entry Meaning)) : Type 0 where
  pub units : List Meaning
  pub are : AreUnits n n units
  pub run : IsScriptRun jmax 0 (generated_script n units) stopped (ends ∷ []) h

-- a call of the line was stopped
abbrev pub is_stopped : LineEnd → Bool
is_stopped (Stopped st) = true
is_stopped end = false
