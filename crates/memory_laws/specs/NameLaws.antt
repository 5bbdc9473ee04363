-- The rows and units of a program's session, by the names of its objects.
use Rattle.std.specs.Prelude.{◌≡◌, ℕ, ◌≤◌, Bool, true, false, List, [], ◌∷◌, length, take, slice_get, Some, None}
use Rattle.std.specs.List.{All}
use Rattle.orc_ids.specs.declared.ids.UnitName.{UnitName}
use Rattle.orc_ids.specs.declared.lookup.OrderItem.{OrderItem}
use Rattle.orc_ids.specs.declared.lookup.Scope.TheVariants as scope
use Rattle.link_model.specs.Graph.{is_offered}
use Rattle.link_model.specs.Image.{at_or}
use Rattle.link_model.specs.Offers.{no_symbol, offered_symbols}
use Rattle.link_model.specs.declared.graph.LinkGraph.{LinkGraph}
use Rattle.session_model.specs.Change.{link_order}
use Rattle.session_model.specs.History.{IsLegal}
use Rattle.session_model.specs.Match.{row_of}
use Rattle.session_model.specs.Meaning.{Meaning}
use Rattle.session_model.specs.Plain.{Plain, UnitRow}
use Rattle.session_model.specs.State.{state}
use Rattle.session_model.specs.declared.entry.Entry.{Entry}
use Rattle.session_model.specs.declared.entry.Event.{Event}
use Rattle.session_model.specs.declared.entry.Event.TheVariants as event
use Rattle.session_model.specs.declared.rows.InstRow.{InstRow}
use Rattle.session_model.specs.declared.rows.Phase.TheVariants as phase
use Rattle.session_model.specs.declared.rows.Row.{Row}
use Rattle.session_model.specs.declared.rows.UnitPhase.TheVariants as stage
use Rattle.session_units.specs.Meaning.{graph_meaning}
use Rattle.memory_laws.specs.Names.{definition, kept_names}
use Rattle.memory_laws.specs.Objects.{IsProgram, first_dylib}

-- The instance is that of symbol s of object k: it offers the symbol's name, from the place that the symbol has among
-- those that the object offers.
pub record IsOfSymbol (graphs : List LinkGraph) (k s : ℕ) (r : InstRow) : Type 0 where
  pub graph : LinkGraph
  pub there : slice_get graphs k ≡ Some graph
  pub unit : r.unit.0 ≡ k
  pub offered : is_offered (at_or no_symbol graph.symbols s) ≡ true
  pub symbol : slice_get (offered_symbols graph) r.offer ≡ Some (at_or no_symbol graph.symbols s)
  pub within : slice_get graph.symbols s ≡ Some (at_or no_symbol graph.symbols s)

-- a present row of the first dylib, and its instance
pub record HasRow (rows : List InstRow) (name : ℕ) (r : InstRow) : Type 0 where
  pub number : ℕ
  pub row : Row
  pub found : row_of rows 0 name ≡ Some row
  pub is : row.inst.0 ≡ number
  pub there : slice_get rows number ≡ Some r
  pub present : r.present ≡ true

-- one dylib, of which all is seen
abbrev pub main_order : List OrderItem
main_order = record { dylib = first_dylib; scope = scope.All } ∷ []

-- unit k of a session of the objects keeps the names that object k defines, and looks its externals up in the one dylib
pub record IsObjectUnit (graphs : List LinkGraph) (m : Plain) (k : ℕ) (g : LinkGraph) (x : UnitRow) : Type 0 where
  pub name : UnitName
  pub is : x.meaning ≡ graph_meaning name g
  pub keeps : x.live ≡ kept_names graphs k g
  pub looks : link_order m x ≡ main_order

-- A session of the objects: each is a unit, the row of a name is that of its definition, a name without one has no row,
-- and there is no generator.
pub record IsOfObjects (graphs : List LinkGraph) (m : Plain) : Type 0 where
  pub whole : length m.units ≡ length graphs
  pub units : (k : ℕ) (x : UnitRow) (g : LinkGraph) → slice_get m.units k ≡ Some x → slice_get graphs k ≡ Some g → IsObjectUnit graphs m k g x
  pub defined : (name k s : ℕ) → definition graphs name ≡ Some (k, s) → (r : InstRow) × HasRow m.rows name r × IsOfSymbol graphs k s r
  pub undefined : (name : ℕ) → definition graphs name ≡ None → row_of m.rows 0 name ≡ None
  pub generators : m.generators ≡ []

-- in every legal history that is a program's
abbrev pub NamesAreDefined : Type 0
NamesAreDefined = (jmax : ℕ) (h : List (Entry Meaning)) → IsLegal jmax h → (graphs : List LinkGraph) → IsProgram graphs h → IsOfObjects graphs (state h)

-- what a program's history begins with, once its objects are defined, is a program's too
abbrev pub NamesStay : Type 0
NamesStay = (h : List (Entry Meaning)) (graphs : List LinkGraph) (p : IsProgram graphs h) (n : ℕ) → length p.setup ≤ n → IsProgram graphs (take n h)

abbrev pub is_ask : Event Meaning → Bool
is_ask (event.Ask order wanted level _) = true
is_ask e = false

-- No instance was asked for, no unit was claimed or is held, and there is no job and no query.
pub record IsUntouched (m : Plain) : Type 0 where
  pub rows : (i : ℕ) (r : InstRow) → slice_get m.rows i ≡ Some r → r.phase ≡ phase.Unsearched
  pub units : (u : ℕ) (x : UnitRow) → slice_get m.units u ≡ Some x → (x.phase ≡ stage.Unclaimed) × (x.seat ≡ None)
  pub jobs : m.jobs ≡ []
  pub queries : m.queries ≡ []

-- so it is in each legal history of a program in which no names were asked for
abbrev pub AskComesFirst : Type 0
AskComesFirst = (jmax : ℕ) (h : List (Entry Meaning)) → IsLegal jmax h → (graphs : List LinkGraph) (p : IsProgram graphs h) → All (λ (e : Entry Meaning). is_ask e.event ≡ false) p.later → IsUntouched (state h)
