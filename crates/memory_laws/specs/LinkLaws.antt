-- What a session of a program's objects binds, and what its memory holds.
use Rattle.std.specs.Prelude.{◌≡◌, ℕ, List, All, Option, Some}
use Rattle.link_model.specs.declared.graph.LinkGraph.{LinkGraph}
use Rattle.session_model.specs.History.{IsLegal}
use Rattle.session_model.specs.Match.{row_of}
use Rattle.session_model.specs.Meaning.{Meaning}
use Rattle.session_model.specs.Memory.{memory}
use Rattle.session_model.specs.Owed.{IsIntact}
use Rattle.session_model.specs.Plain.{Plain, address_at}
use Rattle.session_model.specs.Reach.{IsReady}
use Rattle.session_model.specs.State.{state}
use Rattle.session_model.specs.declared.entry.Entry.{Entry}
use Rattle.session_model.specs.declared.rows.Row.{Row}
use Rattle.static_links.specs.Links.{IsLinkedProgram}
use Rattle.memory_laws.specs.Closures.{AreObjects, IsBlockOf, IsMapOf, block_at, members_of}
use Rattle.memory_laws.specs.Objects.{IsProgram}
use Rattle.memory_laws.specs.Programs.{HasAddresses, bases_of, name_spot, program_members, spots_by_name}

-- The units are the objects, so each instance is its own end; each symbol is bound to its name's definition, and all that a
-- ready instance of a name reaches is there.
pub record IsLinkedByNames (graphs : List LinkGraph) (m : Plain) : Type 0 where
  pub graphs_are : AreObjects m.units graphs
  pub members : members_of m.units graphs ≡ program_members graphs (bases_of m.units)
  pub map : IsMapOf m graphs (spots_by_name graphs (program_members graphs (bases_of m.units)))
  pub own : (i : ℕ) → IsBlockOf m graphs i (block_at graphs m.rows i)
  pub intact : (name : ℕ) (row : Row) → row_of m.rows 0 name ≡ Some row → IsReady m.rows row.inst.0 → IsIntact m.rows row.inst.0
  pub stands : (name address : ℕ) (row : Row) → row_of m.rows 0 name ≡ Some row → address_at m.rows row.inst.0 ≡ Some address →
      name_spot graphs (program_members graphs (bases_of m.units)) name ≡ record { address = address; block = block_at graphs m.rows row.inst.0 }

-- in every legal history that is a program's
abbrev pub ProgramIsLinkedByNames : Type 0
ProgramIsLinkedByNames = (jmax : ℕ) (h : List (Entry Meaning)) → IsLegal jmax h → (graphs : List LinkGraph) → IsProgram graphs h → All HasAddresses graphs → IsLinkedByNames graphs (state h)

-- where the row of a name is ready, memory has the program of that name's definition at every address that it maps
abbrev pub MemoryHoldsProgram : Type 0
MemoryHoldsProgram = (jmax : ℕ) (h : List (Entry Meaning)) → IsLegal jmax h → (graphs : List LinkGraph) → IsProgram graphs h → All HasAddresses graphs →
    (name : ℕ) (row : Row) → row_of (state h).rows 0 name ≡ Some row → IsReady (state h).rows row.inst.0 →
    (program : ℕ → Option ℕ) →
    IsLinkedProgram (program_members graphs (bases_of (state h).units)) (spots_by_name graphs (program_members graphs (bases_of (state h).units))) (name_spot graphs (program_members graphs (bases_of (state h).units)) name).block program →
    (at byte : ℕ) → program at ≡ Some byte → memory (state h) at ≡ Some byte

-- and there is that program
abbrev pub ReadyNameHasProgram : Type 0
ReadyNameHasProgram = (jmax : ℕ) (h : List (Entry Meaning)) → IsLegal jmax h → (graphs : List LinkGraph) → IsProgram graphs h → All HasAddresses graphs →
    (name : ℕ) (row : Row) → row_of (state h).rows 0 name ≡ Some row → IsReady (state h).rows row.inst.0 →
    (program : ℕ → Option ℕ) × IsLinkedProgram (program_members graphs (bases_of (state h).units)) (spots_by_name graphs (program_members graphs (bases_of (state h).units))) (name_spot graphs (program_members graphs (bases_of (state h).units)) name).block program
