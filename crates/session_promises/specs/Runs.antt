-- A run from an intact symbol.
use Rattle.std.specs.Prelude.{ℕ, List, Option}
use Rattle.link_model.specs.declared.graph.LinkGraph.{LinkGraph}
use Rattle.rv_hart.specs.Map.{Map}
use Rattle.session_model.specs.Meaning.{Meaning}
use Rattle.session_model.specs.Plain.{Plain}
use Rattle.session_model.specs.Owed.{IsIntact}
use Rattle.static_links.specs.Links.{IsLinkedProgram, Spots}
use Rattle.memory_laws.specs.Closures.{AreObjects, IsBlockOf, IsMapOf, IsObject, members_of}

-- the unit is that of an object, or needs no memory
abbrev pub IsLinkable : Meaning → Type 0
IsLinkable unit = (g : LinkGraph) × IsObject unit g

-- The statically linked program of all that an intact instance needs, each unit where the session has it. It begins with the block
-- of the instance's end.
pub record IsClosure (m : Plain) (i : ℕ) (closure : Map) : Type 0 where
  pub graphs : List LinkGraph
  pub are : AreObjects m.units graphs
  pub spots : Spots
  pub bound : IsMapOf m graphs spots
  pub intact : IsIntact m.rows i
  pub first : Option (ℕ × ℕ)
  pub starts : IsBlockOf m graphs i first
  pub linked : IsLinkedProgram (members_of m.units graphs) spots first closure
