-- What memory holds for an intact instance.
use Rattle.std.specs.Prelude.{◌≡◌, ℕ, List, Option, Some}
use Rattle.link_model.specs.declared.graph.LinkGraph.{LinkGraph}
use Rattle.session_model.specs.History.{IsLegal}
use Rattle.session_model.specs.Meaning.{Meaning}
use Rattle.session_model.specs.Memory.{memory}
use Rattle.session_model.specs.Owed.{IsIntact}
use Rattle.session_model.specs.State.{state}
use Rattle.session_model.specs.declared.entry.Entry.{Entry}
use Rattle.static_links.specs.Links.{Spots, IsLinkedProgram}
use Rattle.memory_laws.specs.Closures.{AreObjects, IsBlockOf, IsMapOf, members_of}

-- in every legal history: the memory has, at every address that the closure maps, what the closure has there
abbrev pub IntactHoldsClosure : Type 0
IntactHoldsClosure = (jmax : ℕ) (h : List (Entry Meaning)) → IsLegal jmax h →
    (graphs : List LinkGraph) → AreObjects (state h).units graphs → (spots : Spots) → IsMapOf (state h) graphs spots →
    (i : ℕ) → IsIntact (state h).rows i → (first : Option (ℕ × ℕ)) → IsBlockOf (state h) graphs i first →
    (closure : ℕ → Option ℕ) → IsLinkedProgram (members_of (state h).units graphs) spots first closure →
    (at byte : ℕ) → closure at ≡ Some byte → memory (state h) at ≡ Some byte
