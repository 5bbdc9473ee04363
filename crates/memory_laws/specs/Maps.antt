-- There is a map of the symbols of each session, and a closure of each intact instance.
use Rattle.std.specs.Prelude.{◌≡◌, ℕ, List, Option, Some}
use Rattle.link_model.specs.declared.graph.LinkGraph.{LinkGraph}
use Rattle.session_model.specs.History.{IsLegal}
use Rattle.session_model.specs.Meaning.{Meaning}
use Rattle.session_model.specs.Owed.{IsIntact}
use Rattle.session_model.specs.Plain.{address_at}
use Rattle.session_model.specs.State.{state}
use Rattle.session_model.specs.declared.entry.Entry.{Entry}
use Rattle.static_links.specs.Links.{IsLinkedProgram, Spots}
use Rattle.memory_laws.specs.Closures.{AreObjects, IsBlockOf, IsEnd, IsMapOf, members_of}

-- in every legal history: the end of an intact instance has its address
abbrev pub IntactEndsStandThere : Type 0
IntactEndsStandThere = (jmax : ℕ) (h : List (Entry Meaning)) → IsLegal jmax h → (graphs : List LinkGraph) → AreObjects (state h).units graphs → (i end : ℕ) → IsIntact (state h).rows i → IsEnd (state h) i end →
    (address : ℕ) × (address_at (state h).rows i ≡ Some address) × (address_at (state h).rows end ≡ Some address)

-- an instance that has an address has a block, or none, that its end lies in
abbrev pub BlocksAreThere : Type 0
BlocksAreThere = (jmax : ℕ) (h : List (Entry Meaning)) → IsLegal jmax h → (graphs : List LinkGraph) → AreObjects (state h).units graphs → (i address : ℕ) → address_at (state h).rows i ≡ Some address →
    (block : Option (ℕ × ℕ)) × IsBlockOf (state h) graphs i block

-- the symbols of the units have a map
abbrev pub MapIsThere : Type 0
MapIsThere = (jmax : ℕ) (h : List (Entry Meaning)) → IsLegal jmax h → (graphs : List LinkGraph) → AreObjects (state h).units graphs → (spots : Spots) × IsMapOf (state h) graphs spots

-- by each map, an intact instance has a closure
abbrev pub ClosuresAreThere : Type 0
ClosuresAreThere = (jmax : ℕ) (h : List (Entry Meaning)) → IsLegal jmax h → (graphs : List LinkGraph) → AreObjects (state h).units graphs → (spots : Spots) → IsMapOf (state h) graphs spots →
    (i : ℕ) → IsIntact (state h).rows i → (first : Option (ℕ × ℕ)) → IsBlockOf (state h) graphs i first →
    (closure : ℕ → Option ℕ) × IsLinkedProgram (members_of (state h).units graphs) spots first closure
