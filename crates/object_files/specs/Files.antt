-- Which objects some files are, and which file is the first that is refused.
use Rattle.std.specs.Prelude.{◌≡◌, ℕ, ◌+◌, ◌<◌, ◌≤◌, ◌^◌, Bool, List, [], ◌∷◌, length, sum_by, slice_get, All, Option, Some, Ok, Err, ⊤, if◌then◌else◌}
use Rattle.std.specs.List.{list_any}
use Rattle.std.specs.Str.{bytes_eq}
use Rattle.orc_ids.specs.declared.ids.UnitName.TheVariants.{Object}
use Rattle.orc_io.specs.Causes.{Rose}
use Rattle.orc_io.specs.Contents.{HasContent, IsLongerThan}
use Rattle.orc_io.specs.declared.limits.TheConstants.{FILE_LIMIT}
use Rattle.elf_read.specs.declared.error.ElfError.{ElfError}
use Rattle.elf_read.specs.declared.object.ElfObject.{ElfObject}
use Rattle.elf_read.specs.Object.{object_of}
use Rattle.link_graph.specs.Checks.{graph_of_object}
use Rattle.link_graph.specs.Read.{AreNamed}
use Rattle.link_graph.specs.declared.error.GraphError.{GraphError}
use Rattle.link_model.specs.Sound.{Sound, OffersDiffer}
use Rattle.link_model.specs.declared.graph.GPlace.{GPlace}
use Rattle.link_model.specs.declared.graph.GPlace.TheVariants.{Abs}
use Rattle.link_model.specs.declared.graph.GSym.{GSym}
use Rattle.link_model.specs.declared.graph.LinkGraph.{LinkGraph}
use Rattle.session_model.specs.Meaning.{Meaning}
use Rattle.session_units.specs.Meaning.{graph_meaning}
use Rattle.object_files.specs.declared.error.ObjectWhy.{ObjectWhy}
use Rattle.object_files.specs.declared.error.ObjectWhy.TheVariants.{Elf, Graph}
use Rattle.object_files.specs.declared.error.LoadError.{LoadError}
use Rattle.object_files.specs.declared.error.LoadError.TheVariants.{Fault, TooLong, Refused, NoMemory}
use Rattle.object_files.specs.declared.load.TheConstants.{TOTAL_LIMIT}

-- the contents of files by their names, where the files tell them
abbrev pub Told : Type 0
Told = Option (List ℕ → Option (List ℕ))

-- The files: each name once, in the order of first mention, without those that were mentioned before

abbrev pub is_among : List (List ℕ) → List ℕ → Bool
is_among names name = list_any (bytes_eq name) names

abbrev pub distinct_after : List (List ℕ) → List (List ℕ) → List (List ℕ)
distinct_after before [] = []
distinct_after before (name ∷ names) =
    if is_among before name then distinct_after before names else name ∷ distinct_after (name ∷ before) names

abbrev pub distinct : List (List ℕ) → List (List ℕ)
distinct names = distinct_after [] names

-- for each word the place of its text among the files
pub record AreNumbered (files words : List (List ℕ)) (numbers : List ℕ) : Type 0 where
  pub all : length numbers ≡ length words
  pub are : (k number : ℕ) → slice_get numbers k ≡ Some number → slice_get files number ≡ slice_get words k

-- absolute symbols have addresses of 64 bits
abbrev pub IsAddress : GPlace → Type 0
IsAddress (Abs address) = address < 2 ^ 64
IsAddress _ = ⊤

abbrev pub HasAddresses : LinkGraph → Type 0
HasAddresses g = All (λ (s : GSym). IsAddress s.place) g.symbols

-- the bytes of all
abbrev pub total : List (List ℕ) → ℕ
total contents = sum_by (λ (bytes : List ℕ). length bytes) contents

-- bytes are an object that has a graph, by the names of a table
pub record IsObject (names : List (List ℕ)) (bytes : List ℕ) (g : LinkGraph) : Type 0 where
  pub object : ElfObject
  pub read : object_of bytes ≡ Ok object
  pub made : graph_of_object names object ≡ Ok g
  -- each of its symbols that isn't local has its own name there
  pub named : AreNamed names object.symbols

-- why bytes are refused: they are no object, or the object has no graph; the numbers of names don't matter to that
pub data IsRefused (bytes : List ℕ) : ObjectWhy → Type 0 where
  NoObject : (e : ElfError) → object_of bytes ≡ Err e → IsRefused bytes (Elf e)
  NoGraph : (object : ElfObject) (e : GraphError) → object_of bytes ≡ Ok object → graph_of_object [] object ≡ Err e → IsRefused bytes (Graph e)

-- These are the contents of the first files, as far as the files tell them: none has more than 16 MiB, nor all together
-- more than 256 MiB, and each is an object that has a graph.
pub record AreRead (told : Told) (files : List (List ℕ)) (contents : List (List ℕ)) : Type 0 where
  pub few : length contents ≤ length files
  pub told_so : (k : ℕ) (name bytes : List ℕ) → slice_get files k ≡ Some name → slice_get contents k ≡ Some bytes → HasContent told name bytes
  pub short : All (λ (bytes : List ℕ). length bytes ≤ FILE_LIMIT) contents
  pub within : total contents ≤ TOTAL_LIMIT
  pub objects : (k : ℕ) (bytes : List ℕ) → slice_get contents k ≡ Some bytes → (names : List (List ℕ)) × (g : LinkGraph) × IsObject names bytes g

-- All files were read: the units are theirs, in order, by the names of one table.
pub record AreLoaded (told : Told) (files : List (List ℕ)) (names : List (List ℕ)) (units : List Meaning) : Type 0 where
  pub contents : List (List ℕ)
  pub read : AreRead told files contents
  pub all : length contents ≡ length files
  pub graphs : List LinkGraph
  pub whole : length graphs ≡ length files
  pub objects : (k : ℕ) (bytes : List ℕ) (g : LinkGraph) → slice_get contents k ≡ Some bytes → slice_get graphs k ≡ Some g → IsObject names bytes g
  pub count : length units ≡ length files
  pub are : (k : ℕ) (unit : Meaning) (g : LinkGraph) → slice_get units k ≡ Some unit → slice_get graphs k ≡ Some g → unit ≡ graph_meaning (Object k) g
  pub sound : All (λ g. Sound g) graphs
  pub differ : All (λ g. OffersDiffer g) graphs
  pub addresses : All HasAddresses graphs

-- The first file that wasn't taken in, all before it having been read: it couldn't be read, and the count of faults rose;
-- it has more than 16 MiB, or more than all may have together; or its bytes are refused.
pub data HasStopped (told : Told) (before after : ℕ) (files : List (List ℕ)) : LoadError → Type 0 where
  InReading : (k : ℕ) (contents : List (List ℕ)) → AreRead told files contents → length contents ≡ k → k < length files → Rose before after → HasStopped told before after files (Fault k)
  InLength : (k : ℕ) (contents : List (List ℕ)) (name : List ℕ) → AreRead told files contents → length contents ≡ k → slice_get files k ≡ Some name → IsLongerThan FILE_LIMIT told name → HasStopped told before after files (TooLong k)
  InTotal : (k : ℕ) (contents : List (List ℕ)) (name bytes : List ℕ) → AreRead told files contents → length contents ≡ k → slice_get files k ≡ Some name →
      HasContent told name bytes → length bytes ≤ FILE_LIMIT → TOTAL_LIMIT < total contents + length bytes → HasStopped told before after files (TooLong k)
  InObject : (k : ℕ) (contents : List (List ℕ)) (name bytes : List ℕ) (why : ObjectWhy) → AreRead told files contents → length contents ≡ k → slice_get files k ≡ Some name →
      HasContent told name bytes → length bytes ≤ FILE_LIMIT → total contents + length bytes ≤ TOTAL_LIMIT → IsRefused bytes why → HasStopped told before after files (Refused k why)
  Wanting : HasStopped told before after files NoMemory
