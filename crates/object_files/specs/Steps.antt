-- What becomes of one file, those before it having been taken in.
use Rattle.std.specs.Prelude.{◌≡◌, ℕ, ◌+◌, ◌<◌, ◌≤◌, ◌^◌, ◌⊎◌, List, [], ◌∷◌, length, All, ⊤}
use Rattle.orc_ids.specs.declared.ids.UnitName.TheVariants.{Object}
use Rattle.orc_io.specs.Causes.{Rose}
use Rattle.orc_io.specs.Contents.{HasContent, IsLongerThan}
use Rattle.orc_io.specs.declared.limits.TheConstants.{FILE_LIMIT}
use Rattle.elf_read.specs.declared.object.ElfObject.{ElfObject}
use Rattle.elf_read.specs.declared.object.Symbol.{Symbol}
use Rattle.link_model.specs.Sound.{Sound, OffersDiffer}
use Rattle.link_model.specs.declared.graph.LinkGraph.{LinkGraph}
use Rattle.session_model.specs.Meaning.{Meaning}
use Rattle.session_units.specs.Meaning.{graph_meaning}
use Rattle.object_files.specs.Files.{Told, HasAddresses, IsObject, IsRefused}
use Rattle.object_files.specs.Reads.{Use, AreReadIn, IsFaultAfter}
use Rattle.object_files.specs.declared.error.LoadError.{LoadError}
use Rattle.object_files.specs.declared.error.LoadError.TheVariants.{Fault, TooLong, Refused, NoMemory}
use Rattle.object_files.specs.declared.load.TheConstants.{TOTAL_LIMIT}

-- the bytes of the next file, which is not too long, nor are all up to it
pub record IsNext (told : Told) (before : ℕ) (name bytes : List ℕ) : Type 0 where
  pub content : HasContent told name bytes
  pub short : length bytes ≤ FILE_LIMIT
  pub within : before + length bytes ≤ TOTAL_LIMIT

-- the values of an object's symbols have 64 bits
abbrev pub HasValues : ElfObject → Type 0
HasValues o = All (λ (s : Symbol). s.value < 2 ^ 64) o.symbols

-- a graph that some bytes have, and a unit can be made of
pub record IsGraphOf (names : List (List ℕ)) (bytes : List ℕ) (g : LinkGraph) : Type 0 where
  pub object : IsObject names bytes g
  pub sound : Sound g
  pub differ : OffersDiffer g
  pub addresses : HasAddresses g

-- the unit of the object that bytes are
pub record IsUnitOf (names : List (List ℕ)) (number : ℕ) (bytes : List ℕ) (unit : Meaning) : Type 0 where
  pub graph : LinkGraph
  pub made : IsGraphOf names bytes graph
  pub is : unit ≡ graph_meaning (Object number) graph

-- the next file was taken in: it has so many bytes, and this is its unit
pub record IsTaken (told : Told) (names : List (List ℕ)) (number before : ℕ) (name : List ℕ) (unit : Meaning) (size : ℕ) : Type 0 where
  pub bytes : List ℕ
  pub next : IsNext told before name bytes
  pub size_is : size ≡ length bytes
  pub unit_is : IsUnitOf names number bytes unit

-- it has more than 16 MiB, or all up to it have more than 256 MiB
abbrev pub IsTooLong : Told → ℕ → List ℕ → Type 0
IsTooLong told before name =
    IsLongerThan FILE_LIMIT told name ⊎ ((bytes : List ℕ) × HasContent told name bytes × (length bytes ≤ FILE_LIMIT) × (TOTAL_LIMIT < before + length bytes))

-- bytes are refused, or memory ran out
abbrev pub RefusesBytes : ℕ → List ℕ → LoadError → Type 0
RefusesBytes number bytes (Refused k why) = (k ≡ number) × IsRefused bytes why
RefusesBytes number bytes NoMemory = ⊤
RefusesBytes number bytes _ = ⊥

-- why the next file was not taken in
abbrev pub IsStoppedAt : Told → ℕ → ℕ → ℕ → ℕ → List ℕ → LoadError → Type 0
IsStoppedAt told faults now number before name (Fault k) = (k ≡ number) × Rose faults now
IsStoppedAt told faults now number before name (TooLong k) = (k ≡ number) × IsTooLong told before name
IsStoppedAt told faults now number before name (Refused k why) = (k ≡ number) × ((bytes : List ℕ) × IsNext told before name bytes × IsRefused bytes why)
IsStoppedAt told faults now number before name NoMemory = ⊤

-- the next file was read, and nothing else; the read was a fault where the answer says so
abbrev pub IsReadFor : List ℕ → Use → Use → LoadError → Type 0
IsReadFor name old new (Fault k) = IsFaultAfter [] name old new
IsReadFor name old new _ = AreReadIn (name ∷ []) old new
