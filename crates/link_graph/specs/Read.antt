-- Which objects are read from bytes, and what becomes of their names.
use Rattle.std.specs.Prelude.{◌≡◌, ℕ, ◌≤◌, ◌⊎◌, List, length, All, Contains, Ok, IsTrue, ⊤}
use Rattle.elf_read.specs.Object.{object_of}
use Rattle.elf_read.specs.declared.object.ElfObject.{ElfObject}
use Rattle.elf_read.specs.declared.object.Symbol.{Symbol}
use Rattle.link_graph.specs.Object.{is_global}
use Rattle.link_graph.specs.declared.error.GraphError.{GraphError}
use Rattle.link_graph.specs.declared.error.GraphError.TheVariants.{NoMemory}

-- the object is what some bytes are
pub record IsRead (o : ElfObject) : Type 0 where
  pub bytes : List ℕ
  pub read : object_of bytes ≡ Ok o

-- no name is longer than a name may be
abbrev pub HasShortNames : List Symbol → Type 0
HasShortNames symbols = All (λ (s : Symbol). length s.name ≤ 4096) symbols

-- the texts have the name of each symbol that isn't local
abbrev pub AreNamed : List (List ℕ) → List Symbol → Type 0
AreNamed names symbols = All (λ (s : Symbol). IsTrue (is_global s) → Contains names s.name) symbols

-- the text is the name of a symbol that isn't local
abbrev pub IsNameIn : List Symbol → List ℕ → Type 0
IsNameIn symbols text = (s : Symbol) × Contains symbols s × IsTrue (is_global s) × (s.name ≡ text)

-- no text was added but such names
abbrev pub AddsNamesOf : List Symbol → List (List ℕ) → List (List ℕ) → Type 0
AddsNamesOf symbols old new = (text : List ℕ) → Contains new text → Contains old text ⊎ IsNameIn symbols text

-- a refusal leaves the texts as they were; where memory ran out, there may be more
abbrev pub LeavesNames : GraphError → List (List ℕ) → List (List ℕ) → Type 0
LeavesNames NoMemory old new = ⊤
LeavesNames _ old new = new ≡ old
