-- What holds of a script that was read: each line is within its limits and names files that there are,
-- dylibs have names of their own and are there before an alias stands for a symbol of one, and the lines
-- that watch have the notes in order.
use Rattle.std.specs.Prelude.{◌≡◌, ◌≢◌, ◌<◌, ◌≤◌, ◌*◌, ⊤, ℕ, List, [], ◌∷◌, length, take, All, AllPairs, flat_map, Some, slice_get}
use Rattle.std.specs.List.{range_with_len}
use Rattle.orc_ids.specs.declared.ids.NameId.{NameId}
use Rattle.orc_ids.specs.declared.limits.TheConstants.{DYLIB_LIMIT, ORDER_LIMIT, WANTED_LIMIT}
use Rattle.session_script.specs.declared.limits.TheConstants.{ARG_LIMIT, CLIENT_LIMIT, FUEL_LIMIT, SIZE_LIMIT}
use Rattle.session_script.specs.declared.script.AliasLine.{AliasLine}
use Rattle.session_script.specs.declared.script.SetupLine.{SetupLine}
use Rattle.session_script.specs.declared.script.SetupLine.TheVariants as line
use Rattle.session_script.specs.declared.script.ClientLine.{ClientLine}
use Rattle.session_script.specs.declared.script.ClientLine.TheVariants as client
use Rattle.session_script.specs.declared.script.LookupLine.{LookupLine}
use Rattle.session_script.specs.declared.script.Script.{Script}

-- no name is defined twice, and each definition takes four bytes of the script
pub record AreDefinitions (symbols : List (NameId × ℕ)) : Type 0 where
  pub differ : AllPairs (λ (p q : NameId × ℕ). p.0 ≢ q.0) symbols
  pub few : 4 * length symbols ≤ SIZE_LIMIT

pub record IsLookup (lookup : LookupLine) : Type 0 where
  pub order : length lookup.order ≤ ORDER_LIMIT
  pub wanted : length lookup.wanted ≤ WANTED_LIMIT

-- a line of the setup of a script with so many files
abbrev pub IsSetupLine : ℕ → SetupLine → Type 0
IsSetupLine files (line.Dylib name) = ⊤
IsSetupLine files (line.Order d order) = length order ≤ ORDER_LIMIT
IsSetupLine files (line.Tracker d t) = ⊤
IsSetupLine files (line.Object d t file) = file < files
IsSetupLine files (line.Absolute d t symbols) = AreDefinitions symbols
IsSetupLine files (line.Generator d t file) = file < files
IsSetupLine files (line.Alias alias) = ⊤

-- the name of the dylib that a line declares
abbrev pub dylib_of : SetupLine → List ℕ
dylib_of (line.Dylib name) = name.0 ∷ []
dylib_of _ = []

-- the names of the dylibs that lines declare, in order
abbrev pub dylibs_of : List SetupLine → List ℕ
dylibs_of lines = flat_map dylib_of lines

-- a client's line in a script with so many files
abbrev pub IsClientLine : ℕ → ClientLine → Type 0
IsClientLine files (client.Define d t file) = file < files
IsClientLine files (client.Lookup lookup) = IsLookup lookup
IsClientLine files (client.Watch note lookup) = IsLookup lookup
IsClientLine files (client.Move t to) = ⊤
IsClientLine files (client.Remove t) = ⊤
IsClientLine files (client.Run name fuel args) = (fuel ≤ FUEL_LIMIT) × (length args ≤ ARG_LIMIT)
IsClientLine files (client.Peek name) = ⊤

-- the note of a line that watches
abbrev pub note_of : ClientLine → List ℕ
note_of (client.Watch note lookup) = note ∷ []
note_of _ = []

-- the notes of the lines that watch, in the order of the script
abbrev pub notes_of : List (List ClientLine) → List ℕ
notes_of clients = flat_map (flat_map note_of) clients

-- a script for a session with so many notes
pub record IsWellFormed (notes : ℕ) (script : Script) : Type 0 where
  pub setup : All (IsSetupLine (length script.files)) script.setup
  -- no two dylibs have one name
  pub dylibs : AllPairs (λ m n. m ≢ n) (dylibs_of script.setup)
  pub few_dylibs : length (dylibs_of script.setup) ≤ DYLIB_LIMIT
  -- an alias stands for a symbol of a dylib that is declared before it
  pub sources : (k : ℕ) (alias : AliasLine) → slice_get script.setup k ≡ Some (line.Alias alias) → alias.source.0 < length (dylibs_of (take k script.setup))
  pub clients : All (All (IsClientLine (length script.files))) script.clients
  pub few_clients : length script.clients ≤ CLIENT_LIMIT
  -- the lines that watch have the notes 0, 1, 2 and on, and there are enough
  pub watches : notes_of script.clients ≡ range_with_len 0 (length (notes_of script.clients))
  pub few_watches : length (notes_of script.clients) ≤ notes
