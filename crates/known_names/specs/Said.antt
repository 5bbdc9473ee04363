-- The names that the lines of a script say.
use Rattle.std.specs.Prelude.{ℕ, ◌<◌, ⊤, List, length, All}
use Rattle.orc_ids.specs.declared.ids.NameId.{NameId}
use Rattle.orc_ids.specs.declared.lookup.Wanted.{Wanted}
use Rattle.journal_text.specs.Parts.{IsGiven}
use Rattle.session_script.specs.declared.script.ClientLine.{ClientLine}
use Rattle.session_script.specs.declared.script.ClientLine.TheVariants as client
use Rattle.session_script.specs.declared.script.Script.{Script}
use Rattle.session_script.specs.declared.script.SetupLine.{SetupLine}
use Rattle.session_script.specs.declared.script.SetupLine.TheVariants as setup

-- each name that a line of the setup says is one of the table
abbrev pub KnownSetup : List (List ℕ) → SetupLine → Type 0
KnownSetup names (setup.Dylib name) = IsGiven names name
KnownSetup names (setup.Order d order) = ⊤
KnownSetup names (setup.Tracker d t) = ⊤
KnownSetup names (setup.Object d t file) = ⊤
KnownSetup names (setup.Absolute d t symbols) = All (λ (p : NameId × ℕ). IsGiven names p.0) symbols
KnownSetup names (setup.Generator d t file) = ⊤
KnownSetup names (setup.Alias alias) = IsGiven names alias.name × IsGiven names alias.target

-- so is each that a client's line says
abbrev pub KnownCall : List (List ℕ) → ClientLine → Type 0
KnownCall names (client.Define d t file) = ⊤
KnownCall names (client.Lookup lookup) = All (λ (w : Wanted). IsGiven names w.name) lookup.wanted
KnownCall names (client.Watch note lookup) = All (λ (w : Wanted). IsGiven names w.name) lookup.wanted
KnownCall names (client.Move t to) = ⊤
KnownCall names (client.Remove t) = ⊤
KnownCall names (client.Run name fuel args) = IsGiven names name
KnownCall names (client.Peek name) = IsGiven names name

-- each name that a script says is one of its table
pub record SaysItsNames (script : Script) : Type 0 where
  pub setup : All (KnownSetup script.names) script.setup
  pub clients : All (All (KnownCall script.names)) script.clients
  -- a line that says a file says a dylib, which has a name
  pub named : 0 < length script.files → 0 < length script.names
