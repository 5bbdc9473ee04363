-- What the lines so far have said.
use Rattle.std.specs.Prelude.{◌≡◌, ℕ, Bool, false, List, [], ◌∷◌, ◌++◌, Result, Ok, Err, if◌then◌else◌}
use Rattle.orc_ids.specs.declared.ids.DylibId.{DylibId}
use Rattle.orc_ids.specs.declared.ids.TrackId.{TrackId}
use Rattle.orc_ids.specs.declared.ids.NameId.{NameId}
use Rattle.session_script.specs.declared.error.Refusal.{Refusal}
use Rattle.session_script.specs.declared.error.Refusal.TheVariants as refusal
use Rattle.session_script.specs.declared.error.ScriptWhy.{ScriptWhy}
use Rattle.session_script.specs.declared.script.SetupLine.{SetupLine}
use Rattle.session_script.specs.declared.script.ClientLine.{ClientLine}
use Rattle.session_script.specs.Texts.{number_of, mentioned}

pub record Known : Type 0 where
  -- how many notes there are, and how many lines watch
  pub notes : ℕ
  pub watches : ℕ
  -- the declared dylibs and trackers, the files that were mentioned, and the names
  pub dylibs : List (List ℕ)
  pub trackers : List (List ℕ)
  pub files : List (List ℕ)
  pub names : List (List ℕ)
  pub setup : List SetupLine
  -- whether a client was begun, the lines of those before the last, and the last one's
  pub begun : Bool
  pub earlier : List (List ClientLine)
  pub current : List ClientLine

-- before the first line
abbrev pub nothing_known : ℕ → Known
nothing_known notes = record {
  notes = notes;
  watches = 0;
  dylibs = [];
  trackers = [];
  files = [];
  names = [];
  setup = [];
  begun = false;
  earlier = [];
  current = [];
}

abbrev pub dylib_in : Known → List ℕ → DylibId
dylib_in k d = record { 0 = number_of d k.dylibs }

abbrev pub tracker_in : Known → List ℕ → TrackId
tracker_in k t = record { 0 = number_of t k.trackers }

abbrev pub file_in : Known → List ℕ → ℕ
file_in k file = number_of file k.files

abbrev pub name_in : Known → List ℕ → NameId
name_in k name = record { 0 = number_of name k.names }

abbrev pub with_file : Known → List ℕ → Known
with_file k file = record k { files = mentioned file k.files }

abbrev pub with_name : Known → List ℕ → Known
with_name k name = record k { names = mentioned name k.names }

abbrev pub with_setup : Known → SetupLine → Known
with_setup k line = record k { setup = k.setup ++ line ∷ [] }

abbrev pub with_call : Known → ClientLine → Known
with_call k line = record k { current = k.current ++ line ∷ [] }

-- the clients' lines
abbrev pub clients_of : Known → List (List ClientLine)
clients_of k = if k.begun then k.earlier ++ k.current ∷ [] else []

-- the reason, unless this holds; else what comes next
abbrev pub checked : {X : Type 0} → Bool → ScriptWhy → Result X ScriptWhy → Result X ScriptWhy
checked holds why next = if holds then next else Err why

-- what comes after a good part
abbrev pub after_good : {X Y : Type 0} → Result X ScriptWhy → (X → Result Y ScriptWhy) → Result Y ScriptWhy
after_good (Ok x) next = next x
after_good (Err why) next = Err why

-- a refusal gives the line's reason; want of memory comes at any time
abbrev pub IsRefusal : {X : Type 0} → Result X ScriptWhy → Refusal → Type 0
IsRefusal meant (refusal.Line why) = meant ≡ Err why
IsRefusal meant refusal.NoMemory = Unit {0}
