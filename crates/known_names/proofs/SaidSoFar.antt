-- The names that the lines so far say are in the table, and stay so as more are mentioned and read.
use Rattle.std.proofs.Common.{◌≡◌, ℕ, ◌<◌, ◌≤◌, true, List, [], ◌∷◌, ◌++◌, length, map, All, arith, le_refl}
use Rattle.std.proofs.lemmas.List.Elements.{All-cons, All-nil, All-push, All-weaker}
use Rattle.orc_ids.specs.declared.ids.NameId.{NameId}
use Rattle.orc_ids.specs.declared.lookup.Wanted.{Wanted}
use Rattle.journal_text.specs.Parts.{IsGiven}
use Rattle.session_script.specs.Known.{Known, with_file, with_setup, with_call}
use Rattle.session_script.specs.Setup.{with_names}
use Rattle.session_script.specs.Texts.{has, mentioned, all_mentioned}
use Rattle.session_script.specs.declared.script.ClientLine.{ClientLine}
use Rattle.session_script.specs.declared.script.ClientLine.TheVariants as client
use Rattle.session_script.specs.declared.script.SetupLine.{SetupLine}
use Rattle.session_script.specs.declared.script.SetupLine.TheVariants as setup
use Rattle.session_script.proofs.NamesApart.{grown, has_all_mentioned}
use Rattle.session_script.proofs.TextNumbers.{has_itself}
use Rattle.known_names.specs.Said.{KnownSetup, KnownCall}

pub record SaysSoFar (k : Known) : Type 0 where
  pub setup : All (KnownSetup k.names) k.setup
  pub earlier : All (All (KnownCall k.names)) k.earlier
  pub current : All (KnownCall k.names) k.current
  pub dylibs : 0 < length k.dylibs → 0 < length k.names
  pub files : 0 < length k.files → 0 < length k.names

-- The table grows

pub all_grown : (more texts : List (List ℕ)) → length texts ≤ length (all_mentioned more texts)
all_grown [] texts = le_refl (length texts)
all_grown (t ∷ more) texts = omega (arith, grown t texts, all_grown more (mentioned t texts))

-- each part is there once all are mentioned
pub all_there : (part : List ℕ → List ℕ) (ws texts : List (List ℕ)) → All (λ w. has (part w) (all_mentioned (map part ws) texts) ≡ true) ws
all_there part [] texts = All-nil (λ w. has (part w) texts ≡ true)
all_there part (w ∷ ws) texts =
    let table = mentioned (part w) texts in
    All-cons (λ v. has (part v) (all_mentioned (map part ws) table) ≡ true) w ws
    (has_all_mentioned (part w) (map part ws) table (has_itself (part w) texts))
    (all_there part ws table)

symbols_stay : (old new : List (List ℕ)) (symbols : List (NameId × ℕ)) → length old ≤ length new → All (λ (p : NameId × ℕ). IsGiven old p.0) symbols → All (λ (p : NameId × ℕ). IsGiven new p.0) symbols
symbols_stay old new symbols more known = All-weaker (λ (p : NameId × ℕ). IsGiven old p.0) (λ (p : NameId × ℕ). IsGiven new p.0) (λ p below. omega (arith, below, more)) symbols known

wanted_stay : (old new : List (List ℕ)) (wanted : List Wanted) → length old ≤ length new → All (λ (w : Wanted). IsGiven old w.name) wanted → All (λ (w : Wanted). IsGiven new w.name) wanted
wanted_stay old new wanted more known = All-weaker (λ (w : Wanted). IsGiven old w.name) (λ (w : Wanted). IsGiven new w.name) (λ w below. omega (arith, below, more)) wanted known

pub setup_stays : (old new : List (List ℕ)) (line : SetupLine) → length old ≤ length new → KnownSetup old line → KnownSetup new line
setup_stays old new (setup.Dylib name) more known = omega (arith, known, more)
setup_stays old new (setup.Order d order) more known = known
setup_stays old new (setup.Tracker d t) more known = known
setup_stays old new (setup.Object d t file) more known = known
setup_stays old new (setup.Absolute d t symbols) more known = symbols_stay old new symbols more known
setup_stays old new (setup.Generator d t file) more known = known
setup_stays old new (setup.Alias alias) more known = (omega (arith, known.0, more), omega (arith, known.1, more))

pub call_stays : (old new : List (List ℕ)) (line : ClientLine) → length old ≤ length new → KnownCall old line → KnownCall new line
call_stays old new (client.Define d t file) more known = known
call_stays old new (client.Lookup lookup) more known = wanted_stay old new lookup.wanted more known
call_stays old new (client.Watch note lookup) more known = wanted_stay old new lookup.wanted more known
call_stays old new (client.Move t to) more known = known
call_stays old new (client.Remove t) more known = known
call_stays old new (client.Run name fuel args) more known = omega (arith, known, more)
call_stays old new (client.Peek name) more known = omega (arith, known, more)

pub names_said : (k : Known) (names : List (List ℕ)) → SaysSoFar k → SaysSoFar (with_names k names)
names_said k names said =
    let new = all_mentioned names k.names in
    let more = all_grown names k.names in
    record {
      setup = All-weaker (KnownSetup k.names) (KnownSetup new) (λ line. setup_stays k.names new line more) k.setup said.setup;
      earlier = All-weaker (All (KnownCall k.names)) (All (KnownCall new)) (All-weaker (KnownCall k.names) (KnownCall new) (λ line. call_stays k.names new line more)) k.earlier said.earlier;
      current = All-weaker (KnownCall k.names) (KnownCall new) (λ line. call_stays k.names new line more) k.current said.current;
      dylibs = λ some. omega (arith, said.dylibs some, more);
      files = λ some. omega (arith, said.files some, more);
    }

-- One more line

pub setup_said : (k : Known) (line : SetupLine) → KnownSetup k.names line → SaysSoFar k → SaysSoFar (with_setup k line)
setup_said k line known said = record {
  setup = All-push (KnownSetup k.names) k.setup line said.setup known;
  earlier = said.earlier;
  current = said.current;
  dylibs = said.dylibs;
  files = said.files;
}

pub call_said : (k : Known) (line : ClientLine) → KnownCall k.names line → SaysSoFar k → SaysSoFar (with_call k line)
call_said k line known said = record {
  setup = said.setup;
  earlier = said.earlier;
  current = All-push (KnownCall k.names) k.current line said.current known;
  dylibs = said.dylibs;
  files = said.files;
}

-- one more dylib or file, where there is a name
pub dylib_said : (k : Known) (d : List ℕ) → 0 < length k.names → SaysSoFar k → SaysSoFar (record k { dylibs = k.dylibs ++ d ∷ [] })
dylib_said k d named said = record {
  setup = said.setup;
  earlier = said.earlier;
  current = said.current;
  dylibs = λ some. named;
  files = said.files;
}

pub file_said : (k : Known) (file : List ℕ) → 0 < length k.names → SaysSoFar k → SaysSoFar (with_file k file)
file_said k file named said = record {
  setup = said.setup;
  earlier = said.earlier;
  current = said.current;
  dylibs = said.dylibs;
  files = λ some. named;
}
