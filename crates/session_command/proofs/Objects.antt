-- A script asks for objects alone, where its files are objects.
use Rattle.std.proofs.Common.{◌≡◌, ℕ, ◌<◌, ◌≤◌, ◌⊎◌, inl, inr, List, [], ◌∷◌, length, map, slice_get, All, Some, unwrap_or, refl, sym, ap, ◌∙◌, subst, arith}
use Rattle.std.specs.Bool.{⊤}
use Rattle.std.specs.List.{AllByRecursion}
use Rattle.std.proofs.lemmas.Bool.{cases_lt}
use Rattle.std.proofs.lemmas.List.Elements.{All-from_recursion}
use Rattle.std.proofs.lemmas.Option.{slice_get_past, slice_get_within, unwrap_or-slice_get}
use Rattle.list_laws.proofs.Each.{all_at, all_from}
use Rattle.list_laws.proofs.Lists.{some_below}
use Rattle.orc_ids.specs.declared.ids.DylibId.{DylibId}
use Rattle.orc_ids.specs.declared.ids.NameId.{NameId}
use Rattle.orc_ids.specs.declared.ids.UnitName.{UnitName}
use Rattle.orc_ids.specs.declared.ids.UnitName.TheVariants as unit_name
use Rattle.link_model.specs.Sound.{Sound}
use Rattle.link_model.specs.declared.graph.LinkGraph.{LinkGraph}
use Rattle.session_model.specs.Meaning.{Meaning}
use Rattle.session_units.specs.Others.{absolutes_meaning, alias_meaning}
use Rattle.session_units.proofs.OtherLaws.{alias_lawful}
use Rattle.closure_laws.specs.HandedIn.{HandsIn}
use Rattle.memory_laws.specs.Closures.{no_graph}
use Rattle.object_files.specs.Files.{AreLoaded, Told}
use Rattle.session_promises.specs.Runs.{IsLinkable}
use Rattle.session_script.specs.declared.script.ClientLine.{ClientLine}
use Rattle.session_script.specs.declared.script.ClientLine.TheVariants as client
use Rattle.session_script.specs.declared.script.Script.{Script}
use Rattle.session_script.specs.declared.script.SetupLine.{SetupLine}
use Rattle.session_script.specs.declared.script.SetupLine.TheVariants as setup
use Rattle.script_plan.specs.Asked.{asked_event, asked_line, asked_script, events_from, unit_of_file}
use Rattle.script_plan.specs.Counts.{no_units, with_line}
use Rattle.script_model.specs.Promises.{AsksForObjects, LineHandsIn}

-- Units without memory

absolutes_has : (name : UnitName) (symbols : List (NameId × ℕ)) → IsLinkable (absolutes_meaning name symbols)
absolutes_has name symbols = (no_graph, inr (record { shape = λ live. refl; alias = tt }, refl))

alias_has : (name : UnitName) (alias : NameId) (source : DylibId) (target : NameId) → IsLinkable (alias_meaning name alias source target)
alias_has name alias source target = (no_graph, inr (record { shape = λ live. refl; alias = (alias_lawful name alias source target).alias }, refl))

-- The units of files

pub loaded_have : (told : Told) (files names : List (List ℕ)) (units : List Meaning) → AreLoaded told files names units → All IsLinkable units
loaded_have told files names units loaded = all_from IsLinkable units each
  where
    each : (k : ℕ) (unit : Meaning) → slice_get units k ≡ Some unit → IsLinkable unit
    each k unit there =
        let below = slice_get_within units k unit there in
        let g = some_below loaded.graphs k (omega (arith, below, loaded.count, loaded.whole)) in
        (g.0, inl (record { name = unit_name.Object k; is = loaded.are k unit g.0 there g.1; sound = all_at (λ (f : LinkGraph). Sound f) loaded.graphs k g.0 loaded.sound g.1 }))

-- What lines ask for

module _ (units : List Meaning) (have : All IsLinkable units) where
  -- a file without a unit would offer nothing
  file_has : (file : ℕ) → IsLinkable (unit_of_file units file)
  file_has file = split (cases_lt file (length units))
    where
      none : Meaning
      none = absolutes_meaning (unit_name.Object file) []

      split : (file < length units) ⊎ (length units ≤ file) → IsLinkable (unit_of_file units file)
      split (inl below) = have file none below
      split (inr past) =
          let is : unit_of_file units file ≡ none = sym (unwrap_or-slice_get units file none) ∙ ap (λ o. unwrap_or o none) (slice_get_past units file past) in
          subst IsLinkable (sym is) (absolutes_has (unit_name.Object file) [])

  event_hands : (counts : _) (line : SetupLine) → HandsIn IsLinkable (asked_event units counts line)
  event_hands counts (setup.Dylib name) = tt
  event_hands counts (setup.Order d order) = tt
  event_hands counts (setup.Tracker d t) = tt
  event_hands counts (setup.Object d t file) = file_has file
  event_hands counts (setup.Absolute d t symbols) = absolutes_has _ symbols
  event_hands counts (setup.Generator d t file) = file_has file
  event_hands counts (setup.Alias a) = alias_has _ a.name a.source a.target

  events_hand : (counts : _) (lines : List SetupLine) → AllByRecursion (HandsIn IsLinkable) (events_from units counts lines)
  events_hand counts [] = tt
  events_hand counts (line ∷ lines) = (event_hands counts line, events_hand (with_line line counts) lines)

  line_hands : (line : ClientLine) → LineHandsIn (asked_line units line)
  line_hands (client.Define d t file) = file_has file
  line_hands (client.Lookup lookup) = tt
  line_hands (client.Watch note lookup) = tt
  line_hands (client.Move t to) = tt
  line_hands (client.Remove t) = tt
  line_hands (client.Run name fuel args) = tt
  line_hands (client.Peek name) = tt

  lines_hand : (lines : List ClientLine) → AllByRecursion LineHandsIn (map (asked_line units) lines)
  lines_hand [] = tt
  lines_hand (line ∷ lines) = (line_hands line, lines_hand lines)

  clients_hand : (clients : List (List ClientLine)) → AllByRecursion (All LineHandsIn) (map (map (asked_line units)) clients)
  clients_hand [] = tt
  clients_hand (lines ∷ clients) = (All-from_recursion LineHandsIn (map (asked_line units) lines) (lines_hand lines), clients_hand clients)

  pub asks_for_objects : (script : Script) → AsksForObjects (asked_script units script)
  asks_for_objects script = record {
    set_up = All-from_recursion (HandsIn IsLinkable) (events_from units no_units script.setup) (events_hand no_units script.setup);
    lines = All-from_recursion (All LineHandsIn) (map (map (asked_line units)) script.clients) (clients_hand script.clients);
  }
