-- What a script asks for says known names, where its lines and the units of its files do.
use Rattle.std.proofs.Common.{◌≡◌, ℕ, ◌<◌, ◌≤◌, ◌⊎◌, inl, inr, false, List, [], ◌∷◌, length, map, All, unwrap_or, sym, ap, ◌∙◌, subst}
use Rattle.std.specs.Bool.{⊤}
use Rattle.std.specs.List.{AllByRecursion}
use Rattle.std.proofs.lemmas.List.Elements.{All-cons, All-map, All-nil}
use Rattle.std.proofs.lemmas.Bool.{cases_lt}
use Rattle.std.proofs.lemmas.Option.{slice_get_past, unwrap_or-slice_get}
use Rattle.orc_ids.specs.declared.flags.SymFlags.{SymFlags}
use Rattle.orc_ids.specs.declared.ids.DylibId.{DylibId}
use Rattle.orc_ids.specs.declared.ids.NameId.{NameId}
use Rattle.orc_ids.specs.declared.ids.UnitName.{UnitName}
use Rattle.orc_ids.specs.declared.ids.UnitName.TheVariants as unit_name
use Rattle.orc_ids.specs.declared.lookup.Wanted.{Wanted}
use Rattle.session_model.specs.Meaning.{Meaning}
use Rattle.session_units.specs.Others.{absolute_flags, absolutes_meaning, alias_meaning}
use Rattle.journal_text.specs.Parts.{IsGiven}
use Rattle.known_names.specs.Laws.{HasKnownNames}
use Rattle.session_script.specs.declared.script.ClientLine.{ClientLine}
use Rattle.session_script.specs.declared.script.ClientLine.TheVariants as client
use Rattle.session_script.specs.declared.script.SetupLine.{SetupLine}
use Rattle.session_script.specs.declared.script.SetupLine.TheVariants as setup
use Rattle.script_model.specs.Asking.{Line, One, LookUp, Run, PeekAt}
use Rattle.script_plan.specs.Asked.{asked_event, asked_line, events_from, unit_of_file}
use Rattle.script_plan.specs.Counts.{with_line}
use Rattle.result_text.specs.Known.{AreAsked}
use Rattle.session_command.specs.Texts.{wanted_by}
use Rattle.known_names.specs.Said.{KnownCall, KnownSetup}
use Rattle.known_names.proofs.Seats.{IsNamed}

-- Units

absolutes_known : (names : List (List ℕ)) (name : UnitName) (symbols : List (NameId × ℕ)) → All (λ (p : NameId × ℕ). IsGiven names p.0) symbols → HasKnownNames names (absolutes_meaning name symbols)
absolutes_known names name symbols given = record {
  offers = All-map (λ (o : NameId × SymFlags). IsGiven names o.0) (λ (p : NameId × ℕ). (p.0, absolute_flags)) symbols given;
  externals = λ live. All-nil (λ (w : Wanted). IsGiven names w.name);
}

alias_known : (names : List (List ℕ)) (name : UnitName) (alias : NameId) (source : DylibId) (target : NameId) → IsGiven names alias → IsGiven names target → HasKnownNames names (alias_meaning name alias source target)
alias_known names name alias source target given there = record {
  offers = All-cons (λ (o : NameId × SymFlags). IsGiven names o.0) (alias, absolute_flags) [] given (All-nil (λ (o : NameId × SymFlags). IsGiven names o.0));
  externals = λ live. All-cons (λ (w : Wanted). IsGiven names w.name) (record { name = target; weak = false }) [] there (All-nil (λ (w : Wanted). IsGiven names w.name));
}

-- What a line of a client asks for

abbrev pub IsNamedLine : List (List ℕ) → Line → Type 0
IsNamedLine names (One e) = IsNamed names e
IsNamedLine names (LookUp l) = All (λ (w : Wanted). IsGiven names w.name) l.wanted
IsNamedLine names (Run name fuel args) = ⊤
IsNamedLine names (PeekAt name) = ⊤

module _ (names : List (List ℕ)) (units : List Meaning) (known : All (HasKnownNames names) units) where
  -- a file without a unit would offer nothing
  file_known : (file : ℕ) → HasKnownNames names (unit_of_file units file)
  file_known file = split (cases_lt file (length units))
    where
      none : Meaning
      none = absolutes_meaning (unit_name.Object file) []

      split : (file < length units) ⊎ (length units ≤ file) → HasKnownNames names (unit_of_file units file)
      split (inl below) = known file none below
      split (inr past) =
          let is : unit_of_file units file ≡ none = sym (unwrap_or-slice_get units file none) ∙ ap (λ o. unwrap_or o none) (slice_get_past units file past) in
          subst (HasKnownNames names) (sym is) (absolutes_known names (unit_name.Object file) [] (All-nil (λ (p : NameId × ℕ). IsGiven names p.0)))

  event_named : (counts : _) (line : SetupLine) → KnownSetup names line → IsNamed names (asked_event units counts line)
  event_named counts (setup.Dylib name) said = (said, said)
  event_named counts (setup.Order d order) said = (tt, tt)
  event_named counts (setup.Tracker d t) said = (tt, tt)
  event_named counts (setup.Object d t file) said = (file_known file, tt)
  event_named counts (setup.Absolute d t symbols) said = (absolutes_known names _ symbols said, tt)
  event_named counts (setup.Generator d t file) said = (file_known file, tt)
  event_named counts (setup.Alias a) said = (alias_known names _ a.name a.source a.target said.0 said.1, tt)

  pub events_named : (counts : _) (lines : List SetupLine) → AllByRecursion (KnownSetup names) lines → AllByRecursion (IsNamed names) (events_from units counts lines)
  events_named counts [] said = tt
  events_named counts (line ∷ lines) said = (event_named counts line said.0, events_named (with_line line counts) lines said.1)

  line_named : (line : ClientLine) → KnownCall names line → IsNamedLine names (asked_line units line)
  line_named (client.Define d t file) said = (file_known file, tt)
  line_named (client.Lookup lookup) said = said
  line_named (client.Watch note lookup) said = said
  line_named (client.Move t to) said = (tt, tt)
  line_named (client.Remove t) said = (tt, tt)
  line_named (client.Run name fuel args) said = tt
  line_named (client.Peek name) said = tt

  pub lines_named : (lines : List ClientLine) → AllByRecursion (KnownCall names) lines → AllByRecursion (IsNamedLine names) (map (asked_line units) lines)
  lines_named [] said = tt
  lines_named (line ∷ lines) said = (line_named line said.0, lines_named lines said.1)

-- The names that a line looks up

pub wanted_known : (names : List (List ℕ)) (line : ClientLine) → KnownCall names line → AreAsked names (wanted_by line)
wanted_known names (client.Define d t file) said = All-nil (λ (w : Wanted). IsGiven names w.name)
wanted_known names (client.Lookup lookup) said = said
wanted_known names (client.Watch note lookup) said = said
wanted_known names (client.Move t to) said = All-nil (λ (w : Wanted). IsGiven names w.name)
wanted_known names (client.Remove t) said = All-nil (λ (w : Wanted). IsGiven names w.name)
wanted_known names (client.Run name fuel args) said = All-nil (λ (w : Wanted). IsGiven names w.name)
wanted_known names (client.Peek name) said = All-nil (λ (w : Wanted). IsGiven names w.name)
