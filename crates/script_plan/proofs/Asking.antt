-- What the lines of a well-formed script ask for can be called, where no file's unit is an alias.
use Rattle.std.proofs.Common.{◌≡◌, ◌<◌, ℕ, List, [], ◌∷◌, length, take, map, Some, None, refl, sym, ◌∙◌, ap, subst}
use Rattle.std.specs.Prelude.{All, IfSome, slice_get}
use Rattle.std.proofs.lemmas.List.Elements.{All-nil, All-cons, All-head, All-tail, All-get_or}
use Rattle.std.proofs.lemmas.Option.{get_or_from_slice_get, slice_get_within}
use Rattle.orc_ids.specs.declared.ids.UnitName.TheVariants as unit_name
use Rattle.script_model.specs.Dylibs.{dylib_names}
use Rattle.script_plan.specs.Asked.{unit_of_file, asked_event, asked_events, asked_line}
use Rattle.script_plan.specs.Counts.{no_units}
use Rattle.session_script.specs.WellFormed.{IsSetupLine, IsClientLine, dylibs_of}
use Rattle.script_plan.specs.declared.unit_counts.UnitCounts.{UnitCounts}
use Rattle.script_plan.proofs.Calls.{CanHappen, AllCanHappen, CanDo}
use Rattle.script_plan.proofs.Dylibs.{named, events_before, line_at}
use Rattle.session_model.specs.Meaning.{Meaning}
use Rattle.session_script.specs.declared.script.AliasLine.{AliasLine}
use Rattle.session_script.specs.declared.script.ClientLine.{ClientLine}
use Rattle.session_script.specs.declared.script.ClientLine.TheVariants as client
use Rattle.session_script.specs.declared.script.SetupLine.{SetupLine}
use Rattle.session_script.specs.declared.script.SetupLine.TheVariants as setup
use Rattle.session_units.specs.Others.{absolutes_meaning}

-- the sources of the aliases of these lines are declared before them
abbrev pub AreSourced : List SetupLine → Type 0
AreSourced lines = (k : ℕ) (alias : AliasLine) → slice_get lines k ≡ Some (setup.Alias alias) → alias.source.0 < length (dylibs_of (take k lines))

module _ (units : List Meaning) (no_alias : All (λ unit. unit.source ≡ None) units) where
  file_is_no_alias : (file : ℕ) → file < length units → (unit_of_file units file).source ≡ None
  file_is_no_alias file within = All-get_or (λ unit. unit.source ≡ None) units file (absolutes_meaning (unit_name.Object file) []) within no_alias

  file_has_source : (made file : ℕ) → file < length units → IfSome (unit_of_file units file).source (λ source. source.0 < made)
  file_has_source made file within = rw (file_is_no_alias file within) tt

  can_happen : (made : ℕ) (counts : UnitCounts) (line : SetupLine) → IsSetupLine (length units) line → ((alias : AliasLine) → line ≡ setup.Alias alias → alias.source.0 < made) → CanHappen made (asked_event units counts line)
  can_happen made counts (setup.Dylib name) well sourced = tt
  can_happen made counts (setup.Order d order) well sourced = well
  can_happen made counts (setup.Tracker d t) well sourced = tt
  can_happen made counts (setup.Object d t file) well sourced = file_has_source made file well
  can_happen made counts (setup.Absolute d t symbols) well sourced = tt
  can_happen made counts (setup.Generator d t file) well sourced = file_has_source made file well
  can_happen made counts (setup.Alias alias) well sourced = sourced alias refl

  pub all_can_happen : (lines : List SetupLine) → All (IsSetupLine (length units)) lines → AreSourced lines → AllCanHappen (asked_events units lines)
  all_can_happen lines well sourced k event at =
      let found = line_at units no_units lines k event at in
      let line = found.0 in
      let fits : IsSetupLine (length units) line = subst (IsSetupLine (length units)) (get_or_from_slice_get lines k line line found.2) (well k line (slice_get_within lines k line found.2)) in
      let names : dylib_names (take k (asked_events units lines)) ≡ dylibs_of (take k lines) = ap dylib_names (events_before units no_units lines k) ∙ named units no_units (take k lines) in
      let can : CanHappen (length (dylibs_of (take k lines))) (asked_event units found.1 line) = can_happen _ found.1 line fits (λ alias is. sourced k alias (found.2 ∙ ap Some is)) in
      subst (λ n. CanHappen n event) (sym (ap length names)) (subst (CanHappen (length (dylibs_of (take k lines)))) found.3 can)

  can_do : (line : ClientLine) → IsClientLine (length units) line → CanDo (asked_line units line)
  can_do (client.Define d t file) well = file_is_no_alias file well
  can_do (client.Lookup names) well = (well.order, well.wanted)
  can_do (client.Watch note names) well = (well.order, well.wanted)
  can_do (client.Move t to) well = tt
  can_do (client.Remove t) well = tt
  can_do (client.Run name fuel args) well = well.1
  can_do (client.Peek name) well = tt

  client_can_do : (lines : List ClientLine) → All (IsClientLine (length units)) lines → All CanDo (map (asked_line units) lines)
  client_can_do [] well = All-nil CanDo
  client_can_do (line ∷ lines) well =
      All-cons CanDo (asked_line units line) (map (asked_line units) lines)
      (can_do line (All-head (IsClientLine (length units)) line lines well))
      (client_can_do lines (All-tail (IsClientLine (length units)) line lines well))

  pub all_can_do : (clients : List (List ClientLine)) → All (All (IsClientLine (length units))) clients → All (All CanDo) (map (map (asked_line units)) clients)
  all_can_do [] well = All-nil (All CanDo)
  all_can_do (lines ∷ clients) well =
      All-cons (All CanDo) (map (asked_line units) lines) (map (map (asked_line units)) clients)
      (client_can_do lines (All-head (All (IsClientLine (length units))) lines clients well))
      (all_can_do clients (All-tail (All (IsClientLine (length units))) lines clients well))
