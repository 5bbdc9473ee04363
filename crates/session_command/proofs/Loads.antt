-- What holds of a script that was loaded.
use Rattle.std.proofs.Common.{arith, ◌≡◌, ℕ, ◌-◌, ◌^◌, ◌≤◌, ◌++◌, List, All, length, map, slice_get, Option, None, Some, sym, subst, ap}
use Rattle.std.specs.List.{enumerate_from}
use Rattle.std.proofs.Math.Nat.{min-le_left}
use Rattle.std.proofs.lemmas.List.{length-append}
use Rattle.std.proofs.lemmas.List.FromFn.{length-enumerate_from}
use Rattle.list_laws.proofs.Each.{all_from}
use Rattle.list_laws.proofs.Lists.{some_below}
use Rattle.session_model.specs.Meaning.{Meaning}
use Rattle.session_laws.proofs.Declared.{element_below, mapped_length, mapped_some}
use Rattle.object_files.specs.Files.{Told}
use Rattle.session_script.specs.WellFormed.{IsWellFormed}
use Rattle.session_script.specs.declared.limits.TheConstants.{CLIENT_LIMIT}
use Rattle.session_units.specs.Units.{meaning_of}
use Rattle.session_units.specs.declared.unit.ObjectUnit.{ObjectUnit}
use Rattle.script_model.specs.Plans.{line_of, script_of}
use Rattle.script_model.specs.declared.calls.Plan.{Plan}
use Rattle.script_plan.specs.Asked.{asked_line, asked_script}
use Rattle.script_plan.specs.Notes.{AreHandedOut, watches}
use Rattle.session_command.specs.Texts.{counted}
use Rattle.session_command.specs.Loading.{IsLoaded}
use Rattle.session_command.specs.declared.command.Loaded.{Loaded}

module _ (left : Option (List ℕ)) (notes : ℕ) (told : Told) (loaded : Loaded) (is : IsLoaded left (counted notes) told loaded) where
  -- the script is for all notes that there are
  pub well_loaded : IsWellFormed notes loaded.script
  well_loaded = subst (IsWellFormed notes) (sym is.has.script) (let w = is.well_formed in record {
    setup = w.setup;
    dylibs = w.dylibs;
    few_dylibs = w.few_dylibs;
    sources = w.sources;
    clients = w.clients;
    few_clients = w.few_clients;
    watches = w.watches;
    few_watches = omega (arith, w.few_watches, min-le_left notes (2 ^ 32 - 1));
  })

  -- no unit of a file is an alias
  pub no_aliases : All (λ unit. (meaning_of unit).source ≡ None) loaded.units.items
  no_aliases = all_from (λ unit. (meaning_of unit).source ≡ None) loaded.units.items each
    where
      each : (k : ℕ) (unit : ObjectUnit) → slice_get loaded.units.items k ≡ Some unit → (meaning_of unit).source ≡ None
      each k unit there =
          let u = is.has.units in
          let at = mapped_some meaning_of loaded.units.items k unit there in
          let g = some_below u.graphs k (omega (arith, element_below loaded.units.items k unit there, u.whole, u.count, mapped_length meaning_of loaded.units.items)) in
          ap (λ (m : Meaning). m.source) (u.are k (meaning_of unit) g.0 at g.1)

  -- there are as many clients as a script may have
  pub few_clients : {N : Type 0} (plan : Plan ObjectUnit N) → script_of meaning_of plan ≡ asked_script (map meaning_of loaded.units.items) loaded.script → length plan.clients.items ≤ CLIENT_LIMIT
  few_clients plan asked =
      let same : length (script_of meaning_of plan).clients ≡ length (asked_script (map meaning_of loaded.units.items) loaded.script).clients = ap (λ s. length s.clients) asked in
      let planned : length (script_of meaning_of plan).clients ≡ length plan.clients.items = mapped_length (λ lines. map (line_of meaning_of) lines.items) plan.clients.items in
      let written : length (asked_script (map meaning_of loaded.units.items) loaded.script).clients ≡ length loaded.script.clients = mapped_length (map (asked_line (map meaning_of loaded.units.items))) loaded.script.clients in
      omega (arith, same, planned, written, well_loaded.few_clients)

-- the notes that no line takes are some of all
pub few_unused : {U N : Type 0} (notes unused : List N) (plan : Plan U N) → AreHandedOut notes plan unused → length unused ≤ length notes
few_unused notes unused plan out =
    let long : length (watches plan ++ enumerate_from (length (watches plan)) unused) ≡ length (enumerate_from 0 notes) = ap length out in
    omega (arith, long, length-append (watches plan) (enumerate_from (length (watches plan)) unused), length-enumerate_from (length (watches plan)) unused, length-enumerate_from 0 notes)
