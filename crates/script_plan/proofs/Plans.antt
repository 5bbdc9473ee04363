-- What holds of a plan that was made of a well-formed script.
use Rattle.std.proofs.Common.{◌≡◌, ℕ, ◌-◌, List, ◌++◌, length, map, Option, None, ap, sym, ◌∙◌, subst, zero-add, arith}
use Rattle.std.specs.Prelude.{All}
use Rattle.std.specs.List.{enumerate_from, range_with_len}
use Rattle.std.proofs.lemmas.List.{length-map}
use Rattle.std.proofs.lemmas.List.Elements.{All-same}
use Rattle.list_laws.proofs.Each.{all_front, all_back, all_unmapped}
use Rattle.orc_ids.specs.declared.lookup.Outcome.{Outcome}
use Rattle.orc_io.specs.Numbers.{AreNumberedFrom}
use Rattle.script_model.specs.Dylibs.{DifferentNames, dylib_names}
use Rattle.script_model.specs.Plans.{CanRun, event_of, line_of}
use Rattle.script_model.specs.declared.calls.Plan.{Plan}
use Rattle.script_plan.specs.Asked.{asked_events, asked_line}
use Rattle.script_plan.specs.Counts.{no_units}
use Rattle.script_plan.specs.Notes.{AreHandedOut, AreTaken, watches}
use Rattle.session_script.specs.WellFormed.{IsWellFormed, IsSetupLine, IsClientLine, dylibs_of, notes_of}
use Rattle.script_plan.proofs.Asking.{all_can_happen, all_can_do}
use Rattle.script_plan.proofs.Calls.{AllCanHappen, CanDo, IsFresh, can_set_up_each, can_all}
use Rattle.script_plan.proofs.Dylibs.{different, named}
use Rattle.script_plan.proofs.Numbers.{plan_has_notes}
use Rattle.script_plan.proofs.Taken.{all_both, all_numbered, numbered_after, taken_in_order}
use Rattle.session_model.specs.Meaning.{Meaning}
use Rattle.session_script.specs.declared.script.Script.{Script}

-- its calls are what the lines ask for, and its watches have taken the first notes
pub record IsMade {U N : Type 0} (means : U → Meaning) (units : List Meaning) (script : Script) (notes unused : List N) (plan : Plan U N) : Type 0 where
  pub set_up : map (event_of means) plan.set_up.items ≡ asked_events units script.setup
  pub clients : map (λ calls. map (line_of means) calls.items) plan.clients.items ≡ map (map (asked_line units)) script.clients
  pub taken : AreTaken (watches plan) notes unused

module _ {U N : Type 0} (means : U → Meaning) (units : List Meaning) (script : Script) (notes unused : List N) (plan : Plan U N) (well : IsWellFormed (length notes) script) (made : IsMade means units script notes unused plan) where
  numbers : map (λ w. w.0) (watches plan) ≡ notes_of script.clients
  numbers = plan_has_notes means units (λ calls. calls.items) plan.clients.items script.clients made.clients

  count_is : length (notes_of script.clients) ≡ length (watches plan)
  count_is = ap length (sym numbers) ∙ length-map (watches plan) (λ w. w.0)

  pub handed_out : AreHandedOut notes plan unused
  handed_out =
      let in_order : map (λ w. w.0) (watches plan) ≡ range_with_len 0 (length (watches plan)) = numbers ∙ well.watches ∙ ap (range_with_len 0) count_is in
      rw (← zero-add (length (watches plan))) (taken_in_order 0 (watches plan) notes unused in_order made.taken)

  module _ (heard : N → Option Outcome) (number : N → ℕ) (unheard : All (λ n. heard n ≡ None) notes) (numbered : AreNumberedFrom number 0 notes) where
    all_unheard : All (λ n. heard n ≡ None) (map (λ w. w.1) (watches plan) ++ unused)
    all_unheard = rw made.taken unheard

    pub unused_unheard : All (λ n. heard n ≡ None) unused
    unused_unheard = all_back (λ n. heard n ≡ None) (map (λ w. w.1) (watches plan)) unused all_unheard

    pub unused_numbered : AreNumberedFrom number (length notes - length unused) unused
    unused_numbered = numbered_after number (watches plan) notes unused made.taken numbered

    -- each watch has the notifier of its note's number
    all_fresh : All (IsFresh means heard number) (watches plan)
    all_fresh = all_both (λ w. heard w.1 ≡ None) (λ w. number w.1 ≡ w.0) (watches plan)
        (all_unmapped (λ n. heard n ≡ None) (λ w. w.1) (watches plan) (all_front (λ n. heard n ≡ None) (map (λ w. w.1) (watches plan)) unused all_unheard))
        (all_front (λ w. number w.1 ≡ w.0) (watches plan) (enumerate_from (length (watches plan)) unused) (subst (All (λ w. number w.1 ≡ w.0)) (sym handed_out) (all_numbered number 0 notes numbered)))

    pub can_run : length units ≡ length script.files → All (λ unit. unit.source ≡ None) units → CanRun means heard number plan
    can_run files none =
        let set_up = subst (λ (n : ℕ). All (IsSetupLine n) script.setup) (sym files) well.setup in
        let names : dylib_names (map (event_of means) plan.set_up.items) ≡ dylibs_of script.setup = ap dylib_names made.set_up ∙ named units no_units script.setup in
        let clients = subst (λ (n : ℕ). All (All (IsClientLine n)) script.clients) (sym files) well.clients in
        record {
          set_up = record {
            differ = subst DifferentNames (sym names) (different (dylibs_of script.setup) well.dylibs);
            few = omega (arith, ap length names, well.few_dylibs);
            each = can_set_up_each means plan.set_up.items (subst AllCanHappen (sym made.set_up) (all_can_happen units none script.setup set_up well.sources));
          };
          clients = can_all means heard number (λ calls. calls.items) plan.clients.items
              (All-same (All CanDo) _ _ made.clients (all_can_do units none script.clients clients))
              all_fresh;
        }
