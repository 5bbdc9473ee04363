-- Which calls can be made, by what they ask for.
use Rattle.std.proofs.Common.{◌≡◌, ◌<◌, ◌≤◌, ℕ, List, [], ◌∷◌, ◌++◌, length, take, map, Option, Some, None, ap, ◌∙◌}
use Rattle.std.specs.Prelude.{⊤, All, IfSome, flat_map, option_map, slice_get}
use Rattle.std.proofs.lemmas.List.{take-map}
use Rattle.std.proofs.lemmas.Option.{slice_get-map}
use Rattle.std.proofs.lemmas.List.Elements.{All-nil, All-cons, All-head, All-tail}
use Rattle.list_laws.proofs.Each.{all_front, all_back}
use Rattle.orc_ids.specs.declared.limits.TheConstants.{ORDER_LIMIT, WANTED_LIMIT}
use Rattle.orc_ids.specs.declared.lookup.Outcome.{Outcome}
use Rattle.script_model.specs.Dylibs.{dylib_names}
use Rattle.script_model.specs.Asking.{Line, One, LookUp, Run, PeekAt}
use Rattle.script_model.specs.Plans.{CanSetUp, CanCall, event_of, line_of}
use Rattle.script_model.specs.declared.calls.ClientCall.{ClientCall}
use Rattle.script_model.specs.declared.calls.ClientCall.TheVariants as client
use Rattle.script_model.specs.declared.calls.SetUpCall.{SetUpCall}
use Rattle.script_model.specs.declared.calls.SetUpCall.TheVariants as set_up
use Rattle.session_model.specs.Meaning.{Meaning}
use Rattle.session_model.specs.declared.entry.Event.{Event}
use Rattle.session_model.specs.declared.entry.Event.TheVariants as event
use Rattle.script_plan.specs.Notes.{watch_of, watches_of}

-- an event of a set-up, where so many dylibs are made
abbrev pub CanHappen : ℕ → Event Meaning → Type 0
CanHappen made (event.SetOrder d order) = length order ≤ ORDER_LIMIT
CanHappen made (event.Define d t unit) = IfSome unit.source (λ source. source.0 < made)
CanHappen made (event.Attach d t unit) = IfSome unit.source (λ source. source.0 < made)
CanHappen made _ = ⊤

-- each can happen after those before it
abbrev pub AllCanHappen : List (Event Meaning) → Type 0
AllCanHappen events = (k : ℕ) (event : Event Meaning) → slice_get events k ≡ Some event → CanHappen (length (dylib_names (take k events))) event

-- a client's definition is of no alias
abbrev pub IsNoAlias : Event Meaning → Type 0
IsNoAlias (event.Define d t unit) = unit.source ≡ None
IsNoAlias _ = ⊤

abbrev pub CanDo : Line → Type 0
CanDo (One event) = IsNoAlias event
CanDo (LookUp lookup) = (length lookup.order ≤ ORDER_LIMIT) × (length lookup.wanted ≤ WANTED_LIMIT)
CanDo (Run name fuel args) = length args ≤ 8
CanDo (PeekAt name) = ⊤

module _ {U : Type 0} (means : U → Meaning) where
  can_set_up : (made : ℕ) (call : SetUpCall U) → CanHappen made (event_of means call) → CanSetUp means made call
  can_set_up made (set_up.Dylib name) can = can
  can_set_up made (set_up.Order d order) can = can
  can_set_up made (set_up.Tracker d) can = can
  can_set_up made (set_up.Define d t unit) can = can
  can_set_up made (set_up.Attach d t unit) can = can

  pub can_set_up_each : (calls : List (SetUpCall U)) → AllCanHappen (map (event_of means) calls) → (k : ℕ) (call : SetUpCall U) → slice_get calls k ≡ Some call → CanSetUp means (length (dylib_names (map (event_of means) (take k calls)))) call
  can_set_up_each calls can k call at =
      let there = slice_get-map (event_of means) calls k ∙ ap (option_map (event_of means)) at in
      can_set_up (length (dylib_names (map (event_of means) (take k calls)))) call (rw (← take-map (event_of means) k calls) (can k (event_of means call) there))

  module _ {N : Type 0} (heard : N → Option Outcome) (number : N → ℕ) where
    -- it has heard nothing, and has the number of its note
    abbrev pub IsFresh : ℕ × N → Type 0
    IsFresh w = (heard w.1 ≡ None) × (number w.1 ≡ w.0)

    can_call : (call : ClientCall U N) → CanDo (line_of means call) → All IsFresh (watch_of call) → CanCall means heard number call
    can_call (client.Define d t unit) can fresh = can
    can_call (client.LookUp names None) can fresh = (can.0, can.1, tt)
    can_call (client.LookUp names (Some w)) can fresh = (can.0, can.1, All-head IsFresh w [] fresh)
    can_call (client.Move t to) can fresh = can
    can_call (client.Remove t) can fresh = can
    can_call (client.Run name fuel args) can fresh = can
    can_call (client.Peek name) can fresh = can

    can_call_all : (calls : List (ClientCall U N)) → All CanDo (map (line_of means) calls) → All IsFresh (flat_map watch_of calls) → All (CanCall means heard number) calls
    can_call_all [] can fresh = All-nil (CanCall means heard number)
    can_call_all (call ∷ calls) can fresh =
        All-cons (CanCall means heard number) call calls
        (can_call call (All-head CanDo (line_of means call) (map (line_of means) calls) can) (all_front IsFresh (watch_of call) (flat_map watch_of calls) fresh))
        (can_call_all calls (All-tail CanDo (line_of means call) (map (line_of means) calls) can) (all_back IsFresh (watch_of call) (flat_map watch_of calls) fresh))

    pub can_all : {C : Type 0} (items : C → List (ClientCall U N)) (clients : List C) → All (All CanDo) (map (λ c. map (line_of means) (items c)) clients) → All IsFresh (watches_of (map items clients)) → All (λ c. All (CanCall means heard number) (items c)) clients
    can_all items [] can fresh = All-nil (λ c. All (CanCall means heard number) (items c))
    can_all {C} items (c ∷ clients) can fresh =
        let lines : C → List Line = λ c. map (line_of means) (items c) in
        let first = flat_map watch_of (items c) in
        let next = watches_of (map items clients) in
        All-cons (λ c. All (CanCall means heard number) (items c)) c clients
        (can_call_all (items c) (All-head (All CanDo) (lines c) (map lines clients) can) (all_front IsFresh first next fresh))
        (can_all items clients (All-tail (All CanDo) (lines c) (map lines clients) can) (all_back IsFresh first next fresh))
