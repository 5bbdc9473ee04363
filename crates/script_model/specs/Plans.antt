-- What a plan asks for, as calls of a session.
use Rattle.std.specs.Prelude.{◌≡◌, ⊤, ◌<◌, ◌≤◌, ℕ, List, length, map, take, slice_get, All, Option, None, Some, option_map, IfSome}
use Rattle.orc_ids.specs.declared.limits.TheConstants.{DYLIB_LIMIT, ORDER_LIMIT, WANTED_LIMIT}
use Rattle.orc_ids.specs.declared.lookup.Outcome.{Outcome}
use Rattle.session_model.specs.Calls.{Lookup}
use Rattle.session_model.specs.Meaning.{Meaning}
use Rattle.session_model.specs.declared.entry.Event.{Event}
use Rattle.session_model.specs.declared.entry.Event.TheVariants as event
use Rattle.script_model.specs.Dylibs.{DifferentNames, dylib_names}
use Rattle.script_model.specs.Asking.{Line, One, LookUp, Run, PeekAt, Script}
use Rattle.script_model.specs.declared.calls.ClientCall.{ClientCall}
use Rattle.script_model.specs.declared.calls.ClientCall.TheVariants as client
use Rattle.script_model.specs.declared.calls.Lookup.{Lookup as Names}
use Rattle.script_model.specs.declared.calls.Plan.{Plan}
use Rattle.script_model.specs.declared.calls.SetUpCall.{SetUpCall}
use Rattle.script_model.specs.declared.calls.SetUpCall.TheVariants as set_up

-- the lookup of a line, with the number of its note
abbrev pub lookup_of : {N : Type 0} → Names → Option (ℕ × N) → Lookup
lookup_of names watch = record { order = names.order; wanted = names.wanted; level = names.level; note = option_map (λ w. w.0) watch }

-- a notifier that has heard nothing, with the note of its number, or none
abbrev pub IsUnheard : {N : Type 0} → (N → Option Outcome) → (N → ℕ) → Option (ℕ × N) → Type 0
IsUnheard heard number watch = IfSome watch (λ w. (heard w.1 ≡ None) × (number w.1 ≡ w.0))

module _ {U : Type 0} (means : U → Meaning) where
  abbrev pub event_of : SetUpCall U → Event Meaning
  event_of (set_up.Dylib name) = event.Dylib name
  event_of (set_up.Order d order) = event.SetOrder d order
  event_of (set_up.Tracker d) = event.Tracker d
  event_of (set_up.Define d t unit) = event.Define d t (means unit)
  event_of (set_up.Attach d t unit) = event.Attach d t (means unit)

  -- The order is no longer than one may be, and the source of an alias is a dylib that is there; so many dylibs are.
  abbrev pub CanSetUp : ℕ → SetUpCall U → Type 0
  CanSetUp made (set_up.Dylib name) = ⊤
  CanSetUp made (set_up.Order d order) = length order ≤ ORDER_LIMIT
  CanSetUp made (set_up.Tracker d) = ⊤
  CanSetUp made (set_up.Define d t unit) = IfSome (means unit).source (λ source. source.0 < made)
  CanSetUp made (set_up.Attach d t unit) = IfSome (means unit).source (λ source. source.0 < made)

  -- The dylibs have names of their own, and are no more than may be; each call can be made after those before it.
  pub record CanSetUpAll (calls : List (SetUpCall U)) : Type 0 where
    pub differ : DifferentNames (dylib_names (map event_of calls))
    pub few : length (dylib_names (map event_of calls)) ≤ DYLIB_LIMIT
    pub each : (k : ℕ) (call : SetUpCall U) → slice_get calls k ≡ Some call → CanSetUp (length (dylib_names (map event_of (take k calls)))) call

  abbrev pub line_of : {N : Type 0} → ClientCall U N → Line
  line_of (client.Define d t unit) = One (event.Define d t (means unit))
  line_of (client.LookUp names watch) = LookUp (lookup_of names watch)
  line_of (client.Move t to) = One (event.MoveTracker t to)
  line_of (client.Remove t) = One (event.Remove t)
  line_of (client.Run name fuel args) = Run name fuel args
  line_of (client.Peek name) = PeekAt name

  -- what a plan asks for
  abbrev pub script_of : {N : Type 0} → Plan U N → Script
  script_of plan = record { set_up = map event_of plan.set_up.items; clients = map (λ lines. map line_of lines.items) plan.clients.items }

  module _ {N : Type 0} (heard : N → Option Outcome) (number : N → ℕ) where
    -- the order and the names are no more than may be, and the notifier is unheard; the unit is no alias; there are at most eight arguments
    abbrev pub CanCall : ClientCall U N → Type 0
    CanCall (client.Define d t unit) = (means unit).source ≡ None
    CanCall (client.LookUp names watch) = (length names.order ≤ ORDER_LIMIT) × (length names.wanted ≤ WANTED_LIMIT) × IsUnheard heard number watch
    CanCall (client.Move t to) = ⊤
    CanCall (client.Remove t) = ⊤
    CanCall (client.Run name fuel args) = length args ≤ 8
    CanCall (client.Peek name) = ⊤

    pub record CanRun (plan : Plan U N) : Type 0 where
      pub set_up : CanSetUpAll plan.set_up.items
      pub clients : All (λ lines. All CanCall lines.items) plan.clients.items
