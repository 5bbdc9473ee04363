-- What is called in a session of n generated objects: the set-up, and then one client's lines.
use Rattle.std.specs.Prelude.{ℕ, ◌+◌, ◌%◌, ◌/◌, ◌==◌, ◌&&◌, not, Bool, false, List, [], ◌∷◌, ◌++◌, map, None}
use Rattle.std.specs.List.{filter, range_with_len}
use Rattle.orc_ids.specs.declared.ids.DylibId.{DylibId}
use Rattle.orc_ids.specs.declared.ids.NameId.{NameId}
use Rattle.orc_ids.specs.declared.ids.TrackId.{TrackId}
use Rattle.orc_ids.specs.declared.lookup.Level.TheVariants.{Ready}
use Rattle.orc_ids.specs.declared.lookup.OrderItem.{OrderItem}
use Rattle.orc_ids.specs.declared.lookup.Scope.TheVariants.{All as AllNames, Exported}
use Rattle.session_model.specs.Calls.{Lookup}
use Rattle.session_model.specs.Meaning.{Meaning}
use Rattle.session_model.specs.declared.entry.Event.{Event}
use Rattle.session_model.specs.declared.entry.Event.TheVariants as event
use Rattle.script_model.specs.Asking.{Line, One, LookUp, Run, Script}
use Rattle.generated_objects.specs.Graphs.{name_of}
use Rattle.generated_objects.specs.Rings.{RING}

-- ---- the set-up

abbrev pub dylibs : List ℕ
dylibs = 0 ∷ 1 ∷ 2 ∷ 3 ∷ []

abbrev pub dylib : ℕ → DylibId
dylib d = record { 0 = d }

abbrev pub exported_from : ℕ → OrderItem
exported_from d = record { dylib = dylib d; scope = Exported }

-- a dylib links against the other three, in rising number
abbrev pub others : ℕ → List OrderItem
others d = map exported_from (filter (λ e. not (e == d)) dylibs)

abbrev pub home : ℕ → DylibId
home k = dylib (k % 4)

-- each function has a tracker of its own
abbrev pub tracker_of : ℕ → TrackId
tracker_of k = record { 0 = k }

-- from function k on, whose units these are
abbrev pub definitions : ℕ → List Meaning → List (Event Meaning)
definitions k [] = []
definitions k (u ∷ us) = event.Tracker (home k) ∷ event.Define (home k) (tracker_of k) u ∷ definitions (k + 1) us

abbrev pub set_up_events : List Meaning → List (Event Meaning)
set_up_events units =
    map (λ d. event.Dylib (record { 0 = d })) dylibs
    ++ map (λ d. event.SetOrder (dylib d) (others d)) dylibs
    ++ definitions 0 units

-- ---- the client

abbrev pub function : ℕ → NameId
function k = record { 0 = name_of k }

-- function k at Ready, among all names of its dylib
abbrev pub lookup_of : ℕ → Lookup
lookup_of k = record {
  order = record { dylib = home k; scope = AllNames } ∷ [];
  wanted = record { name = function k; weak = false } ∷ [];
  level = Ready;
  note = None;
}

-- the first of a ring of odd number
abbrev pub is_head : ℕ → Bool
is_head k = k % RING == 0 && k / RING % 2 == 1

abbrev pub heads : ℕ → List ℕ
heads n = filter is_head (range_with_len 0 n)

abbrev pub is_removed : ℕ → Bool
is_removed k = k % 3 == 0

abbrev pub removals : ℕ → List ℕ
removals n = filter is_removed (range_with_len 0 n)

-- each is looked up, and run with argument 10 and fuel 1,000
abbrev pub runs : List ℕ → List Line
runs [] = []
runs (k ∷ ks) = LookUp (lookup_of k) ∷ Run (function k) 1000 (10 ∷ []) ∷ runs ks

abbrev pub client_lines : ℕ → List Line
client_lines n =
    runs (heads n)
    ++ (map (λ k. One (event.Remove (tracker_of k))) (removals n)
    ++ map (λ k. LookUp (lookup_of k)) (range_with_len 0 n))

-- what the session of n objects asks for, whose units these are
abbrev pub generated_script : ℕ → List Meaning → Script
generated_script n units = record { set_up = set_up_events units; clients = client_lines n ∷ [] }
