-- The dylibs that a set-up makes.
use Rattle.std.specs.Prelude.{◌≡◌, ◌≤◌, ⊤, ℕ, List, [], ◌∷◌, length, map, All}
use Rattle.orc_ids.specs.declared.limits.TheConstants.{DYLIB_LIMIT}
use Rattle.session_model.specs.History.{IsLegal}
use Rattle.session_model.specs.Meaning.{Meaning}
use Rattle.session_model.specs.State.{state}
use Rattle.session_model.specs.declared.entry.Entry.{Entry}
use Rattle.session_model.specs.declared.entry.Event.{Event}
use Rattle.session_model.specs.declared.entry.Event.TheVariants as event

-- the names that events make dylibs of, in order
abbrev pub dylib_names : List (Event Meaning) → List ℕ
dylib_names [] = []
dylib_names (event.Dylib name ∷ events) = name.0 ∷ dylib_names events
dylib_names (_ ∷ events) = dylib_names events

-- no two of the names are the same
abbrev pub DifferentNames : List ℕ → Type 0
DifferentNames [] = ⊤
DifferentNames (n ∷ ns) = All (λ m. n ≡ m → ⊥) ns × DifferentNames ns

-- in a legal history whose dylibs have names of their own, and are no more than may be, each is made
abbrev pub DylibsAreMade : Type 0
DylibsAreMade = (jmax : ℕ) (h : List (Entry Meaning)) → IsLegal jmax h → DifferentNames (dylib_names (map (λ (e : Entry Meaning). e.event) h)) →
    length (dylib_names (map (λ (e : Entry Meaning). e.event) h)) ≤ DYLIB_LIMIT → length (state h).dylibs ≡ length (dylib_names (map (λ (e : Entry Meaning). e.event) h))
