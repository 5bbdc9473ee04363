-- Legal histories, and the journal's rule of places.
use Rattle.std.specs.Prelude.{◌≡◌, ℕ, ◌+◌, Bool, false, nat_lt, List, [], ◌∷◌, ◌++◌, slice_get, if◌then◌else◌}
use Rattle.std.specs.Option.{option_map_or}
use Rattle.session_model.specs.Meaning.{Meaning}
use Rattle.session_model.specs.Plain.{Plain, kept}
use Rattle.session_model.specs.State.{after, state}
use Rattle.session_model.specs.Answer.{Answers, is_held}
use Rattle.session_model.specs.declared.entry.Entry.{Entry}
use Rattle.session_model.specs.declared.entry.Event.{Event}
use Rattle.session_model.specs.declared.entry.Event.TheVariants as event

-- The step: from m, which these entries led to, the event may be answered so, and leads to new.
pub record Step (jmax : ℕ) (past : List (Entry Meaning)) (m : Plain) (e : Entry Meaning) (new : Plain) : Type 0 where
  pub answered : Answers jmax past m e.seat.0 e.event e.reply
  pub leads : new ≡ after m e

-- each entry is a right reply after the ones before it
abbrev pub LegalFrom : ℕ → List (Entry Meaning) → Plain → List (Entry Meaning) → Type 0
LegalFrom jmax past m [] = Unit {0}
LegalFrom jmax past m (e ∷ es) = Answers jmax past m e.seat.0 e.event e.reply × LegalFrom jmax (past ++ e ∷ []) (after m e) es

-- the step leads from the empty session through every entry, in order
abbrev pub IsLegal : ℕ → List (Entry Meaning) → Type 0
IsLegal jmax h = LegalFrom jmax [] (state []) h

-- The journal's places: a take keeps one for the end of its unit, so that a holder can always fail.
abbrev pub places : Plain → ℕ → Event Meaning → ℕ
places m s event.Take = 2
places m s (event.Fail u why) = if option_map_or (is_held s) (slice_get m.units u.0) false then 0 else 1
places m s _ = 1

-- an event that would make an entry is answered JournalFull exactly here
abbrev pub is_full : ℕ → Plain → ℕ → Event Meaning → Bool
is_full jmax m s e = nat_lt jmax (m.entries + kept m + places m s e)

-- each entry of the history had its places
abbrev pub HasPlacesFrom : ℕ → Plain → List (Entry Meaning) → Type 0
HasPlacesFrom jmax m [] = Unit {0}
HasPlacesFrom jmax m (e ∷ es) = (is_full jmax m e.seat.0 e.event ≡ false) × HasPlacesFrom jmax (after m e) es

abbrev pub HasPlaces : ℕ → List (Entry Meaning) → Type 0
HasPlaces jmax h = HasPlacesFrom jmax (state []) h
