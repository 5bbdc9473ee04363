-- What a seat did on a shared session, from one view of the history to a later one.
use Rattle.std.specs.Prelude.{◌≡◌, ℕ, ◌+◌, List, [], ◌∷◌, ◌++◌, length, take}
use Rattle.session_model.specs.Meaning.{Meaning}
use Rattle.session_model.specs.Calls.{numbered_calls}
use Rattle.session_model.specs.State.{plain_entry, plain_history}
use Rattle.session_model.specs.declared.entry.Entry.{Entry}
use Rattle.turn_lock.specs.declared.view.View.{View}
use Rattle.turn_lock.specs.Lists.{StartsWith}
use Rattle.turn_lock.specs.Passes.{Turned}
use Rattle.turn_lock.specs.Told.{Reads}
use Rattle.turn_lock.specs.Views.{notes}
use Rattle.shared_session.specs.Home.{IsLawful, IsPosted, seat_of}

-- a promise about the calls that a seat made, each with its number in the history
abbrev pub Promise : Type 1
Promise = List (Entry Meaning) → List (ℕ × Entry Meaning) → Type 0

-- no call
abbrev pub Nothing : Promise
Nothing h cs = cs ≡ []

-- calls of the first, and then calls of the second
abbrev pub Then : Promise → Promise → Promise
Then P Q h cs = (first second : List (ℕ × Entry Meaning)) × (cs ≡ first ++ second) × P h first × Q h second

-- one call: entry e, made when the history was before
abbrev pub Single : List (Entry Meaning) → Entry Meaning → Promise
Single before e h cs = (cs ≡ (length before + 1, e) ∷ []) × (take (length before) h ≡ before) × (take (length before + 1) h ≡ before ++ e ∷ [])

module _ {U : Type 0} (means : U → Meaning) where
  -- the calls of a seat in a history
  abbrev pub calls_in : ℕ → List (Entry U) → List (ℕ × Entry Meaning)
  calls_in s h = numbered_calls s 1 (plain_history means h)

  -- The seat, which knew v, knows w now, with the same numbers, and has forgotten no post; and what it called since keeps
  -- the promise, whatever comes after all that it has seen.
  pub record Did (v w : View (Entry U)) (P : Promise) : Type 0 where
    pub view : w ≡ record v { seen = w.seen; told = w.told; mine = w.mine; found = w.found; noted = w.noted; zeros = w.zeros }
    pub noted : (more : List (ℕ × ℕ)) × (w.noted ≡ more ++ v.noted)
    pub later : StartsWith w.seen v.seen
    pub made : List (ℕ × Entry Meaning)
    pub calls : calls_in v.number w.seen ≡ calls_in v.number v.seen ++ made
    pub holds : (h : List (Entry Meaning)) → StartsWith h (plain_history means w.seen) → P h made

-- a turn in which an entry was made is one call, and one in which none was is none
abbrev pub TurnIsACall : {U : Type 0} → (U → Meaning) → Type 0
TurnIsACall {U} means = (jmax : ℕ) (v w : View (Entry U)) (old : List (Entry U)) (e : Entry U) → seat_of e ≡ v.number →
    Turned seat_of (IsLawful means jmax) (IsPosted means) v w (λ before after. (before ≡ old) × (after ≡ old ++ e ∷ [])) →
    Did means v w (Single (plain_history means old) (plain_entry means e))

abbrev pub TurnIsNoCall : {U : Type 0} → (U → Meaning) → Type 0
TurnIsNoCall {U} means = (jmax : ℕ) (v w : View (Entry U)) →
    Turned seat_of (IsLawful means jmax) (IsPosted means) v w (λ before after. after ≡ before) → Did means v w Nothing

-- a post that is filled or read is no call
abbrev pub PostIsNoCall : {U : Type 0} → (U → Meaning) → Type 0
PostIsNoCall {U} means = (i address : ℕ) (v : View (Entry U)) → Did means v (notes i address v) Nothing

abbrev pub WordIsNoCall : {U : Type 0} → (U → Meaning) → Type 0
WordIsNoCall {U} means = (jmax i word : ℕ) (v w : View (Entry U)) → Reads seat_of (IsLawful means jmax) (IsPosted means) i word v w → Did means v w Nothing
