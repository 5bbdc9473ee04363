-- Legal histories: the empty one, their beginnings, one more entry, and where they lead.
use Rattle.std.specs.Prelude.{◌≡◌, ℕ, ◌↔◌, List, [], ◌∷◌, ◌++◌}
use Rattle.session_model.specs.Meaning.{Meaning}
use Rattle.session_model.specs.Plain.{Plain, empty}
use Rattle.session_model.specs.State.{after, state}
use Rattle.session_model.specs.Answer.{Answers}
use Rattle.session_model.specs.History.{Step, IsLegal, HasPlaces}
use Rattle.session_model.specs.declared.entry.Entry.{Entry}

-- the empty history is legal, and had its places
abbrev pub EmptyIsLegal : Type 0
EmptyIsLegal = (jmax : ℕ) → IsLegal jmax [] × HasPlaces jmax []

-- what a legal history begins with is legal, and had its places
abbrev pub PrefixesAreLegal : Type 0
PrefixesAreLegal = (jmax : ℕ) (h more : List (Entry Meaning)) →
    (IsLegal jmax (h ++ more) → IsLegal jmax h) × (HasPlaces jmax (h ++ more) → HasPlaces jmax h)

-- A history with one more entry is legal exactly where the history is legal and the entry's reply is
-- a right one after it; and the session takes one step.
abbrev pub OneMoreIsLegal : Type 0
OneMoreIsLegal = (jmax : ℕ) (h : List (Entry Meaning)) (e : Entry Meaning) →
    (IsLegal jmax h → Answers jmax h (state h) e.seat.0 e.event e.reply → IsLegal jmax (h ++ e ∷ []))
    × (IsLegal jmax (h ++ e ∷ []) → Answers jmax h (state h) e.seat.0 e.event e.reply)
    × (state (h ++ e ∷ []) ≡ after (state h) e)

-- steps lead from m, which the past led to, through these entries to the new session
abbrev pub Leads : ℕ → List (Entry Meaning) → Plain → List (Entry Meaning) → Plain → Type 0
Leads jmax past m [] new = new ≡ m
Leads jmax past m (e ∷ es) new = (next : Plain) × Step jmax past m e next × Leads jmax (past ++ e ∷ []) next es new

-- steps lead from the empty session through a legal history to its state, and to no other session;
-- and only a legal history is one that they lead through
abbrev pub StateIsUnique : Type 0
StateIsUnique = (jmax : ℕ) (h : List (Entry Meaning)) (m : Plain) → Leads jmax [] empty h m ↔ IsLegal jmax h × (m ≡ state h)
