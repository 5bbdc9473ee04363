-- An event that stirs no instance settles no query.
use Rattle.std.specs.Prelude.{◌≡◌, ℕ, Bool, true, false, List, [], ◌∷◌, ◌++◌, length, slice_get, Some}
use Rattle.session_model.specs.Meaning.{Meaning}
use Rattle.session_model.specs.Change.{change_of}
use Rattle.session_model.specs.State.{state, SettlesAt}
use Rattle.session_model.specs.History.{IsLegal}
use Rattle.session_model.specs.declared.change.Change.{Change}
use Rattle.session_model.specs.declared.change.Change.TheVariants.{Ask, Resolve, Link, Emit, Fail, Remove}
use Rattle.session_model.specs.declared.entry.Entry.{Entry}
use Rattle.session_model.specs.declared.rows.Query.{Query}

-- only these changes may bring a query to its end
abbrev pub stirs : Change Meaning → Bool
stirs (Ask found lev _) = true
stirs (Resolve u) = true
stirs (Link u found) = true
stirs (Emit u groups) = true
stirs (Fail u) = true
stirs (Remove t) = true
stirs _ = false

-- the query of this number settles at the history's last entry
abbrev pub SettlesNow : List (Entry Meaning) → ℕ → Type 0
SettlesNow h k = (q : Query) × (slice_get (state h).queries k ≡ Some q) × SettlesAt h q (length h)

-- an entry that stirs nothing settles no query
abbrev pub QuietSettlesNone : Type 0
QuietSettlesNone = (jmax : ℕ) (h : List (Entry Meaning)) (e : Entry Meaning) → IsLegal jmax (h ++ e ∷ []) →
    stirs (change_of (state h) e.seat.0 e.event e.reply) ≡ false → (k : ℕ) → SettlesNow (h ++ e ∷ []) k → ⊥
