-- An instance that came to a level stays there, or it is lost; one that is lost stays so.
use Rattle.std.specs.Prelude.{◌≡◌, ℕ, ◌<◌, true, ◌⊎◌, List, ◌++◌, length}
use Rattle.orc_ids.specs.declared.lookup.Level.{Level}
use Rattle.session_model.specs.Meaning.{Meaning}
use Rattle.session_model.specs.Query.{at_level, is_lost}
use Rattle.session_model.specs.State.{state}
use Rattle.session_model.specs.History.{IsLegal}
use Rattle.session_model.specs.declared.entry.Entry.{Entry}

-- an instance at a level stays at it, or it is lost
abbrev pub LevelsStay : Type 0
LevelsStay = (jmax : ℕ) (h more : List (Entry Meaning)) → IsLegal jmax (h ++ more) → (level : Level) (i : ℕ) → at_level (state h).rows level i ≡ true →
    (at_level (state (h ++ more)).rows level i ≡ true) ⊎ (is_lost (state (h ++ more)).rows i ≡ true)

-- an instance that is there, and failed or is gone, stays so
abbrev pub LossesStay : Type 0
LossesStay = (jmax : ℕ) (h more : List (Entry Meaning)) → IsLegal jmax (h ++ more) → (i : ℕ) → i < length (state h).rows → is_lost (state h).rows i ≡ true → is_lost (state (h ++ more)).rows i ≡ true
