-- What a pass knows of an instance once it has read its word without the turn.
use Rattle.std.specs.Prelude.{◌≡◌, ◌≢◌, ℕ, List, [], ◌∷◌, ◌++◌, All}
use Rattle.session_model.specs.Meaning.{Meaning}
use Rattle.session_model.specs.declared.entry.Entry.{Entry}
use Rattle.turn_lock.specs.declared.view.View.{View}
use Rattle.turn_lock.specs.Told.{Reads}
use Rattle.shared_session.specs.Home.{IsLawful, IsPosted, seat_of}
use Rattle.shared_session.specs.SharedCalls.{HasLooked}

module _ {U : Type 0} (means : U → Meaning) (jmax : ℕ) where
  -- a pass that knew v was told this word of instance i, and knows w
  pub record IsWord (i word : ℕ) (v w : View (Entry U)) : Type 0 where
    -- where it isn't 0, the instance is ready at this address in what the pass has then seen
    pub ready : word ≢ 0 → IsPosted means w.seen i word
    -- where it is 0, a load of the pass found no word
    pub empty : word ≡ 0 → w.zeros ≡ v.zeros ++ i ∷ []
    -- what the pass posted of the instance, or was told before, it is told again, and so never 0
    pub again : All (λ p. p.0 ≡ i → (word ≡ p.1) × (word ≢ 0)) v.noted
    -- from now on it is among what the pass was told
    pub noted : word ≢ 0 → w.noted ≡ (i, word) ∷ v.noted
    -- no call was made, and what the pass has seen begins with what it was
    pub looked : HasLooked means jmax v w
    -- the pass is as it was but for this
    pub read : Reads seat_of (IsLawful means jmax) (IsPosted means) i word v w

-- once a pass has seen that an instance is ready at an address, every later history shows it
abbrev pub ReadyWordsStand : {U : Type 0} → (U → Meaning) → Type 0
ReadyWordsStand {U} means = (jmax : ℕ) (seen more : List (Entry U)) → IsLawful means jmax (seen ++ more) → (i word : ℕ) → IsPosted means seen i word → IsPosted means (seen ++ more) i word
