-- What a seat knows after a call that was answered by an entry, or wasn't.
use Rattle.std.specs.Prelude.{◌≡◌, ℕ, List, [], ◌∷◌, ◌++◌, Result, Ok, Err}
use Rattle.orc_ids.specs.declared.lookup.Stop.{Stop}
use Rattle.session_model.specs.Meaning.{Meaning}
use Rattle.session_model.specs.declared.entry.Entry.{Entry}
use Rattle.session_model.specs.declared.entry.Event.{Event}
use Rattle.session_model.specs.declared.entry.Reply.{Reply}
use Rattle.turn_lock.specs.declared.view.View.{View}
use Rattle.turn_lock.specs.Lists.{StartsWith}
use Rattle.turn_lock.specs.Passes.{Turned}
use Rattle.session_steps.specs.Performs.{Performs, IsStopped}
use Rattle.shared_session.specs.Does.{seat}
use Rattle.shared_session.specs.Home.{IsLawful, IsPosted, seat_of}

module _ {U : Type 0} (means : U → Meaning) (jmax : ℕ) where
  -- what the seat has seen begins with what it was, and ends with the entry; its own list has grown by just that
  pub record HasEntered (v w : View (Entry U)) (e : Entry U) : Type 0 where
    pub before : List (Entry U)
    pub later : StartsWith before v.seen
    pub seen : w.seen ≡ before ++ e ∷ []
    pub mine : w.mine ≡ v.mine ++ e ∷ []
    pub lawful : IsLawful means jmax w.seen

  -- what it has seen begins with what it was; its own list stays
  pub record HasLooked (v w : View (Entry U)) : Type 0 where
    pub later : StartsWith w.seen v.seen
    pub mine : w.mine ≡ v.mine
    pub lawful : IsLawful means jmax w.seen

  -- the event was answered by an entry, or stopped for a reason that is true of the history seen now
  abbrev pub Answered : View (Entry U) → View (Entry U) → Event U → Result Reply Stop → Type 0
  Answered v w e (Ok r) = HasEntered v w (record { seat = seat v.number; event = e; reply = r })
  Answered v w e (Err stop) = HasLooked v w × IsStopped means jmax w.seen w.seen (seat v.number) e stop

-- each performed event of a turn is so answered
abbrev pub CallsAreShared : {U : Type 0} → (U → Meaning) → Type 0
CallsAreShared {U} means = (jmax : ℕ) (v w : View (Entry U)) (e : Event U) (answer : Result Reply Stop) →
    Turned seat_of (IsLawful means jmax) (IsPosted means) v w (λ old new. Performs means jmax old new (seat v.number) e answer) → Answered means jmax v w e answer
