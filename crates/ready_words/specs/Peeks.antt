-- What a client has learnt of names, and what it is told of one without the turn.
use Rattle.std.specs.Prelude.{◌≡◌, ◌≢◌, ℕ, ◌==◌, List, [], ◌∷◌, Option, Some, None, if◌then◌else◌}
use Rattle.orc_ids.specs.declared.ids.InstId.{InstId}
use Rattle.orc_ids.specs.declared.ids.NameId.{NameId}
use Rattle.session_model.specs.Meaning.{Meaning}
use Rattle.session_model.specs.declared.entry.Entry.{Entry}
use Rattle.turn_lock.specs.declared.view.View.{View}
use Rattle.shared_session.specs.ReadyWords.{IsWord}
use Rattle.session_model.specs.declared.peeked.Peek.{Peek}
use Rattle.session_model.specs.declared.peeked.Peek.TheVariants.{NotYet, Ready, Unfound}

-- what names were found to be, the latest first: an instance, or none
abbrev pub Learnt : Type 0
Learnt = List (NameId × Option InstId)

-- what the name was last found to be
abbrev pub instance_of : NameId → Learnt → Option InstId
instance_of name [] = None
instance_of name (g ∷ earlier) = if g.0.0 == name.0 then g.1 else instance_of name earlier

module _ {U : Type 0} (means : U → Meaning) (jmax : ℕ) where
  -- A pass that knew v, and knows w now, was told this of a name that was last found to be that. It is unfound exactly where the name is no
  -- instance, and not yet exactly where the word of its instance is 0.
  abbrev pub IsPeek : Option InstId → View (Entry U) → View (Entry U) → Peek → Type 0
  IsPeek None v w Unfound = w ≡ v
  IsPeek (Some i) v w NotYet = IsWord means jmax i.0 0 v w
  IsPeek (Some i) v w (Ready address) = (address ≢ 0) × IsWord means jmax i.0 address v w
  IsPeek found v w told = ⊥
