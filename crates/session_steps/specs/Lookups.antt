-- Lookups: what comes back of a notifier, and the steps that may lodge a query.
use Rattle.std.specs.Prelude.{◌≡◌, ℕ, List, [], ◌∷◌, ◌++◌, Option, None, Result, Ok, Err, if◌then◌else◌}
use Rattle.orc_ids.specs.declared.ids.InstId.{InstId}
use Rattle.orc_ids.specs.declared.lookup.Level.{Level}
use Rattle.session_model.specs.Meaning.{Meaning}
use Rattle.session_model.specs.Plain.{Plain}
use Rattle.session_model.specs.Answer.{lodged_reply}
use Rattle.session_model.specs.declared.entry.Event.{Event}
use Rattle.session_model.specs.declared.entry.Reply.{Reply}
use Rattle.instances.specs.Graph.{Tells}
use Rattle.notifiers.specs.declared.notice.Unheard.{Unheard}
use Rattle.session_parts.specs.declared.parts.Parts.{Parts}
use Rattle.session_parts.specs.Parts.{AreParts}
use Rattle.session_steps.specs.Fires.{is_lodged}
use Rattle.session_steps.specs.Moved.{IsLodged}
use Rattle.session_steps.specs.Steps.{IsStep}

-- what the caller has left of the notifier, which a query that was lodged keeps
abbrev pub left_by : {N : Type 0} → Option (Unheard N) → Reply → Option (Unheard N)
left_by then' r = if is_lodged r then None else then'

-- the notifiers of the queries, with that of the one that was lodged
abbrev pub armed_by : {N : Type 0} → Option (Unheard N) → Reply → List (Option (Unheard N)) → List (Option (Unheard N))
armed_by then' r armed = if is_lodged r then armed ++ then' ∷ [] else armed

-- none comes back where a query was lodged, and else the notifier as it was
abbrev pub BacksNotifier : {N E : Type 0} → Option (Unheard N) → Result Reply E → Option (Unheard N) → Type 0
BacksNotifier then' (Ok r) back = back ≡ left_by then' r
BacksNotifier then' (Err why) back = back ≡ then'

-- a query is lodged for what was matched, with this notifier; the reply says so, and the parts are of this session now
pub record Lodges {U N : Type 0} (means : U → Meaning) (m after : Plain) (found : List (Option InstId)) (lev : Level) (then' : Option (Unheard N)) (r : Reply) (old new : Parts U N) : Type 0 where
  pub reply : r ≡ lodged_reply m lev found
  pub parts : AreParts means new after
  pub tells : Tells old.graph new.graph
  pub queries : new.book.queries ≡ after.queries
  pub book : IsLodged m old.book new.book
  pub armed : new.book.armed ≡ old.book.armed ++ then' ∷ []

-- a step that may lodge a query, with this notifier
pub record IsLodgingStep {U N : Type 0} (means : U → Meaning) (m : Plain) (s : ℕ) (e : Event Meaning) (then' : Option (Unheard N)) (r : Reply) (old new : Parts U N) : Type 0 where
  pub step : IsStep means m s e r old new
  pub armed : new.book.armed ≡ armed_by then' r old.book.armed
