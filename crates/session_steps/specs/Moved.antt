-- An event that was answered and changed the parts of a session, before anything settles.
use Rattle.std.specs.Prelude.{◌≡◌, ℕ, true, false, List, Option}
use Rattle.std.specs.Bool.{⊤}
use Rattle.session_model.specs.Meaning.{Meaning, IsLawful}
use Rattle.session_model.specs.Plain.{Plain, present_at}
use Rattle.session_model.specs.Query.{stand_at}
use Rattle.session_model.specs.State.{plain_event, plain_history}
use Rattle.session_model.specs.Answer.{Answers}
use Rattle.session_model.specs.Change.{change_of, changed}
use Rattle.session_model.specs.History.{is_full}
use Rattle.session_model.specs.declared.change.Change.{Change}
use Rattle.session_model.specs.declared.change.Change.TheVariants as change
use Rattle.session_model.specs.declared.entry.Entry.{Entry}
use Rattle.session_model.specs.declared.entry.Event.{Event}
use Rattle.session_model.specs.declared.entry.Reply.{Reply}
use Rattle.session_model.specs.declared.rows.Query.{Query}
use Rattle.session_laws.specs.Sound.{AllMatched}
use Rattle.instances.specs.Graph.{Tells}
use Rattle.notifiers.specs.declared.notice.Unheard.{Unheard}
use Rattle.query_book.specs.Ledger.{Ledger, lodged, IsCurrent}
use Rattle.session_parts.specs.declared.parts.Parts.{Parts}
use Rattle.session_parts.specs.Parts.{AreParts}
use Rattle.session_steps.specs.Performs.{state_of}
use Rattle.session_steps.specs.Rest.{IsAtRest}

-- one more query, for present instances
pub record IsLodged {N : Type 0} (m : Plain) (old new : Ledger N) : Type 0 where
  pub query : Query
  pub notifier : Option (Unheard N)
  pub book : new ≡ lodged (stand_at m.rows) query notifier old
  pub current : IsCurrent (stand_at m.rows) old → IsCurrent (stand_at m.rows) new
  pub here : AllMatched (λ i. present_at m.rows i ≡ true) query.matched

-- the book is as it was, or has one more query
pub data BookMoved {N : Type 0} (m : Plain) (old new : Ledger N) : Type 0 where
  Same : new ≡ old → BookMoved m old new
  Lodged : IsLodged m old new → BookMoved m old new

-- the parts have gone on by the change of the reply
pub record Goes {U N : Type 0} (means : U → Meaning) (m : Plain) (s : ℕ) (e : Event Meaning) (r : Reply) (old new : Parts U N) : Type 0 where
  pub parts : AreParts means new (changed (change_of m s e r) m)
  pub tells : Tells old.graph new.graph
  pub queries : new.book.queries ≡ (changed (change_of m s e r) m).queries
  pub book : BookMoved m old.book new.book

-- a unit that is handed in is lawful
abbrev pub HandsInLawful : Change Meaning → Type 0
HandsInLawful (change.Define d t u found) = IsLawful u
HandsInLawful (change.Attach d t u) = IsLawful u
HandsInLawful c = ⊤

-- the session that an entry leads to, before anything settles
abbrev pub next : {U : Type 0} → (U → Meaning) → List (Entry U) → Entry U → Plain
next means h e = changed (change_of (state_of means h) e.seat.0 (plain_event means e.event) e.reply) (state_of means h)

-- the entry is a right one after the journal, which has its place, and the parts have gone on by it
pub record CanEnter {U N : Type 0} (means : U → Meaning) (jmax : ℕ) (h : List (Entry U)) (capacity : ℕ) (e : Entry U) (p : Parts U N) : Type 0 where
  pub before : Parts U N
  pub rest : IsAtRest means jmax before h capacity
  pub place : is_full jmax (state_of means h) e.seat.0 (plain_event means e.event) ≡ false
  pub answered : Answers jmax (plain_history means h) (state_of means h) e.seat.0 (plain_event means e.event) e.reply
  pub goes : Goes means (state_of means h) e.seat.0 (plain_event means e.event) e.reply before p
  pub lawful : HandsInLawful (change_of (state_of means h) e.seat.0 (plain_event means e.event) e.reply)

-- nothing that a contract sees has changed: there may be more room
pub record IsStill {U N : Type 0} (means : U → Meaning) (m : Plain) (old new : Parts U N) : Type 0 where
  pub parts : AreParts means new m
  pub book : new.book ≡ old.book
  pub changed : new.graph.changed ≡ old.graph.changed
