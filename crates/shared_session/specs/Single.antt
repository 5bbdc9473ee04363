-- A call makes one entry of its seat, or none.
use Rattle.std.proofs.Common.{◌≡◌, ℕ, ◌⊎◌, inl, inr, List, [], ◌∷◌, ◌++◌, Result, Ok, Err, refl}
use Rattle.orc_ids.specs.declared.ids.QueryId.{QueryId}
use Rattle.orc_ids.specs.declared.lookup.Stop.{Stop}
use Rattle.orc_ids.specs.declared.lookup.Stop.TheVariants.{JournalFull, NoMemory}
use Rattle.session_model.specs.Meaning.{Meaning}
use Rattle.session_model.specs.declared.entry.Entry.{Entry}
use Rattle.session_model.specs.declared.entry.Event.{Event}
use Rattle.session_model.specs.declared.entry.Event.TheVariants as event
use Rattle.session_model.specs.declared.entry.Reply.{Reply}
use Rattle.session_model.specs.declared.entry.Reply.TheVariants as reply
use Rattle.session_steps.specs.Performs.{Performs, Takes, Collects}
use Rattle.shared_session.specs.Does.{seat}
use Rattle.shared_session.specs.Home.{seat_of}

module _ {U : Type 0} (means : U → Meaning) (jmax s : ℕ) (old new : List (Entry U)) where
  -- nothing, or one entry of the seat more
  abbrev pub IsOneAtMost : Type 0
  IsOneAtMost = (new ≡ old) ⊎ ((e : Entry U) × (new ≡ old ++ e ∷ []) × (seat_of e ≡ s))

  pub performed_once : (e : Event U) (answer : Result Reply Stop) → Performs means jmax old new (seat s) e answer → IsOneAtMost
  performed_once e (Ok r) did = inr (record { seat = seat s; event = e; reply = r }, did.grown, refl)
  performed_once e (Err (JournalFull len)) did = inl did.0
  performed_once e (Err NoMemory) did = inl did

  pub collected_once : (q : QueryId) (answer : Result Reply Stop) → Collects means jmax old new (seat s) q answer → IsOneAtMost
  collected_once q (Ok reply.Open) did = inl did.0
  collected_once q (Err (JournalFull len)) did = inl did.0.0
  collected_once q (Err NoMemory) did = inl did.0
  collected_once q (Ok r) did = performed_once (event.Collect q) (Ok r) did

  pub taken_once : (answer : Result Reply Stop) → Takes means jmax old new (seat s) answer → IsOneAtMost
  taken_once (Ok (reply.Idle held)) did = inl did.0
  taken_once (Err (JournalFull len)) did = inl did.0.0
  taken_once (Err NoMemory) did = inl did.0
  taken_once (Ok r) did = performed_once event.Take (Ok r) did
