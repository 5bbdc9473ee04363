-- What a failure and a removal do to the instances, and that nothing else fails one.
use Rattle.std.specs.Prelude.{◌≡◌, ℕ, true, false, ◌⊎◌, ◌↔◌}
use Rattle.std.specs.Bool.{⊤}
use Rattle.orc_ids.specs.declared.ids.SeatNo.{SeatNo}
use Rattle.orc_ids.specs.declared.ids.UnitId.{UnitId}
use Rattle.orc_ids.specs.declared.ids.TrackId.{TrackId}
use Rattle.session_model.specs.Meaning.{Meaning}
use Rattle.session_model.specs.Plain.{Plain, failed_at}
use Rattle.session_model.specs.Reach.{IsHit}
use Rattle.session_model.specs.Change.{tracker_roots}
use Rattle.session_model.specs.Plain.{is_owned_at}
use Rattle.session_model.specs.State.{after}
use Rattle.session_model.specs.declared.entry.Entry.{Entry}
use Rattle.session_model.specs.declared.entry.Event.{Event}
use Rattle.session_model.specs.declared.entry.Event.TheVariants as event
use Rattle.session_model.specs.declared.entry.Reply.{Reply}
use Rattle.session_model.specs.declared.entry.Reply.TheVariants as reply
use Rattle.session_model.specs.declared.entry.Why.{Why}

-- an entry that fails the unit
abbrev pub fail_entry : SeatNo → UnitId → Why → Entry Meaning
fail_entry s u cause = record { seat = s; event = event.Fail u cause; reply = reply.Failed }

-- an entry that removes the tracker
abbrev pub remove_entry : SeatNo → TrackId → Entry Meaning
remove_entry s t = record { seat = s; event = event.Remove t; reply = reply.Removed }

-- after a fail exactly those instances are Failed that were, and those that the unit's own hit
abbrev pub FailFailsHits : Type 0
FailFailsHits = (m : Plain) (s : SeatNo) (u : UnitId) (cause : Why) (i : ℕ) →
    (failed_at (after m (fail_entry s u cause)).rows i ≡ true) ↔ (failed_at m.rows i ≡ true) ⊎ IsHit m.rows (is_owned_at u.0 m.rows) i

-- after a removal exactly those are Failed that were, and those that the tracker's unready ones hit
abbrev pub RemoveFailsHits : Type 0
RemoveFailsHits = (m : Plain) (s : SeatNo) (t : TrackId) (i : ℕ) →
    (failed_at (after m (remove_entry s t)).rows i ≡ true) ↔ (failed_at m.rows i ≡ true) ⊎ IsHit m.rows (tracker_roots m t.0) i

-- a fail or a removal that was answered so
abbrev pub IsFailure : Event Meaning → Reply → Type 0
IsFailure (event.Fail u cause) reply.Failed = ⊤
IsFailure (event.Remove t) reply.Removed = ⊤
IsFailure _ _ = ⊥

-- nothing else fails an instance
abbrev pub OnlyFailuresFail : Type 0
OnlyFailuresFail = (m : Plain) (e : Entry Meaning) (i : ℕ) → failed_at m.rows i ≡ false → failed_at (after m e).rows i ≡ true → IsFailure e.event e.reply
