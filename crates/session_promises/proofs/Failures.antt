-- A failure puts in error what reaches its roots, and nothing else does.
use Rattle.std.proofs.Common.{◌≡◌, ℕ, true, take, ◌⊎◌, ◌↔◌, sym, subst, ap, ◌∙◌}
use Rattle.session_model.specs.Meaning.{Meaning}
use Rattle.session_model.specs.Plain.{Plain, failed_at}
use Rattle.session_model.specs.Reach.{IsHit}
use Rattle.session_model.specs.State.{after, state}
use Rattle.session_model.specs.declared.entry.Entry.{Entry}
use Rattle.session_model.specs.declared.entry.Event.{Event}
use Rattle.session_model.specs.declared.entry.Event.TheVariants as event
use Rattle.session_model.specs.declared.entry.Reply.{Reply}
use Rattle.session_model.specs.declared.entry.Reply.TheVariants as reply
use Rattle.session_laws.specs.Failures.{IsFailure}
use Rattle.session_laws.proofs.Declared.{fail_fails_hits, remove_fails_hits, only_failures_fail}
use Rattle.session_promises.specs.Failures.{roots_of}
use Rattle.session_promises.specs.Laws.{FailureHitsThose, NothingElseFails}
use Rattle.session_promises.proofs.Entries.{entry_leads}

-- of one session and an entry that failed or removed something
abbrev HitsThose : Plain → ℕ → Entry Meaning → Type 0
HitsThose m i e = (failed_at (after m e).rows i ≡ true) ↔ (failed_at m.rows i ≡ true) ⊎ IsHit m.rows (roots_of m e.event) i

hits_those : (m : Plain) (i : ℕ) (e : Entry Meaning) → IsFailure e.event e.reply → HitsThose m i e
hits_those m i e fails = by_event e.event e.reply fails
  where
    by_event : (v : Event Meaning) (r : Reply) → IsFailure v r → HitsThose m i (record { seat = e.seat; event = v; reply = r })
    by_event (event.Fail u why) reply.Failed f = fail_fails_hits m e.seat u why i
    by_event (event.Remove t) reply.Removed f = remove_fails_hits m e.seat t i
    by_event _ _ f = absurd f

pub failure_hits_those : FailureHitsThose
failure_hits_those h n e there fails i = subst (λ (m : Plain). (failed_at m.rows i ≡ true) ↔ (failed_at (state (take n h)).rows i ≡ true) ⊎ IsHit (state (take n h)).rows (roots_of (state (take n h)) e.event) i)
    (sym (entry_leads h n e there)) (hits_those (state (take n h)) i e fails)

pub nothing_else_fails : NothingElseFails
nothing_else_fails h n e there i before now = only_failures_fail (state (take n h)) e i before (ap (λ (m : Plain). failed_at m.rows i) (sym (entry_leads h n e there)) ∙ now)
