-- The change Finish is made by the take of a job Finish alone, with the end of the link query.
use Rattle.std.proofs.Common.{◌≡◌, ℕ, Bool, true, false, List, [], ◌∷◌, subst, sym, refl, ap, ◌∙◌}
use Rattle.std.proofs.lemmas.Bool.{both_ways}
use Rattle.orc_ids.specs.declared.ids.SeatNo.{SeatNo}
use Rattle.orc_ids.specs.declared.ids.UnitId.{UnitId}
use Rattle.session_model.specs.Answer.{Answers, AnswersTake, LinkEnded}
use Rattle.session_model.specs.Change.{change_of}
use Rattle.session_model.specs.Meaning.{Meaning, Bindings}
use Rattle.session_model.specs.Plain.{Plain}
use Rattle.session_model.specs.declared.change.Change.{Change}
use Rattle.session_model.specs.declared.change.Change.TheVariants.{Finish}
use Rattle.session_model.specs.declared.entry.Entry.{Entry}
use Rattle.session_model.specs.declared.entry.Event.{Event}
use Rattle.session_model.specs.declared.entry.Event.TheVariants as event
use Rattle.session_model.specs.declared.entry.Finishing.{Finishing}
use Rattle.session_model.specs.declared.entry.Finishing.TheVariants as finishing
use Rattle.session_model.specs.declared.entry.Reply.{Reply}
use Rattle.session_model.specs.declared.entry.Reply.TheVariants as reply
use Rattle.session_model.specs.declared.rows.Ending.TheVariants.{Found}
use Rattle.session_model.specs.declared.rows.Job.{Job}
use Rattle.session_model.specs.declared.rows.Job.TheVariants as job

abbrev is_finish : Change Meaning → Bool
is_finish (Finish t u how) = true
is_finish _ = false

-- the entry takes this job, and its unit is finished so
record TakesFinish (e : Event Meaning) (r : Reply) : Type 0 where
  unit : UnitId
  how : Finishing
  event_is : e ≡ event.Take
  reply_is : r ≡ reply.Finish unit how

finish_taken : (m : Plain) (s : ℕ) (e : Event Meaning) (r : Reply) → is_finish (change_of m s e r) ≡ true → TakesFinish e r
finish_taken m s event.Take (reply.Finish u how) f = record { unit = u; how = how; event_is = refl; reply_is = refl }
finish_taken m s event.Take _ f = absurd (both_ways false refl f)
finish_taken m s (event.Dylib name) (reply.Defunct v) f = absurd (both_ways false refl f)
finish_taken m s (event.Dylib name) _ f = absurd (both_ways false refl f)
finish_taken m s (event.SetOrder d order) (reply.Defunct v) f = absurd (both_ways false refl f)
finish_taken m s (event.SetOrder d order) _ f = absurd (both_ways false refl f)
finish_taken m s (event.Attach d t u) (reply.Defunct v) f = absurd (both_ways false refl f)
finish_taken m s (event.Attach d t u) _ f = absurd (both_ways false refl f)
finish_taken m s (event.Define d t u) (reply.Defunct v) f = absurd (both_ways false refl f)
finish_taken m s (event.Define d t u) _ f = absurd (both_ways false refl f)
finish_taken m s (event.Generate g) (reply.Defunct v) f = absurd (both_ways false refl f)
finish_taken m s (event.Generate g) _ f = absurd (both_ways false refl f)
finish_taken m s (event.Ask order wanted lev n) (reply.Defunct v) f = absurd (both_ways false refl f)
finish_taken m s (event.Ask order wanted lev n) _ f = absurd (both_ways false refl f)
finish_taken m s (event.Collect q) (reply.Defunct v) f = absurd (both_ways false refl f)
finish_taken m s (event.Collect q) _ f = absurd (both_ways false refl f)
finish_taken m s (event.Place u shape) (reply.Defunct v) f = absurd (both_ways false refl f)
finish_taken m s (event.Place u shape) _ f = absurd (both_ways false refl f)
finish_taken m s (event.Resolve u) (reply.Defunct v) f = absurd (both_ways false refl f)
finish_taken m s (event.Resolve u) _ f = absurd (both_ways false refl f)
finish_taken m s (event.Link u) (reply.Defunct v) f = absurd (both_ways false refl f)
finish_taken m s (event.Link u) _ f = absurd (both_ways false refl f)
finish_taken m s (event.Emit u groups) (reply.Defunct v) f = absurd (both_ways false refl f)
finish_taken m s (event.Emit u groups) _ f = absurd (both_ways false refl f)
finish_taken m s (event.Fail u cause) (reply.Defunct v) f = absurd (both_ways false refl f)
finish_taken m s (event.Fail u cause) _ f = absurd (both_ways false refl f)
finish_taken m s (event.Tracker d) (reply.Defunct v) f = absurd (both_ways false refl f)
finish_taken m s (event.Tracker d) _ f = absurd (both_ways false refl f)
finish_taken m s (event.MoveTracker t to) (reply.Defunct v) f = absurd (both_ways false refl f)
finish_taken m s (event.MoveTracker t to) _ f = absurd (both_ways false refl f)
finish_taken m s (event.Remove t) (reply.Defunct v) f = absurd (both_ways false refl f)
finish_taken m s (event.Remove t) _ f = absurd (both_ways false refl f)
finish_taken m s event.Image (reply.Defunct v) f = absurd (both_ways false refl f)
finish_taken m s event.Image _ f = absurd (both_ways false refl f)

-- what a job Finish is handed out with
taken_with : (past : List (Entry Meaning)) (m : Plain) (jobs : List Job) (u : UnitId) (b : Bindings) → AnswersTake past m jobs (reply.Finish u (finishing.Bound b)) → LinkEnded past m u.0 (Found b)
taken_with past m [] u b a = absurd a
taken_with past m (job.Start v ∷ js) u b a = absurd (cc)
taken_with past m (job.Finish v ∷ js) u b a = subst (λ k. LinkEnded past m k (Found b)) (sym a.0) a.1

-- bindings are handed out as the link query's end
pub bound_by_end : (jmax : ℕ) (past : List (Entry Meaning)) (m : Plain) (s : ℕ) (e : Event Meaning) (r : Reply) → Answers jmax past m s e r → (t : SeatNo) (u : UnitId) (b : Bindings) → change_of m s e r ≡ Finish t u (finishing.Bound b) → LinkEnded past m u.0 (Found b)
bound_by_end jmax past m s e r a t u b is = taken_with past m m.jobs u b (subst (AnswersTake past m m.jobs) reply_is taken)
  where
    takes : TakesFinish e r
    takes = finish_taken m s e r (ap is_finish is)

    taken : AnswersTake past m m.jobs r
    taken = subst (λ v. Answers jmax past m s v r) takes.event_is a

    change : change_of m s event.Take (reply.Finish takes.unit takes.how) ≡ Finish t u (finishing.Bound b)
    change = ap (λ v. change_of m s event.Take v) (sym takes.reply_is) ∙ (ap (λ v. change_of m s v r) (sym takes.event_is) ∙ is)

    same : (v : UnitId) (how : Finishing) → ◌≡◌ {A = Change Meaning} (Finish (record { 0 = s }) v how) (Finish t u (finishing.Bound b)) → reply.Finish v how ≡ reply.Finish u (finishing.Bound b)
    same v how f = cc

    reply_is : r ≡ reply.Finish u (finishing.Bound b)
    reply_is = takes.reply_is ∙ same takes.unit takes.how change
