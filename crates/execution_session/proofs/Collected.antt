-- What is collected of a query is the right reply.
use Rattle.std.proofs.Common.{◌≡◌, ℕ, ◌≤◌, ◌<◌, true, false, List, slice_get, Option, Some, None, refl, ap, sym, subst, ◌∙◌}
use Rattle.std.specs.Prelude.{◌≢◌, Ok, Err}
use Rattle.std.proofs.lemmas.Bool.{both_ways}
use Rattle.list_laws.proofs.Lists.{missing_past}
use Rattle.orc_ids.specs.declared.ids.QueryId.{QueryId}
use Rattle.orc_ids.specs.declared.ids.SeatNo.{SeatNo}
use Rattle.orc_ids.specs.declared.lookup.Stop.{Stop}
use Rattle.orc_ids.specs.declared.lookup.Stop.TheVariants.{JournalFull, NoMemory}
use Rattle.session_model.specs.Meaning.{Meaning}
use Rattle.session_model.specs.Plain.{Plain}
use Rattle.session_model.specs.Answer.{AnswersCollect}
use Rattle.session_model.specs.Change.{change_of}
use Rattle.session_model.specs.State.{state, plain_history, IsEnd}
use Rattle.session_model.specs.declared.change.Change.TheVariants as change
use Rattle.session_model.specs.declared.entry.Entry.{Entry}
use Rattle.session_model.specs.declared.entry.Event.TheVariants as event
use Rattle.session_model.specs.declared.entry.Reply.{Reply}
use Rattle.session_model.specs.declared.entry.Reply.TheVariants as reply
use Rattle.session_model.specs.declared.rows.Ending.{Ending}
use Rattle.session_model.specs.declared.rows.Ending.TheVariants as ending
use Rattle.session_model.specs.declared.rows.Query.{Query}
use Rattle.session_laws.proofs.Declared.{element_below, open_has_no_end}
use Rattle.closure_laws.proofs.Declared.{row_below}
use Rattle.query_book.specs.declared.ends.QueryEnd.{QueryEnd}
use Rattle.query_book.specs.Ends.{collected_of, collected_end}
use Rattle.session_parts.specs.declared.parts.Parts.{Parts}
use Rattle.session_parts.specs.Ends.{AreEnds, IsKept}
use Rattle.execution_session.specs.Collected.{end_reply, is_open}
use Rattle.session_steps.specs.Performs.{state_of, Enters, IsStopped, HasOpen, Collects}
use Rattle.session_steps.specs.Stands.{Stands}
use Rattle.session_steps.specs.Steps.{IsStep}
use Rattle.session_steps.proofs.Declared.{goes_by, entry}

-- Open queries

-- the reply says whether the query is open
pub says_open : (q : QueryId) (o : Option (Option QueryEnd)) → is_open (end_reply q (collected_of o)) ≡ true → o ≡ Some None
says_open q None e = absurd cc
says_open q (Some None) e = refl
says_open q (Some (Some end)) e = by end.end e
  where
    by : (x : Ending) → is_open (end_reply q (collected_end end.at x)) ≡ true → Some (Some end) ≡ Some None
    by (ending.Found list) e = absurd cc
    by (ending.Lost i) e = absurd cc

pub says_settled : (q : QueryId) (o : Option (Option QueryEnd)) → is_open (end_reply q (collected_of o)) ≡ false → o ≢ Some None
says_settled q o e = λ s. both_ways (is_open (end_reply q (collected_of o))) e (ap (λ p. is_open (end_reply q (collected_of p))) s)

pub open_reply : (r : Reply) → is_open r ≡ true → r ≡ reply.Open
open_reply reply.Open e = refl
open_reply _ e = absurd (both_ways false refl e)

-- an end is kept for each query
kept_at : (past : List (Entry Meaning)) (k : ℕ) (end : Option QueryEnd) (ends : List (Option QueryEnd)) → AreEnds past ends → slice_get ends k ≡ Some end → (q : Query) × (slice_get (state past).queries k ≡ Some q) × IsKept past k q end
kept_at past k end ends a t =
    let q = row_below (state past).queries k (subst (λ n. k < n) a.count (element_below ends k end t)) in
    (q.0, q.1, a.each k q.0 end q.1 t)

pub has_open : {U : Type 0} (means : U → Meaning) (h : List (Entry U)) (q : QueryId) (ends : List (Option QueryEnd)) → AreEnds (plain_history means h) ends → slice_get ends q.0 ≡ Some None → HasOpen means h q
has_open means h q ends a t = let k = kept_at (plain_history means h) q.0 None ends a t in record { query = k.0; there = k.1; unsettled = k.2 }

pub has_no_open : {U : Type 0} (means : U → Meaning) (h : List (Entry U)) (q : QueryId) (ends : List (Option QueryEnd)) → AreEnds (plain_history means h) ends → slice_get ends q.0 ≢ Some None → HasOpen means h q → ⊥
has_no_open means h q ends a n o = split (kept.0) kept.1
  where
    kept : (end : Option QueryEnd) × (slice_get ends q.0 ≡ Some end)
    kept = row_below ends q.0 (subst (λ l. q.0 < l) (sym a.count) (element_below (state_of means h).queries q.0 o.query o.there))

    split : (end : Option QueryEnd) → slice_get ends q.0 ≡ Some end → ⊥
    split None t = n t
    split (Some end) t = open_has_no_end (plain_history means h) q.0 end.at o.query end.end o.there o.unsettled (a.each q.0 o.query (Some end) o.there t)

-- Settled queries

pub collect_answers : (past : List (Entry Meaning)) (q : QueryId) (ends : List (Option QueryEnd)) → AreEnds past ends → is_open (end_reply q (collected_of (slice_get ends q.0))) ≡ false → AnswersCollect past (state past) q.0 (end_reply q (collected_of (slice_get ends q.0)))
collect_answers past q ends a settled = split (slice_get ends q.0) refl settled
  where
    split : (o : Option (Option QueryEnd)) → slice_get ends q.0 ≡ o → is_open (end_reply q (collected_of o)) ≡ false → AnswersCollect past (state past) q.0 (end_reply q (collected_of o))
    split None t e = (refl, subst (λ n. n ≤ q.0) a.count (missing_past ends q.0 t))
    split (Some None) t e = absurd cc
    split (Some (Some end)) t e = by end.end (kept_at past q.0 (Some end) ends a t).2
      where
        by : (x : Ending) → IsEnd past q.0 end.at x → AnswersCollect past (state past) q.0 (end_reply q (collected_end end.at x))
        by (ending.Found list) k = k
        by (ending.Lost i) k = k

-- it changes nothing
pub collect_quiet : (m : Plain) (s : ℕ) (q : QueryId) (o : Option (Option QueryEnd)) → change_of m s (event.Collect q) (end_reply q (collected_of o)) ≡ change.Nothing
collect_quiet m s q None = refl
collect_quiet m s q (Some None) = refl
collect_quiet m s q (Some (Some end)) = by end.end
  where
    by : (x : Ending) → change_of m s (event.Collect q) (end_reply q (collected_end end.at x)) ≡ change.Nothing
    by (ending.Found list) = refl
    by (ending.Lost i) = refl

pub collect_step : {U N : Type 0} (means : U → Meaning) (m : Plain) (s : ℕ) (q : QueryId) (p : Parts U N) (r : Reply) → Stands means m p → r ≡ end_reply q (collected_of (slice_get p.book.ends q.0)) → is_open r ≡ false → IsStep means m s (event.Collect q) r p p
collect_step means m s q p r at is settled = subst (λ w. IsStep means m s (event.Collect q) w p p) (sym is) (record {
  answered = λ jmax past leads ends. subst (λ n. AnswersCollect past n q.0 (end_reply q (collected_of (slice_get p.book.ends q.0)))) leads (collect_answers past q p.book.ends ends (ap is_open (sym is) ∙ settled));
  goes = goes_by means m s (event.Collect q) (end_reply q (collected_of (slice_get p.book.ends q.0))) change.Nothing p p quiet at.parts refl refl refl at.queries;
  lawful = subst Rattle.session_steps.specs.Moved.HandsInLawful (sym quiet) tt;
})
  where
    quiet : change_of m s (event.Collect q) (end_reply q (collected_of (slice_get p.book.ends q.0))) ≡ change.Nothing
    quiet = collect_quiet m s q (slice_get p.book.ends q.0)

-- The call

pub collects_entered : {U : Type 0} (means : U → Meaning) (jmax : ℕ) (old new : List (Entry U)) (s : SeatNo) (q : QueryId) (r : Reply) → is_open r ≡ false → Enters means jmax old new (entry s (event.Collect q) r) → Collects means jmax old new s q (Ok r)
collects_entered means jmax old new s q reply.Open n e = absurd cc
collects_entered means jmax old new s q _ n e = e

pub collects_stopped : {U : Type 0} (means : U → Meaning) (jmax : ℕ) (old new : List (Entry U)) (s : SeatNo) (q : QueryId) (why : Stop) → (HasOpen means old q → ⊥) → IsStopped means jmax old new s (event.Collect q) why → Collects means jmax old new s q (Err why)
collects_stopped means jmax old new s q (JournalFull len) n e = (e, n)
collects_stopped means jmax old new s q NoMemory n e = (e, n)

pub collects_open : {U : Type 0} (means : U → Meaning) (jmax : ℕ) (h : List (Entry U)) (s : SeatNo) (q : QueryId) (r : Reply) → r ≡ reply.Open → HasOpen means h q → Collects means jmax h h s q (Ok r)
collects_open means jmax h s q r is o = subst (λ w. Collects means jmax h h s q (Ok w)) (sym is) (refl, o)
