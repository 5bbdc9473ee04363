-- What a collect and a take are answered is right, and nothing else is.
use Rattle.std.proofs.Common.{◌≡◌, ℕ, ◌≤◌, ◌↔◌, List, [], ◌∷◌, length, slice_get, Option, Some, None, option_map, subst, sym, refl, ap, ◌∙◌, arith, zero, suc}
use Rattle.std.specs.Prelude.{option_and_then}
use Rattle.std.specs.Option.{option_map_or}
use Rattle.std.proofs.lemmas.Option.{same_Some, none-some}
use Rattle.list_laws.proofs.Lists.{some_below}
use Rattle.orc_ids.specs.declared.ids.QueryId.{QueryId}
use Rattle.orc_ids.specs.declared.ids.UnitId.{UnitId}
use Rattle.session_model.specs.Meaning.{Meaning}
use Rattle.session_model.specs.Plain.{Plain, UnitRow}
use Rattle.session_model.specs.declared.rows.Ending.{Ending}
use Rattle.session_model.specs.declared.rows.Ending.TheVariants.{Found, Lost}
use Rattle.session_model.specs.State.{state, IsEnd}
use Rattle.session_model.specs.Answer.{AnswersTake, AnswersFinish, LinkEnded}
use Rattle.session_model.specs.declared.entry.Entry.{Entry}
use Rattle.session_model.specs.declared.entry.Finishing.TheVariants as finishing
use Rattle.session_model.specs.declared.entry.Reply.{Reply}
use Rattle.session_model.specs.declared.entry.Reply.TheVariants as reply
use Rattle.session_model.specs.declared.rows.Job.{Job}
use Rattle.session_model.specs.declared.rows.Job.TheVariants as job
use Rattle.session_model.specs.declared.rows.Query.{Query}
use Rattle.session_laws.proofs.Declared.{element_below, end_is_unique, open_has_no_end}
use Rattle.session_past.specs.declared.ends.Settled.{Settled}
use Rattle.session_past.specs.Ends.{AreEnds}
use Rattle.session_past.specs.Taking.{IsCollected, end_reply, collect_reply, its_end, end_at, link_end, finish_reply, job_reply}

-- with no element there, the list is shorter
past_end : {X : Type 0} (n : ℕ) (xs : List X) (k : ℕ) → slice_get xs k ≡ None → n ≤ length xs → n ≤ k
past_end n [] k e b = omega (arith, b)
past_end n (x ∷ xs) zero e b = absurd (none-some x (sym e))
past_end zero (x ∷ xs) (suc k) e b = omega arith
past_end (suc n) (x ∷ xs) (suc k) e b = let h : n ≤ k = past_end n xs k e (omega (arith, b)) in omega (arith, h)

-- the query of an end, and the end of a query
query_of : (past : List (Entry Meaning)) (m : Plain) (ends : List (Option Settled)) (k : ℕ) (o : Option Settled) → AreEnds past m ends → slice_get ends k ≡ Some o → (q : Query) × (slice_get m.queries k ≡ Some q)
query_of past m ends k o a t = some_below m.queries k (omega (arith, a.inside, element_below ends k o t))

pub end_of : (past : List (Entry Meaning)) (m : Plain) (ends : List (Option Settled)) (k : ℕ) (q : Query) → AreEnds past m ends → slice_get m.queries k ≡ Some q → (o : Option Settled) × (slice_get ends k ≡ Some o)
end_of past m ends k q a t = some_below ends k (omega (arith, a.inside, element_below m.queries k q t))

-- Collecting

pub collected : (past : List (Entry Meaning)) (m : Plain) (ends : List (Option Settled)) (q : QueryId) → AreEnds past m ends → IsCollected past m q.0 (collect_reply ends q)
collected past m ends q a = split (slice_get ends q.0) refl
  where
    ended : (n : ℕ) (end : Ending) → IsEnd past q.0 n end → IsCollected past m q.0 (end_reply n end)
    ended n (Found matches) x = x
    ended n (Lost i) x = x

    split : (f : Option (Option Settled)) → slice_get ends q.0 ≡ f → IsCollected past m q.0 (option_map_or (λ o. option_map_or (λ x. end_reply x.at x.end) o reply.Open) f (reply.Unknown q))
    split None e = (refl, past_end (length m.queries) ends q.0 e (omega (arith, a.inside)))
    split (Some None) e = let q' = query_of past m ends q.0 None a e in (q'.0, q'.1, a.each q.0 q'.0 None q'.1 e)
    split (Some (Some x)) e = ended x.at x.end (a.each q.0 (query_of past m ends q.0 (Some x) a e).0 (Some x) (query_of past m ends q.0 (Some x) a e).1 e)

-- Taking

-- the ends that are known are those of the link queries
pub link_ended : (past : List (Entry Meaning)) (m : Plain) (ends : List (Option Settled)) (u : ℕ) (end : Ending) → AreEnds past m ends → link_end m ends u ≡ Some end → LinkEnded past m u end
link_ended past m ends u end a = by_unit (slice_get m.units u) refl
  where
    by_end : (x : UnitRow) (k : ℕ) (f : Option (Option Settled)) → slice_get m.units u ≡ Some x → x.query ≡ Some k → slice_get ends k ≡ f → option_and_then its_end f ≡ Some end → LinkEnded past m u end
    by_end x k None there its e h = absurd (none-some end h)
    by_end x k (Some None) there its e h = absurd (none-some end h)
    by_end x k (Some (Some s)) there its e h = record {
      unit = x;
      there = there;
      query = k;
      its = its;
      at = s.at;
      ended = subst (IsEnd past k s.at) (same_Some s.end end h) (a.each k (query_of past m ends k (Some s) a e).0 (Some s) (query_of past m ends k (Some s) a e).1 e);
    }

    by_query : (x : UnitRow) (o : Option ℕ) → slice_get m.units u ≡ Some x → x.query ≡ o → option_and_then (end_at ends) o ≡ Some end → LinkEnded past m u end
    by_query x None there its h = absurd (none-some end h)
    by_query x (Some k) there its h = by_end x k (slice_get ends k) there its refl h

    by_unit : (o : Option UnitRow) → slice_get m.units u ≡ o → option_and_then (λ (x : UnitRow). option_and_then (end_at ends) x.query) o ≡ Some end → LinkEnded past m u end
    by_unit None e h = absurd (none-some end h)
    by_unit (Some x) e h = by_query x x.query e refl h

pub link_end_is : (past : List (Entry Meaning)) (m : Plain) (ends : List (Option Settled)) (u : ℕ) (end : Ending) → m ≡ state past → AreEnds past m ends → LinkEnded past m u end → link_end m ends u ≡ Some end
link_end_is past m ends u end is a x =
    ap (option_and_then (λ (y : UnitRow). option_and_then (end_at ends) y.query)) x.there ∙ (ap (option_and_then (end_at ends)) x.its ∙ (ap (option_and_then its_end) o.1 ∙ by_end o.0 o.1))
  where
    there : slice_get m.queries x.query ≡ Some x.ended.query
    there = ap (λ n. slice_get n.queries x.query) is ∙ x.ended.there

    o : (o : Option Settled) × (slice_get ends x.query ≡ Some o)
    o = end_of past m ends x.query x.ended.query a there

    by_end : (f : Option Settled) → slice_get ends x.query ≡ Some f → its_end f ≡ Some end
    by_end None e = absurd (open_has_no_end past x.query x.at x.ended.query end x.ended.there (a.each x.query x.ended.query None there e) x.ended)
    by_end (Some s) e = ap Some (end_is_unique past x.query s.at x.at s.end end (a.each x.query x.ended.query (Some s) there e) x.ended).1

finish_right : (past : List (Entry Meaning)) (m : Plain) (u : UnitId) (end : Ending) → LinkEnded past m u.0 end → AnswersFinish past m u.0 (finish_reply u end)
finish_right past m u (Found matches) x = (refl, x)
finish_right past m u (Lost i) x = (refl, x)

-- a right finish is by the end
finish_by : (past : List (Entry Meaning)) (m : Plain) (u : UnitId) (r : Reply) → AnswersFinish past m u.0 r → (end : Ending) × LinkEnded past m u.0 end × (finish_reply u end ≡ r)
finish_by past m u (reply.Finish v (finishing.Bound matches)) x = (Found matches, x.1, ap (λ n. reply.Finish (record { 0 = n }) (finishing.Bound matches)) (sym x.0))
finish_by past m u (reply.Finish v (finishing.Lost i)) x = (Lost i, x.1, ap (λ n. reply.Finish (record { 0 = n }) (finishing.Lost i)) (sym x.0))
finish_by past m u _ x = absurd x

job_answered : (past : List (Entry Meaning)) (m : Plain) (ends : List (Option Settled)) (js : List Job) (r : Reply) → AreEnds past m ends → option_and_then (job_reply m ends) (slice_get js 0) ≡ Some r → AnswersTake past m js r
job_answered past m ends [] r a h = absurd (none-some r h)
job_answered past m ends (job.Start u ∷ js) r a h = sym (same_Some (reply.Start u) r h)
job_answered past m ends (job.Finish u ∷ js) r a h = split (link_end m ends u.0) refl h
  where
    split : (o : Option Ending) → link_end m ends u.0 ≡ o → option_map (finish_reply u) o ≡ Some r → AnswersFinish past m u.0 r
    split None e h = absurd (none-some r h)
    split (Some end) e h = subst (AnswersFinish past m u.0) (same_Some (finish_reply u end) r h) (finish_right past m u end (link_ended past m ends u.0 end a e))

job_only : (past : List (Entry Meaning)) (m : Plain) (ends : List (Option Settled)) (js : List Job) (r : Reply) → m ≡ state past → AreEnds past m ends → AnswersTake past m js r → option_and_then (job_reply m ends) (slice_get js 0) ≡ Some r
job_only past m ends [] r is a x = absurd x
job_only past m ends (job.Start u ∷ js) r is a x = ap Some (sym x)
job_only past m ends (job.Finish u ∷ js) r is a x = let p = finish_by past m u r x in
    ap (option_map (finish_reply u)) (link_end_is past m ends u.0 p.0 is a p.1) ∙ ap Some p.2

pub take_answered : (past : List (Entry Meaning)) (m : Plain) (ends : List (Option Settled)) (found : Option Reply) → found ≡ option_and_then (job_reply m ends) (slice_get m.jobs 0) → m ≡ state past → AreEnds past m ends → (r : Reply) → (found ≡ Some r) ↔ AnswersTake past m m.jobs r
take_answered past m ends found e is a r = (λ h. job_answered past m ends m.jobs r a (sym e ∙ h), λ x. e ∙ job_only past m ends m.jobs r is a x)
