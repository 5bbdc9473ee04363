-- What a collect and a take are answered, where the ends of the queries are known.
use Rattle.std.specs.Prelude.{◌≡◌, ℕ, List, slice_get, Option, Some, option_map, option_and_then}
use Rattle.std.specs.Option.{option_map_or}
use Rattle.orc_ids.specs.declared.ids.QueryId.{QueryId}
use Rattle.orc_ids.specs.declared.ids.UnitId.{UnitId}
use Rattle.session_model.specs.Meaning.{Meaning}
use Rattle.session_model.specs.Plain.{Plain}
use Rattle.session_model.specs.declared.rows.Ending.{Ending}
use Rattle.session_model.specs.declared.rows.Ending.TheVariants.{Found, Lost}
use Rattle.session_model.specs.State.{IsOpen}
use Rattle.session_model.specs.Answer.{AnswersCollect}
use Rattle.session_model.specs.declared.entry.Entry.{Entry}
use Rattle.session_model.specs.declared.entry.Finishing.TheVariants as finishing
use Rattle.session_model.specs.declared.entry.Reply.{Reply}
use Rattle.session_model.specs.declared.entry.Reply.TheVariants as reply
use Rattle.session_model.specs.declared.rows.Job.{Job}
use Rattle.session_model.specs.declared.rows.Job.TheVariants as job
use Rattle.session_model.specs.declared.rows.Query.{Query}
use Rattle.session_past.specs.declared.ends.Settled.{Settled}

-- Collecting

abbrev pub end_reply : ℕ → Ending → Reply
end_reply n (Found matches) = reply.Found n matches
end_reply n (Lost i) = reply.Lost n i

abbrev pub collect_reply : List (Option Settled) → QueryId → Reply
collect_reply ends q = option_map_or (λ o. option_map_or (λ x. end_reply x.at x.end) o reply.Open) (slice_get ends q.0) (reply.Unknown q)

-- Open where the query is there and open, else the reply of an entry
abbrev pub IsCollected : List (Entry Meaning) → Plain → ℕ → Reply → Type 0
IsCollected past m q reply.Open = (x : Query) × (slice_get m.queries q ≡ Some x) × IsOpen past x
IsCollected past m q r = AnswersCollect past m q r

-- Taking

abbrev pub its_end : Option Settled → Option Ending
its_end o = option_map (λ x. x.end) o

abbrev pub end_at : List (Option Settled) → ℕ → Option Ending
end_at ends k = option_and_then its_end (slice_get ends k)

-- the end of a unit's link query
abbrev pub link_end : Plain → List (Option Settled) → ℕ → Option Ending
link_end m ends u = option_and_then (λ x. option_and_then (end_at ends) x.query) (slice_get m.units u)

abbrev pub finish_reply : UnitId → Ending → Reply
finish_reply u (Found matches) = reply.Finish u (finishing.Bound matches)
finish_reply u (Lost i) = reply.Finish u (finishing.Lost i)

-- the oldest job's reply
abbrev pub job_reply : Plain → List (Option Settled) → Job → Option Reply
job_reply m ends (job.Start u) = Some (reply.Start u)
job_reply m ends (job.Finish u) = option_map (finish_reply u) (link_end m ends u.0)
