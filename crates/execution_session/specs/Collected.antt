-- The replies to a collect.
use Rattle.std.specs.Prelude.{Bool, true, false}
use Rattle.orc_ids.specs.declared.ids.QueryId.{QueryId}
use Rattle.session_model.specs.declared.entry.Reply.{Reply}
use Rattle.session_model.specs.declared.entry.Reply.TheVariants as reply
use Rattle.query_book.specs.declared.ends.Collected.{Collected}
use Rattle.query_book.specs.declared.ends.Collected.TheVariants as answer

-- what is known of the end of query q
abbrev pub end_reply : QueryId → Collected → Reply
end_reply q answer.Unknown = reply.Unknown q
end_reply q answer.Open = reply.Open
end_reply q (answer.Failed at i) = reply.Lost at i
end_reply q (answer.Found at list) = reply.Found at list

-- the query hasn't settled
abbrev pub is_open : Reply → Bool
is_open reply.Open = true
is_open _ = false
