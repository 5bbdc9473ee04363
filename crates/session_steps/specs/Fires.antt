-- Which queries settle at the last entry of a history, and who is told.
use Rattle.std.specs.Prelude.{◌≡◌, ℕ, ◌+◌, ◌≤◌, ◌↔◌, Bool, true, false, ◌==◌, List, [], ◌∷◌, slice_get, flat_map, Option, None, option_map, option_and_then, if◌then◌else◌}
use Rattle.std.specs.Prelude.{◌++◌, Result, Ok, Err}
use Rattle.std.specs.List.{list_any}
use Rattle.std.specs.Option.{option_map_or}
use Rattle.session_model.specs.Meaning.{Meaning}
use Rattle.session_model.specs.Plain.{Plain}
use Rattle.session_model.specs.Query.{ending}
use Rattle.orc_ids.specs.declared.lookup.Stop.{Stop}
use Rattle.session_model.specs.State.{state, plain_history}
use Rattle.session_model.specs.declared.entry.Entry.{Entry}
use Rattle.session_model.specs.declared.entry.Reply.{Reply}
use Rattle.session_model.specs.declared.entry.Reply.TheVariants as reply
use Rattle.session_steps.specs.Log.{Log}
use Rattle.notifiers.specs.declared.notice.Unheard.{Unheard}
use Rattle.notifiers.specs.declared.notice.Notice.{Notice}
use Rattle.query_book.specs.Ends.{told_end}
use Rattle.query_book.specs.Rows.{notices}
use Rattle.closure_laws.specs.Quiet.{SettlesNow}

-- from k on, each number greater than the one before
abbrev pub AreRising : ℕ → List ℕ → Type 0
AreRising k [] = Unit {0}
AreRising k (n ∷ ns) = (k ≤ n) × AreRising (n + 1) ns

abbrev pub is_one_of : ℕ → List ℕ → Bool
is_one_of k ns = list_any (λ n. n == k) ns

-- the notifier of query k, if it has one, with the end that the session gives the query
abbrev pub notice_of : {N : Type 0} → Plain → List (Option (Unheard N)) → ℕ → List (Notice N)
notice_of m armed k = option_map_or
    (λ q. notices (option_and_then (λ o. o) (slice_get armed k)) (record { query = record { 0 = k }; end = told_end m.entries (ending m.rows q) }))
    (slice_get m.queries k) []

-- Just the queries that settle at the last entry are told their ends, in rising number; the others keep their
-- notifiers.
pub record AreFires {N : Type 0} (h : List (Entry Meaning)) (armed left : List (Option (Unheard N))) (fires : List (Notice N)) : Type 0 where
  pub numbers : List ℕ
  pub rising : AreRising 0 numbers
  pub settle : (k : ℕ) → (is_one_of k numbers ≡ true) ↔ SettlesNow h k
  pub told : fires ≡ flat_map (notice_of (state h) armed) numbers
  pub others : (k : ℕ) → slice_get left k ≡ option_map (λ o. if is_one_of k numbers then None else o) (slice_get armed k)

-- what an event has told that lodged no query; one that was stopped tells nobody
abbrev pub FiresBy : {U N : Type 0} → (U → Meaning) → Result Reply Stop → Log U N → Log U N → List (Notice N) → Type 0
FiresBy means (Ok r) old new fires = AreFires (plain_history means new.journal) old.armed new.armed fires
FiresBy means (Err stop) old new fires = (fires ≡ []) × (new.armed ≡ old.armed)

-- a query is lodged
abbrev pub is_lodged : Reply → Bool
is_lodged (reply.Done q) = true
is_lodged (reply.Pending q) = true
is_lodged _ = false

-- what a lookup has told: its query, if one was lodged, has this notifier
abbrev pub FiresAsked : {U N : Type 0} → (U → Meaning) → Option (Unheard N) → Result Reply Stop → Log U N → Log U N → List (Notice N) → Type 0
FiresAsked means then' (Ok r) old new fires = AreFires (plain_history means new.journal) (if is_lodged r then old.armed ++ then' ∷ [] else old.armed) new.armed fires
FiresAsked means then' (Err stop) old new fires = (fires ≡ []) × (new.armed ≡ old.armed)
