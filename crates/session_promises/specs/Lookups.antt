-- When a lookup ends, and with what (ORC: AsynchronousSymbolQuery).
use Rattle.std.specs.Prelude.{◌≡◌, ◌≢◌, ◌⊎◌, ⊤, ℕ, ◌+◌, ◌<◌, ◌≤◌, true, false, List, slice_get, take, length, All, Option, Some, None}
use Rattle.orc_ids.specs.declared.ids.InstId.{InstId}
use Rattle.orc_ids.specs.declared.ids.QueryId.{QueryId}
use Rattle.orc_ids.specs.declared.lookup.Level.{Level}
use Rattle.session_model.specs.Calls.{Lookup, lookup_event}
use Rattle.session_model.specs.Change.{matched}
use Rattle.session_model.specs.Meaning.{Bindings, Meaning}
use Rattle.session_model.specs.Plain.{address_at}
use Rattle.session_model.specs.Query.{addresses, all_at, first_lost}
use Rattle.session_model.specs.Reach.{IsReady}
use Rattle.session_model.specs.State.{state}
use Rattle.session_model.specs.declared.entry.Entry.{Entry}
use Rattle.session_model.specs.declared.entry.Reply.TheVariants as reply
use Rattle.session_model.specs.declared.rows.InstRow.{InstRow}

-- entry n + 1 asks for the names of the lookup and lodges this query, and this is what they match by the entries before it; a weakly
-- referenced name may match nothing
pub record AreMatched (h : List (Entry Meaning)) (l : Lookup) (q : QueryId) (n : ℕ) (found : List (Option InstId)) : Type 0 where
  pub ask : Entry Meaning
  pub there : slice_get h n ≡ Some ask
  pub asks : ask.event ≡ lookup_event l
  pub lodges : (ask.reply ≡ reply.Done q) ⊎ (ask.reply ≡ reply.Pending q)
  pub are : found ≡ matched (state (take n h)) l.order l.wanted

-- after none of the entries from m to before n is each matched instance at the level, or one of them lost
pub record AreWaiting (h : List (Entry Meaning)) (level : Level) (found : List (Option InstId)) (m n : ℕ) : Type 0 where
  pub below : (k : ℕ) → m ≤ k → k < n → all_at (state (take k h)).rows level found ≡ false
  pub unlost : (k : ℕ) → m ≤ k → k < n → first_lost (state (take k h)).rows found ≡ None

-- from entry m on, entry n is the first after which each matched instance is at the level; none of them was lost by then
pub record AreFirstAt (h : List (Entry Meaning)) (level : Level) (found : List (Option InstId)) (m n : ℕ) : Type 0 where
  pub from : m ≤ n
  pub within : n ≤ length h
  pub waiting : AreWaiting h level found m n
  pub here : all_at (state (take n h)).rows level found ≡ true
  pub unlost : first_lost (state (take n h)).rows found ≡ None

-- from entry m on, entry n is the first after which a matched instance has failed or is gone, and this is the first of them in the
-- order of the names; before it they weren't all at the level
pub record IsFirstLost (h : List (Entry Meaning)) (level : Level) (found : List (Option InstId)) (m n : ℕ) (lost : InstId) : Type 0 where
  pub from : m ≤ n
  pub within : n ≤ length h
  pub waiting : AreWaiting h level found m n
  pub here : first_lost (state (take n h)).rows found ≡ Some lost

-- calls are entries of the history, each with its number, from 1
abbrev pub AreCallsOf : List (Entry Meaning) → List (ℕ × Entry Meaning) → Type 0
AreCallsOf h cs = All (λ c. (n : ℕ) × (c.0 ≡ n + 1) × (slice_get h n ≡ Some c.1)) cs

-- A lookup whose query q was answered these addresses at entry n: they are those that its matches have after that entry, which is the first
-- one after its ask that leaves all of them at its level.
pub record IsFoundAt (h : List (Entry Meaning)) (l : Lookup) (q : QueryId) (n : ℕ) (matches : Bindings) : Type 0 where
  pub asked : ℕ
  pub found : List (Option InstId)
  pub matched : AreMatched h l q asked found
  pub first : AreFirstAt h l.level found (asked + 1) n
  pub are : matches ≡ addresses (state (take n h)).rows found

-- a lookup whose query q failed at entry n for this instance
pub record IsFailedAt (h : List (Entry Meaning)) (l : Lookup) (q : QueryId) (n : ℕ) (lost : InstId) : Type 0 where
  pub asked : ℕ
  pub found : List (Option InstId)
  pub matched : AreMatched h l q asked found
  pub first : IsFirstLost h l.level found (asked + 1) n lost

-- a match with an address other than 0 is ready, at it
abbrev pub StandsReady : List InstRow → Option (InstId × ℕ) → Type 0
StandsReady rows None = ⊤
StandsReady rows (Some p) = p.1 ≢ 0 → IsReady rows p.0.0 × (address_at rows p.0.0 ≡ Some p.1)
