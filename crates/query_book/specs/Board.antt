-- Which queries an instance has to do with, and what is known of each query.
use Rattle.std.specs.Prelude.{◌≡◌, ◌≢◌, ℕ, ◌+◌, ◌<◌, ◌≤◌, ◌⊎◌, true, false, List, [], ◌∷◌, Option, None, Some, set, map, ◌++◌, length, slice_get, if◌then◌else◌}
use Rattle.orc_ids.specs.declared.ids.InstId.{InstId}
use Rattle.orc_ids.specs.declared.lookup.Level.{Level}
use Rattle.orc_ids.specs.declared.lookup.Level.TheVariants.{Resolved, Ready}
use Rattle.session_model.specs.Query.{Stand}
use Rattle.session_model.specs.declared.rows.Query.{Query}
use Rattle.query_book.specs.Stands.{at_level, is_lost, is_matched, is_among, is_met, missing, missing_of}
use Rattle.query_book.specs.Lists.{HasLists}
use Rattle.query_book.specs.Counts.{count, total, list_at}
use Rattle.query_book.specs.Marks.{Marking, left_at, found_at, one_if}
use Rattle.query_book.specs.declared.board.Board.{Board}

-- the lists of the queries that wait for an instance to come to a level
abbrev pub waiting : Board → Level → List (List ℕ)
waiting b Resolved = b.resolved.lists
waiting b Ready = b.ready.lists

-- a query is added to the list of each of these instances
abbrev pub listed : ℕ → List (Option InstId) → List (List ℕ) → List (List ℕ)
listed query [] lists = lists
listed query (None ∷ matched) lists = listed query matched lists
listed query (Some i ∷ matched) lists = listed query matched (set lists i.0 (query ∷ list_at lists i.0))

-- some queries of the list of an instance were taken out, and each has one match less to wait for
pub record Arriving (at : ℕ) (old new : List (List ℕ)) (before after : Marking) : Type 0 where
  pub size : length after.marks ≡ length before.marks
  pub others : (i : ℕ) → i ≢ at → list_at new i ≡ list_at old i
  pub fewer : (k : ℕ) → count k (list_at new at) ≤ count k (list_at old at)
  pub totals : (k : ℕ) → total k new + count k (list_at old at) ≡ total k old + count k (list_at new at)
  pub lefts : (k : ℕ) → left_at after.marks k + count k (list_at old at) ≡ left_at before.marks k + count k (list_at new at)
  pub kept : (k : ℕ) → found_at before.marks k ≡ true → found_at after.marks k ≡ true
  pub found : (k : ℕ) → found_at after.marks k ≡ true → (found_at before.marks k ≡ true) ⊎ (left_at after.marks k ≡ 0)
  pub waits : (k : ℕ) → (found_at before.marks k ≡ false → 0 < left_at before.marks k) → found_at after.marks k ≡ false → 0 < left_at after.marks k
  pub met : (k : ℕ) → count k after.met + one_if (found_at before.marks k) ≡ count k before.met + one_if (found_at after.marks k)

-- some queries of the list of an instance were taken out, and are met
pub record Losing (at : ℕ) (old new : List (List ℕ)) (before after : Marking) : Type 0 where
  pub size : length after.marks ≡ length before.marks
  pub others : (i : ℕ) → i ≢ at → list_at new i ≡ list_at old i
  pub fewer : (k : ℕ) → count k (list_at new at) ≤ count k (list_at old at)
  pub lefts : (k : ℕ) → left_at after.marks k ≡ left_at before.marks k
  pub kept : (k : ℕ) → found_at before.marks k ≡ true → found_at after.marks k ≡ true
  pub found : (k : ℕ) → found_at after.marks k ≡ true → (found_at before.marks k ≡ true) ⊎ (0 < count k (list_at old at))
  pub taken : (k : ℕ) → count k (list_at new at) < count k (list_at old at) → found_at after.marks k ≡ true
  pub met : (k : ℕ) → count k after.met + one_if (found_at before.marks k) ≡ count k before.met + one_if (found_at after.marks k)

-- the lists and marks are those of these queries
pub record Watches (qs : List Query) (b : Board) : Type 0 where
  pub size : length b.marks.marks ≡ length qs
  pub heard_of : (k i : ℕ) (q : Query) → slice_get qs k ≡ Some q → found_at b.marks.marks k ≡ false → is_matched i q.matched ≡ true → 0 < count k (list_at b.all.lists i)
  pub own : (k i : ℕ) → 0 < count k (list_at b.all.lists i) → (q : Query) × (slice_get qs k ≡ Some q) × (is_matched i q.matched ≡ true)
  pub own_waiting : (level : Level) (k i : ℕ) → 0 < count k (list_at (waiting b level) i) → (q : Query) × (slice_get qs k ≡ Some q) × (q.level ≡ level) × (is_matched i q.matched ≡ true)
  pub left : (k : ℕ) (q : Query) → slice_get qs k ≡ Some q → left_at b.marks.marks k ≡ total k (waiting b q.level)
  pub waits : (k : ℕ) → k < length qs → found_at b.marks.marks k ≡ false → 0 < left_at b.marks.marks k

-- what changed since then: matches came to their level, and queries were found to be met
pub record Hears (s : ℕ → Stand) (qs : List Query) (old new : Board) : Type 0 where
  pub fewer : (level : Level) (k i : ℕ) → count k (list_at (waiting new level) i) ≤ count k (list_at (waiting old level) i)
  pub fewer_all : (k i : ℕ) → count k (list_at new.all.lists i) ≤ count k (list_at old.all.lists i)
  pub came : (level : Level) (k i : ℕ) → count k (list_at (waiting new level) i) < count k (list_at (waiting old level) i) → at_level s level i ≡ true
  pub kept : (k : ℕ) → found_at old.marks.marks k ≡ true → found_at new.marks.marks k ≡ true
  pub found : (k : ℕ) → found_at new.marks.marks k ≡ true → (found_at old.marks.marks k ≡ true) ⊎ ((left_at new.marks.marks k ≡ 0) ⊎ ((i : ℕ) × (q : Query) × (slice_get qs k ≡ Some q) × (is_matched i q.matched ≡ true) × (is_lost s i ≡ true)))
  pub less : (k : ℕ) → left_at new.marks.marks k ≤ left_at old.marks.marks k
  pub met : (k : ℕ) → count k new.marks.met + one_if (found_at old.marks.marks k) ≡ count k old.marks.met + one_if (found_at new.marks.marks k)

-- the lists are those of these queries still
pub record IsHearing (s : ℕ → Stand) (qs : List Query) (old new : Board) : Type 0 where
  pub watches : Watches qs new
  pub hears : Hears s qs old new

-- no query waits for what has come to its level, and none has to be told of what is lost
pub record IsHeard (s : ℕ → Stand) (i : ℕ) (b : Board) : Type 0 where
  pub at : (level : Level) → at_level s level i ≡ true → list_at (waiting b level) i ≡ []
  pub lost : is_lost s i ≡ true → list_at b.all.lists i ≡ []

-- the queries of some instances were told how these stand
pub record AreHeard (s : ℕ → Stand) (qs : List Query) (changed : List InstId) (old new : Board) : Type 0 where
  pub hearing : IsHearing s qs old new
  pub each : (i : ℕ) → is_among i changed ≡ true → IsHeard s i new

-- there is room for a query that matched these
pub record HasRoom (matched : List (Option InstId)) (b : Board) : Type 0 where
  pub resolved : HasLists b.resolved.lists matched
  pub ready : HasLists b.ready.lists matched
  pub all : HasLists b.all.lists matched
  pub resolved_room : length matched ≤ b.resolved.spare
  pub ready_room : length matched ≤ b.ready.spare
  pub all_room : length matched ≤ b.all.spare
  pub mark : b.marks.has_room ≡ true

-- the lists and marks are the same
pub record IsSame (old new : Board) : Type 0 where
  pub lists : (level : Level) (i : ℕ) → list_at (waiting new level) i ≡ list_at (waiting old level) i
  pub totals : (level : Level) (k : ℕ) → total k (waiting new level) ≡ total k (waiting old level)
  pub all : (i : ℕ) → list_at new.all.lists i ≡ list_at old.all.lists i
  pub marks : new.marks.marks ≡ old.marks.marks
  pub met : new.marks.met ≡ old.marks.met

-- a query was added to the lists of all that it waits for
pub record IsWaiting (s : ℕ → Stand) (query : ℕ) (q : Query) (old new : Board) : Type 0 where
  pub here : waiting new q.level ≡ listed query (map (missing_of s q.level) q.matched) (waiting old q.level)
  pub other : (l : Level) → (l ≡ q.level) ⊎ (waiting new l ≡ waiting old l)
  pub all : new.all ≡ old.all
  pub marks : new.marks ≡ old.marks

-- the next query is watched
pub record IsWatched (s : ℕ → Stand) (query : ℕ) (q : Query) (old new : Board) : Type 0 where
  pub here : waiting new q.level ≡ listed query (map (missing_of s q.level) q.matched) (waiting old q.level)
  pub other : (l : Level) → (l ≡ q.level) ⊎ (waiting new l ≡ waiting old l)
  pub all : new.all.lists ≡ listed query q.matched old.all.lists
  pub marks : new.marks.marks ≡ old.marks.marks ++ record { left = length (missing s q); found = is_met s q } ∷ []
  pub met : new.marks.met ≡ (if is_met s q then old.marks.met ++ query ∷ [] else old.marks.met)
