-- What a search backwards keeps.
use Rattle.std.specs.Prelude.{◌≡◌, ℕ, ◌+◌, ◌<◌, ◌≤◌, Bool, true, false, List, [], ◌∷◌, ◌++◌, length, slice_index, slice_index_or, suc, if◌then◌else◌, cond, Contains, ◌⊎◌}
use Rattle.graph_walks.specs.Walks.{Reaches}
use Rattle.orc_ids.specs.declared.ids.InstId.{InstId}
use Rattle.block_groups.specs.Lists.{row}
use Rattle.block_groups.specs.declared.backwards.Search.{Search}

-- the search came to the block
abbrev pub is_seen : Search → ℕ → Bool
is_seen s b = slice_index_or s.seen.items b false

-- how many flags are not set
abbrev pub unset : List Bool → ℕ
unset [] = 0
unset (x ∷ xs) = cond x (unset xs) (suc (unset xs))

-- exactly what is flagged is listed, and the list is no longer than the blocks are many
pub record IsNoted (s : Search) : Type 0 where
  pub flagged : (k : ℕ) → k < length s.found.items → is_seen s (slice_index s.found.items k) ≡ true
  pub listed : (b : ℕ) → is_seen s b ≡ true → Contains s.found.items b
  pub room : length s.found.items + unset s.seen.items ≤ length s.seen.items

-- a search that came to these blocks too
pub record IsMore (old : Search) (blocks : List ℕ) (new : Search) : Type 0 where
  pub whole : length new.seen.items ≡ length old.seen.items
  pub stays : (b : ℕ) → is_seen old b ≡ true → is_seen new b ≡ true
  pub here : (b : ℕ) → Contains blocks b → is_seen new b ≡ true
  pub only : (b : ℕ) → is_seen new b ≡ true → (is_seen old b ≡ true) ⊎ Contains blocks b
  pub longer : length old.found.items ≤ length new.found.items
  pub front : (k : ℕ) → k < length old.found.items → slice_index new.found.items k ≡ slice_index old.found.items k

-- the search came to the block, over the lists, from one that it came to before
pub record IsCaused (lists : List (List ℕ)) (old : Search) (b : ℕ) : Type 0 where
  pub by : ℕ
  pub before : is_seen old by ≡ true
  pub reaches : Reaches (row lists) by b

-- a search that came to all that is reached over the lists, and to nothing else
pub record IsSpread (lists : List (List ℕ)) (old new : Search) : Type 0 where
  pub whole : length new.seen.items ≡ length old.seen.items
  pub stays : (b : ℕ) → is_seen old b ≡ true → is_seen new b ≡ true
  pub caused : (b : ℕ) → is_seen new b ≡ true → IsCaused lists old b
  pub closed : (a b : ℕ) → is_seen new a ≡ true → Contains (row lists a) b → is_seen new b ≡ true

-- a search that came to nothing
pub record IsClear (s : Search) : Type 0 where
  pub none : (b : ℕ) → is_seen s b ≡ false
  pub found : s.found.items ≡ []

-- each block that the search came to has the instance at the end of its list
pub record AreHandedOut (s : Search) (i : InstId) (old new : List (List InstId)) : Type 0 where
  pub whole : length new ≡ length old
  pub rows : (b : ℕ) → row new b ≡ (if is_seen s b then row old b ++ i ∷ [] else row old b)
