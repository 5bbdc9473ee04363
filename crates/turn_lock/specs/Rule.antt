-- What the table of a turn keeps: its words are the count of entries, the turn and the posts, and its one slot is the value's place.
-- The turn word is 0 where the turn is free, 1 where a seat has it, and 2 where it was closed for good.
use Rattle.std.specs.Prelude.{◌≡◌, ◌≢◌, ℕ, ◌<◌, ◌≤◌, List, [], ◌∷◌, length, true, All, AllPairs, Some, None, Option}
use mathlib.Core.Option.{some}
use lib.ListN.{get_elem?}
use Rattle.atomic_table.specs.Table.{State}
use Rattle.turn_lock.specs.declared.view.View.{View}
use Rattle.turn_lock.specs.Lists.{StartsWith, entries_of}
use Rattle.turn_lock.specs.Views.{handed_on}

-- what a number is to the view that keeps it: the seat's own, one of a seat that ended in it, or one that it may still give
pub data Use : Type 0 where
  owned : Use
  took_in : Use
  spared : Use

module _ {E : Type 0} where
  -- the numbers of a view all differ: its own, those that ended in it, and those that it may still give
  abbrev pub Differ : View E → Type 0
  Differ v = AllPairs (λ p q. p.0 ≢ q.0) (handed_on v)

module _ {E : Type 0} (seat_of : E → ℕ) where
  -- what a list of entries is by the numbers of a view
  pub record Accounts (log : List E) (v : View E) : Type 0 where
    -- the entries of its own number are its mine
    pub mine : entries_of seat_of v.number log ≡ v.mine
    -- those of a number that ended in it are the list kept there
    pub ended : All (λ p. entries_of seat_of p.0 log ≡ p.1) v.ended
    -- a spare number has none
    pub spare : (number : ℕ) → v.spare_from ≤ number → number < v.spare_to → entries_of seat_of number log ≡ []
    -- every entry's number is below the number of seats
    pub below : All (λ e. seat_of e < v.seats) log

  -- what the rule says of a view's numbers: each is below the number of seats, and `holder` says that this view has it, and for what use,
  -- so no other view has it, nor has this one it twice
  pub record Numbers (seats : ℕ) (holder : ℕ → ℕ × Use) (place : ℕ) (v : View E) : Type 0 where
    -- its own number
    pub own : (v.number < seats) × (holder v.number ≡ (place, owned))
    -- those of the seats that ended in it, which differ among themselves
    pub ended : All (λ p. (p.0 < seats) × (holder p.0 ≡ (place, took_in))) v.ended
    pub apart : AllPairs (λ p q. p.0 ≢ q.0) v.ended
    -- those that it may still give
    pub spare : (number : ℕ) → v.spare_from ≤ number → number < v.spare_to → (number < seats) × (holder number ≡ (place, spared))
    -- it knows the number of seats
    pub seats_are : v.seats ≡ seats

  -- what the rule says of one view: the view at this place, where the history is log, the turn word is turn, and the view at `keeper` has the turn
  pub record Fits (seats : ℕ) (log : List E) (turn : ℕ) (posts : List ℕ) (keeper : ℕ) (holder : ℕ → ℕ × Use) (place : ℕ) (v : View E) : Type 0 where
    -- what it has seen is a beginning of the history
    pub seen : StartsWith log v.seen
    -- and so is each list that it was told
    pub told : All (StartsWith log) v.told
    -- a view with the turn is the one at `keeper`, and has seen the whole history; so at most one has it
    pub has_turn : v.turn ≡ true → (place ≡ keeper) × (turn ≡ 1) × (v.seen ≡ log)
    -- a view that closed the turn left the word so
    pub has_closed : v.shuts ≡ true → turn ≡ 2
    -- a post that it noted holds what it noted
    pub noted : All (λ p. (get_elem? posts p.0 ≡ some p.1) × (p.1 ≢ 0)) v.noted
    -- a seat has its numbers for itself, and its lists are the history's entries of these
    pub numbers : v.numbered ≡ true → Numbers seats holder place v
    -- and it has seen all entries of its own number
    pub own : v.numbered ≡ true → entries_of seat_of v.number v.seen ≡ v.mine
    pub accounts : v.numbered ≡ true → Accounts log v

module _ {T E : Type 0} (history : T → List E) (seat_of : E → ℕ) (lawful : List E → Type 0) (posted : List E → ℕ → ℕ → Type 0) where
  -- the rule, of a turn opened for this many seats with this many posts
  pub record Kept (key : ℕ × ℕ) (s : State (Option T) (View E)) : Type 0 where
    -- the history: that of the value at home, or while the value is out what the view with the turn has seen
    pub log : List E
    -- the turn word
    pub turn : ℕ
    -- the words behind it
    pub posts : List ℕ
    -- the place of the view that has the turn, while one has it
    pub keeper : ℕ
    -- for each number the place of the view that has it, and the use
    pub holder : ℕ → ℕ × Use
    -- the words are the count, which is the history's length, the turn, and the posts
    pub words : s.words ≡ length log ∷ turn ∷ posts
    -- there are as many posts as were asked for
    pub post_count : length posts ≡ key.1
    -- so the slot is empty only while a view has the turn, or once nothing is at home
    pub turn_is : turn < 3
    -- the history is lawful
    pub legal : lawful log
    -- a post is empty, or the history shows what stands there
    pub filled : (k v : ℕ) → get_elem? posts k ≡ some v → v ≢ 0 → posted log k v
    -- while the turn is free the value is at home, and its history is the history
    pub home : turn ≡ 0 → (x : T) × (get_elem? s.homes 0 ≡ some (some (Some x))) × (history x ≡ log)
    -- while a seat has the turn, it is the one at `keeper`
    pub taken : turn ≡ 1 → (v : View E) × (get_elem? s.views keeper ≡ some v) × (v.turn ≡ true)
    -- once the turn is closed nothing is at home
    pub closed : turn ≡ 2 → get_elem? s.homes 0 ≡ some (some None)
    -- each view fits
    pub each : (place : ℕ) (v : View E) → get_elem? s.views place ≡ some v → Fits seat_of key.0 log turn posts keeper holder place v
