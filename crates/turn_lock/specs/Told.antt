-- What a step tells its seat.
use Rattle.std.specs.Prelude.{◌≡◌, ◌≢◌, ℕ, ◌-◌, List, [], ◌∷◌, ◌++◌, length, Option, Some, All}
use Rattle.atomic_table.specs.Table.{Me, Step}
use Rattle.turn_lock.specs.declared.view.View.{View}
use Rattle.turn_lock.specs.Lists.{StartsWith, entries_of}
use Rattle.turn_lock.specs.Rule.{Accounts, Differ}
use Rattle.turn_lock.specs.Views.{sees, takes_turn, finds_taken, adds, gives_turn, closes, notes, finds_post}

module _ {E : Type 0} (seat_of : E → ℕ) (lawful : List E → Type 0) (posted : List E → ℕ → ℕ → Type 0) where
  -- what the history so far, log, is to a seat that had the view v and now sees it
  pub record Shows (log : List E) (v : View E) : Type 0 where
    -- it begins with what the seat had seen
    pub later : StartsWith log v.seen
    -- and with each list that it was told
    pub told : All (StartsWith log) v.told
    -- of the seat's own entries the seat had seen all
    pub own : entries_of seat_of v.number v.seen ≡ v.mine
    -- it is lawful
    pub legal : lawful log
    -- its entries are those of the seat's lists, as far as they have the seat's numbers
    pub accounts : Accounts seat_of log v
    -- these numbers all differ
    pub differ : Differ v
    -- it shows what the seat has noted of posts
    pub noted : All (λ p. posted log p.0 p.1) v.noted

  -- A seat that knew v found x in post k, then saw the history again, and knows w.
  abbrev pub Reads : ℕ → ℕ → View E → View E → Type 0
  Reads k x v w = (w ≡ sees w.seen (finds_post k x v)) × Shows w.seen (finds_post k x v)

-- the post that is this word
abbrev pub post_at : ℕ → ℕ
post_at i = i - 2

-- what a seat at the table knows, and the value that it holds
abbrev Sat : Type 0 → Type 0 → Type 0
Sat T E = Me (Option T) (View E)

module _ {T E : Type 0} where
  -- a load of the count found the length of the history
  abbrev pub Counted : (E → ℕ) → (List E → Type 0) → (List E → ℕ → ℕ → Type 0) → Step (Option T) → Sat T E → ℕ → Sat T E → Type 0
  Counted seat_of lawful posted st m n m' = (log : List E) × (m' ≡ (sees log m.0, m.1)) × (n ≡ length log) × Shows seat_of lawful posted log m.0

  -- a compare-exchange of the turn word, 0 to 1, found it free and took the value out, or found the turn taken
  abbrev pub Took : (T → List E) → (E → ℕ) → (List E → Type 0) → (List E → ℕ → ℕ → Type 0) → Step (Option T) → Sat T E → ℕ → Sat T E → Type 0
  Took history seat_of lawful posted st m n m' =
      (n ≡ 0 → (x : T) × (m' ≡ (takes_turn (history x) m.0, (0, Some x) ∷ m.1)) × Shows seat_of lawful posted (history x) m.0)
      × (n ≢ 0 → m' ≡ (finds_taken m.0, m.1))

  -- a fetch-and-add of the count made the history `written`, which is one entry of this seat more
  abbrev pub Added : (E → ℕ) → List E → Step (Option T) → Sat T E → ℕ → Sat T E → Type 0
  Added seat_of written st m n m' = (e : E) × (written ≡ m.0.seen ++ e ∷ []) × (m' ≡ (adds e m.0, m.1)) × (n ≡ length m.0.seen) × Accounts seat_of written (adds e m.0)

  -- a store of x in a post, which the seat has noted
  abbrev pub Posted : Step (Option T) → Sat T E → ℕ → Sat T E → Type 0
  Posted st m n m' = m' ≡ (notes (post_at st.word) st.first m.0, m.1)

  -- A load of a post found n there, which is what the seat had noted of it, if it had.
  abbrev pub FoundPost : Step (Option T) → Sat T E → ℕ → Sat T E → Type 0
  FoundPost st m n m' = (m' ≡ (finds_post (post_at st.word) n m.0, m.1)) × All (λ p. p.0 ≡ post_at st.word → n ≡ p.1) m.0.noted

  -- a store of 0 in the turn word, which took the value home
  abbrev pub Gave : Step (Option T) → Sat T E → ℕ → Sat T E → Type 0
  Gave st m n m' = m' ≡ (gives_turn m.0, [])

  -- a store of 2 in the turn word, which left nothing at home
  abbrev pub Closed : Step (Option T) → Sat T E → ℕ → Sat T E → Type 0
  Closed st m n m' = m' ≡ (closes m.0, [])
