-- What a frontier is: of each instance whether it was emitted, and what it depends on then; what became
-- ready at the last emission; for how many instances there is room; and what the last failure hit.
use Rattle.std.specs.Prelude.{◌≡◌, ℕ, Bool, true, false, Option, Some, None, ◌⊎◌, List, [], map, length, slice_get, Contains}
use Rattle.graph_walks.specs.Walks as walks
use Rattle.orc_ids.specs.declared.ids.InstId.{InstId}
use Rattle.orc_ids.specs.declared.groups.Group.{Group}

-- not emitted, or emitted with its dependencies
pub data Entry : Type 0 where
  Absent : Entry
  Emitted : List ℕ → Entry

pub record Waiting : Type 0 where
  pub entries : List Entry
  pub told : List InstId
  pub places : ℕ
  pub hits : List InstId

-- numbers past the end aren't emitted
abbrev pub or_absent : Option Entry → Entry
or_absent None = Absent
or_absent (Some e) = e

abbrev pub entry_at : List Entry → ℕ → Entry
entry_at entries i = or_absent (slice_get entries i)

abbrev pub deps_of_entry : Entry → List ℕ
deps_of_entry Absent = []
deps_of_entry (Emitted deps) = deps

abbrev pub is_emitted : Entry → Bool
is_emitted Absent = false
is_emitted (Emitted deps) = true

-- what an instance depends on
abbrev pub next_of : List Entry → ℕ → List ℕ
next_of entries i = deps_of_entry (entry_at entries i)

abbrev pub is_emitted_at : List Entry → ℕ → Bool
is_emitted_at entries i = is_emitted (entry_at entries i)

-- i reaches j: every instance reaches itself
abbrev pub Reaches : List Entry → ℕ → ℕ → Type 0
Reaches entries i j = walks.Reaches (next_of entries) i j

-- everything that i reaches is emitted
pub record IsReady (entries : List Entry) (i : ℕ) : Type 0 where
  pub each : (j : ℕ) → Reaches entries i j → is_emitted_at entries j ≡ true

-- the instances that i reaches and that are not emitted, each once
pub record ArePending (entries : List Entry) (i : ℕ) (pending : List ℕ) : Type 0 where
  pub all : (j : ℕ) → Reaches entries i j → is_emitted_at entries j ≡ false → Contains pending j
  pub only : (j : ℕ) → Contains pending j → Reaches entries i j × (is_emitted_at entries j ≡ false)
  pub once : (j k n : ℕ) → slice_get pending j ≡ Some n → slice_get pending k ≡ Some n → j ≡ k

-- they are so many
pub record IsPendingCount (entries : List Entry) (i count : ℕ) : Type 0 where
  pub pending : List ℕ
  pub are : ArePending entries i pending
  pub count_is : length pending ≡ count

-- the numbers of instances
abbrev pub numbers : List InstId → List ℕ
numbers ids = map (λ i. i.0) ids

-- an instance is a member of a group
pub record IsMember (groups : List Group) (i : ℕ) : Type 0 where
  pub at : ℕ
  pub group : Group
  pub is : slice_get groups at ≡ Some group
  pub member : Contains group.members (record { 0 = i })

-- no instance is a member of two groups
abbrev pub AreApart : List Group → Type 0
AreApart groups = (j k : ℕ) (a b : Group) (m : InstId) → slice_get groups j ≡ Some a → slice_get groups k ≡ Some b → Contains a.members m → Contains b.members m → j ≡ k

-- no member of a group is emitted
abbrev pub AreAbsent : List Entry → List Group → Type 0
AreAbsent entries groups = (i : ℕ) → IsMember groups i → entry_at entries i ≡ Absent

-- the members are emitted with what their group depends on, and all else is as before
pub record AreEmitted (groups : List Group) (old new : List Entry) : Type 0 where
  pub members : (k : ℕ) (group : Group) (m : InstId) → slice_get groups k ≡ Some group → Contains group.members m → entry_at new m.0 ≡ Emitted (numbers group.deps)
  pub others : (i : ℕ) → (IsMember groups i → ⊥) → entry_at new i ≡ entry_at old i

-- the instances that are ready and weren't, each once
pub record IsNews (old new : List Entry) (told : List InstId) : Type 0 where
  pub all : (i : ℕ) → IsReady new i → (IsReady old i → ⊥) → Contains told (record { 0 = i })
  pub only : (m : InstId) → Contains told m → IsReady new m.0 × (IsReady old m.0 → ⊥)
  pub once : (j k : ℕ) (m : InstId) → slice_get told j ≡ Some m → slice_get told k ≡ Some m → j ≡ k

-- a failure of some instances hits what reaches one of them and isn't ready
pub record IsHit (entries : List Entry) (roots : List InstId) (i : ℕ) : Type 0 where
  pub unready : IsReady entries i → ⊥
  pub root : InstId
  pub chosen : Contains roots root
  pub reaches : Reaches entries i root.0

-- the instances that are hit, each once
pub record AreHits (entries : List Entry) (roots hits : List InstId) : Type 0 where
  pub all : (i : ℕ) → IsHit entries roots i → Contains hits (record { 0 = i })
  pub only : (m : InstId) → Contains hits m → IsHit entries roots m.0
  pub once : (j k : ℕ) (m : InstId) → slice_get hits j ≡ Some m → slice_get hits k ≡ Some m → j ≡ k

-- what is hit isn't emitted any more, and an instance is as before or it is hit
pub record AreFailed (old new : List Entry) (roots : List InstId) : Type 0 where
  pub hit : (i : ℕ) → IsHit old roots i → entry_at new i ≡ Absent
  pub others : (i : ℕ) → (entry_at new i ≡ entry_at old i) ⊎ IsHit old roots i
