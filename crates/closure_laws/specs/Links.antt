-- What the link query of a unit matched.
use Rattle.std.specs.Prelude.{◌≡◌, ℕ, ◌+◌, ◌≤◌, true, List, length, take, slice_get, Option, Some, None}
use Rattle.orc_ids.specs.declared.ids.InstId.{InstId}
use Rattle.orc_ids.specs.declared.lookup.Wanted.{Wanted}
use Rattle.session_model.specs.Meaning.{Meaning, Bindings}
use Rattle.session_model.specs.Plain.{Plain, UnitRow}
use Rattle.session_model.specs.Change.{link_order, link_matches}
use Rattle.session_model.specs.Answer.{refused_lookup}
use Rattle.session_model.specs.State.{state}
use Rattle.session_model.specs.History.{IsLegal}
use Rattle.session_model.specs.declared.entry.Entry.{Entry}
use Rattle.session_model.specs.declared.entry.Reply.{Reply}
use Rattle.session_model.specs.declared.rows.InstRow.{InstRow}
use Rattle.session_model.specs.declared.rows.Query.{Query}

-- why the externals of a unit can't be looked up, if they can't
abbrev pub refused_link : Plain → UnitRow → Option Reply
refused_link m x = refused_lookup m (link_order m x) (x.meaning.externals x.live)

-- The query was asked after n entries, for unit u with the live names that it still has: it matched
-- what the unit's externals matched then, and none of them was refused.
pub record LinkedAt (h : List (Entry Meaning)) (u : ℕ) (x : UnitRow) (q : Query) (n : ℕ) : Type 0 where
  pub here : n ≤ length h
  pub asked : q.asked ≡ n + 1
  pub unit : UnitRow
  pub there : slice_get (state (take n h)).units u ≡ Some unit
  pub same : (unit.meaning ≡ x.meaning) × (unit.live ≡ x.live)
  pub matched : q.matched ≡ link_matches (state (take n h)) unit
  pub passed : refused_link (state (take n h)) unit ≡ None

-- the link query of a unit is there, and is a lookup of its externals
abbrev pub LinksAreLookups : Type 0
LinksAreLookups = (jmax : ℕ) (h : List (Entry Meaning)) → IsLegal jmax h → (u k : ℕ) (x : UnitRow) → slice_get (state h).units u ≡ Some x → x.query ≡ Some k →
    (q : Query) × (slice_get (state h).queries k ≡ Some q) × (n : ℕ) × LinkedAt h u x q n

-- an external is bound to an instance of its name
abbrev pub BoundByName : Type 0
BoundByName = (jmax : ℕ) (h : List (Entry Meaning)) → IsLegal jmax h → (u k address : ℕ) (x : UnitRow) (b : Bindings) (w : Wanted) (i : InstId) → slice_get (state h).units u ≡ Some x → x.bound ≡ Some b →
    slice_get (x.meaning.externals x.live) k ≡ Some w → slice_get b k ≡ Some (Some (i, address)) → (r : InstRow) × (slice_get (state h).rows i.0 ≡ Some r) × (r.name ≡ w.name)

-- only a weak external is bound to none
abbrev pub UnboundIsWeak : Type 0
UnboundIsWeak = (jmax : ℕ) (h : List (Entry Meaning)) → IsLegal jmax h → (u k : ℕ) (x : UnitRow) (b : Bindings) (w : Wanted) → slice_get (state h).units u ≡ Some x → x.bound ≡ Some b →
    slice_get (x.meaning.externals x.live) k ≡ Some w → slice_get b k ≡ Some None → w.weak ≡ true
