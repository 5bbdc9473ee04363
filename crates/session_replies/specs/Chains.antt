-- The steps of a chain of aliases, over the parts of a session.
use Rattle.std.specs.Prelude.{◌≡◌, ℕ, Bool, true, ◌&&◌, List, Option, None, is_some, slice_get, option_map, option_and_then, option_to_list, if◌then◌else◌}
use Rattle.orc_ids.specs.declared.ids.InstId.{InstId}
use Rattle.orc_ids.specs.declared.ids.QueryId.{QueryId}
use Rattle.orc_ids.specs.declared.ids.UnitId.{UnitId}
use Rattle.closure_laws.specs.Bound.{AreBound, external_count}
use Rattle.mat_unit.specs.declared.unit.Unit.{Unit as OneUnit}
use Rattle.session_model.specs.Answer.{alias_cycle}
use Rattle.session_model.specs.Chain.{chain_next, comes_to_unit}
use Rattle.session_model.specs.Change.{link_matches}
use Rattle.session_model.specs.Meaning.{Meaning}
use Rattle.session_model.specs.Plain.{Plain, UnitRow, is_alias, is_waiting}
use Rattle.session_model.specs.declared.entry.Reply.TheVariants.{AliasCycle}
use Rattle.session_model.specs.declared.rows.InstRow.{InstRow}
use Rattle.session_parts.specs.Parts.{AreParts}
use Rattle.session_parts.specs.declared.parts.Parts.{Parts}

-- the parts are the session's, with its queries, and each link query matched one for each external
pub record AreLinked {U N : Type 0} (means : U → Meaning) (p : Parts U N) (m : Plain) : Type 0 where
  pub parts : AreParts means p m
  pub queries : p.book.queries ≡ m.queries
  pub bound : AreBound m

-- an alias, which looks one name up
pub record IsOneAlias (x : UnitRow) : Type 0 where
  pub alias : is_alias x ≡ true
  pub one : external_count x ≡ 1

-- the unit of an instance
abbrev pub unit_at : {U : Type 0} → List InstRow → List (OneUnit U) → ℕ → Option (OneUnit U)
unit_at rows units i = option_and_then (λ (r : InstRow). slice_get units r.unit.0) (slice_get rows i)

-- what the first of them matched
abbrev pub target_of : List (Option InstId) → Option InstId
target_of matched = option_and_then (λ found. found) (slice_get matched 0)

-- the query that an alias waits for
abbrev pub awaited : {U : Type 0} → (U → Meaning) → OneUnit U → Option QueryId
awaited means x = if is_some (means x.unit).source && is_waiting x.phase then option_map (λ q. record { 0 = q }) x.query else None

-- this one comes next, or none does
abbrev pub IsNext : Plain → ℕ → Option InstId → Type 0
IsNext m i next = chain_next m.rows m.units m.queries i ≡ option_to_list (option_map (λ (j : InstId). j.0) next)

-- the next one, of whatever session the parts are
abbrev pub TellsNext : {U N : Type 0} → (U → Meaning) → Parts U N → InstId → Option InstId → Type 0
TellsNext means p i next = (m : Plain) → AreLinked means p m → IsNext m i.0 next

-- whether the chain from an instance comes to one of the unit
abbrev pub TellsComing : {U N : Type 0} → (U → Meaning) → Parts U N → UnitId → InstId → Bool → Type 0
TellsComing means p u from comes = (m : Plain) → AreLinked means p m → comes ≡ comes_to_unit m.rows m.units m.queries u.0 from.0

-- the instance by which an alias that matched these stands for itself
abbrev pub TellsCycle : {U N : Type 0} → (U → Meaning) → Parts U N → UnitId → List (Option InstId) → Option InstId → Type 0
TellsCycle means p u found cycle = (m : Plain) (x : UnitRow) → AreLinked means p m → IsOneAlias x → found ≡ link_matches m x → alias_cycle m u.0 x ≡ option_map AliasCycle cycle
