-- What is at hand for an emission of a unit.
use Rattle.std.specs.Prelude.{ℕ, List, length}
use Rattle.orc_ids.specs.declared.groups.Group.{Group}
use Rattle.session_model.specs.declared.rows.InstRow.{InstRow}
use Rattle.instances.specs.Groups.{HasDeps}
use Rattle.instances.specs.Spans.{IsSpan}
use Rattle.instances.specs.declared.groups.Prepared.{Prepared}

-- the dependencies of each of the unit's instances, from the first one on
pub record IsPrepared (rows : List InstRow) (u : ℕ) (groups : List Group) (p : Prepared) : Type 0 where
  pub span : IsSpan rows u p.first (length p.deps.items)
  pub deps : HasDeps groups p.first (length p.deps.items) p.deps.items
