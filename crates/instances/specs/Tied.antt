-- How the rows and what is kept of their readiness belong together.
use Rattle.std.specs.Prelude.{◌≡◌, ℕ, ◌+◌, ◌≤◌, List, length, slice_get}
use Rattle.std.specs.Option.{option_map_or}
use Rattle.session_model.specs.declared.rows.InstRow.{InstRow}
use Rattle.session_model.specs.declared.rows.Phase.{Phase}
use Rattle.session_model.specs.declared.rows.Phase.TheVariants as phase
use Rattle.dep_groups.specs.Frontier.{Waiting, Entry, Absent, Emitted, entry_at, numbers}
use Rattle.instances.specs.Table.{Table}
use Rattle.instances.specs.Sets.{Members}

-- an emitted instance has its dependencies, and any other is absent
abbrev pub entry_of : Phase → Entry
entry_of (phase.Emitted address deps) = Emitted (numbers deps)
entry_of _ = Absent

abbrev pub row_entry : List InstRow → ℕ → Entry
row_entry rows i = option_map_or (λ r. entry_of r.phase) (slice_get rows i) Absent

-- the entries are those of the rows
pub record IsTied (rows : List InstRow) (entries : List Entry) : Type 0 where
  pub each : (i : ℕ) → entry_at entries i ≡ row_entry rows i

-- so many instances have room everywhere, and the rows are among them
pub record AreRoomy (table : Table) (waiting : Waiting) (changed roots : Members) (places : ℕ) : Type 0 where
  pub there : length table.rows ≤ places
  pub in_table : places ≤ length table.rows + table.spare
  pub in_waiting : places ≤ waiting.places
  pub in_changed : places ≤ changed.places
  pub in_roots : places ≤ roots.places

pub record IsKept (table : Table) (waiting : Waiting) (changed roots : Members) (places : ℕ) : Type 0 where
  pub tied : IsTied table.rows waiting.entries
  pub roomy : AreRoomy table waiting changed roots places
