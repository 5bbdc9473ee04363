-- A row that gets its address.
use Rattle.std.specs.Prelude.{ℕ, if◌then◌else◌}
use Rattle.session_model.specs.Plain.{is_owned}
use Rattle.session_model.specs.declared.rows.InstRow.{InstRow}
use Rattle.session_model.specs.declared.rows.Phase.TheVariants as phase

-- an instance of the unit has the address of its name
abbrev pub addressed_row : ℕ → (ℕ → ℕ) → InstRow → InstRow
addressed_row u address r = record r { phase = if is_owned u r then phase.Resolved (address r.offer) else r.phase }
