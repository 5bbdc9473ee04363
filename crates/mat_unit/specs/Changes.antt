-- How a unit goes on, one function for each way.
use Rattle.std.specs.Prelude.{ℕ, Bool, true, false, nat_eq, List, Option, Some, None, is_some, if◌then◌else◌}
use Rattle.std.specs.Option.{option_map_or}
use Rattle.orc_ids.specs.declared.ids.DylibId.{DylibId}
use Rattle.orc_ids.specs.declared.ids.QueryId.{QueryId}
use Rattle.orc_ids.specs.declared.ids.SeatNo.{SeatNo}
use Rattle.session_model.specs.Lists.{changed_at}
use Rattle.session_model.specs.Meaning.{Bindings}
use Rattle.session_model.specs.declared.rows.UnitPhase.TheVariants as stage
use Rattle.mat_unit.specs.declared.unit.Unit.{Unit as OneUnit}

-- no lookup has asked for it, and there is room for both its jobs
abbrev pub fresh : {U : Type 0} → U → DylibId → List Bool → OneUnit U
fresh unit dylib live = record {
  unit = unit;
  dylib = dylib;
  live = live;
  phase = stage.Unclaimed;
  seat = None;
  base = None;
  query = None;
  bound = None;
  can_start = true;
  can_finish = true;
}

-- the name that it offers at k isn't its own any longer
abbrev pub without_name : {U : Type 0} → ℕ → OneUnit U → OneUnit U
without_name k x = record x { live = changed_at k (λ flag. false) x.live }

-- its job Start is listed, which uses the room for it
abbrev pub listed : {U : Type 0} → OneUnit U → OneUnit U
listed x = record x { phase = stage.Listed; can_start = false }

-- the seat took its job Start
abbrev pub started : {U : Type 0} → SeatNo → OneUnit U → OneUnit U
started s x = record x { phase = stage.Started; seat = Some s.0 }

-- the seat took its job Finish, with these bindings
abbrev pub finishing : {U : Type 0} → SeatNo → Option Bindings → OneUnit U → OneUnit U
finishing s bound x = record x { phase = stage.Finishing; seat = Some s.0; bound = bound }

abbrev pub placed : {U : Type 0} → ℕ → OneUnit U → OneUnit U
placed base x = record x { phase = stage.Placed; base = Some base }

-- its instances have addresses
abbrev pub linking : {U : Type 0} → OneUnit U → OneUnit U
linking x = record x { phase = stage.Linking }

-- an alias has its target's address for its base, at whatever phase
abbrev pub based : {U : Type 0} → ℕ → OneUnit U → OneUnit U
based base x = record x { base = Some base }

-- nobody holds it while it waits for its link query
abbrev pub waiting : {U : Type 0} → QueryId → OneUnit U → OneUnit U
waiting query x = record x { phase = stage.Waiting; seat = None; query = Some query.0 }

-- its job Finish is listed, which uses the room for it
abbrev pub linked : {U : Type 0} → OneUnit U → OneUnit U
linked x = record x { phase = stage.Linked; can_finish = false }

abbrev pub done : {U : Type 0} → OneUnit U → OneUnit U
done x = record x { phase = stage.Done; seat = None }

abbrev pub failed : {U : Type 0} → OneUnit U → OneUnit U
failed x = record x { phase = stage.Failed; seat = None; base = None }

-- who holds it holds it still, until it is told
abbrev pub removed : {U : Type 0} → OneUnit U → OneUnit U
removed x = record x { phase = stage.Defunct; base = None }

abbrev pub is_held : {U : Type 0} → OneUnit U → Bool
is_held x = is_some x.seat

abbrev pub is_held_by : {U : Type 0} → SeatNo → OneUnit U → Bool
is_held_by s x = option_map_or (nat_eq s.0) x.seat false

-- the seat doesn't hold it
abbrev pub let_go : {U : Type 0} → SeatNo → OneUnit U → OneUnit U
let_go s x = record x { seat = if is_held_by s x then None else x.seat }
