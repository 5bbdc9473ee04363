-- The settling of one query, by name.
use Rattle.std.specs.Prelude.{ℕ, List, Option, None, if◌then◌else◌}
use Rattle.std.specs.Option.{option_map_or}
use Rattle.session_model.specs.Plain.{Plain}
use Rattle.session_model.specs.Query.{is_met}
use Rattle.session_model.specs.Change.{waits_for, finish_listed}
use Rattle.session_model.specs.declared.rows.InstRow.{InstRow}
use Rattle.session_model.specs.declared.rows.Query.{Query}

-- the unit that a query links, if it is met
abbrev pub met_link : List InstRow → Query → Option ℕ
met_link rows q = if is_met rows q then q.unit else None

-- this unit is linked, if it waits for the query k
abbrev pub settle_link : ℕ → Option ℕ → Plain → Plain
settle_link k linked m = option_map_or (λ u. if waits_for m u k then finish_listed u m else m) linked m
