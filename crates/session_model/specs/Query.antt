-- When a query is met, and how it ends (ORC: AsynchronousSymbolQuery).
use Rattle.std.specs.Prelude.{ℕ, Bool, true, ◌||◌, not, List, map, Option, None, is_some, option_map, unwrap_or}
use Rattle.std.specs.List.{list_all}
use Rattle.std.specs.Option.{option_map_or}
use Rattle.orc_ids.specs.declared.ids.InstId.{InstId}
use Rattle.orc_ids.specs.declared.lookup.Level.{Level}
use Rattle.orc_ids.specs.declared.lookup.Level.TheVariants.{Resolved, Ready}
use Rattle.session_model.specs.Lists.{first_some, only_if}
use Rattle.session_model.specs.Meaning.{Bindings}
use Rattle.session_model.specs.Plain.{Query, failed_at, present_at, address_at}
use Rattle.session_model.specs.Reach.{is_ready}
use Rattle.session_model.specs.declared.rows.InstRow.{InstRow}
pub use Rattle.session_model.specs.declared.rows.Ending.{Ending}
pub use Rattle.session_model.specs.declared.rows.Ending.TheVariants.{Found, Lost}

-- how an instance stands
pub record Stand : Type 0 where
  pub failed : Bool
  pub present : Bool
  pub address : Option ℕ
  pub ready : Bool

abbrev pub stand_at : List InstRow → ℕ → Stand
stand_at rows i = record { failed = failed_at rows i; present = present_at rows i; address = address_at rows i; ready = is_ready rows i }

-- at Resolved it has an address, at Ready it is ready
abbrev pub at_level : List InstRow → Level → ℕ → Bool
at_level rows Resolved i = is_some (address_at rows i)
at_level rows Ready i = is_ready rows i

-- it failed, or is gone
abbrev pub is_lost : List InstRow → ℕ → Bool
is_lost rows i = failed_at rows i || not (present_at rows i)

-- each matched instance is at the level
abbrev pub all_at : List InstRow → Level → List (Option InstId) → Bool
all_at rows level matched = list_all (λ o. option_map_or (λ i. at_level rows level i.0) o true) matched

-- the first matched instance, in wanted order, that is lost
abbrev pub first_lost : List InstRow → List (Option InstId) → Option InstId
first_lost rows matched = first_some (λ o. option_map_or (λ i. only_if (is_lost rows i.0) i) o None) matched

-- the query's end is decided
abbrev pub is_met : List InstRow → Query → Bool
is_met rows q = all_at rows q.level q.matched || is_some (first_lost rows q.matched)

-- each matched instance with its address
abbrev pub addresses : List InstRow → List (Option InstId) → Bindings
addresses rows matched = map (λ o. option_map (λ i. (i, unwrap_or (address_at rows i.0) 0)) o) matched

-- the end that these rows decide
abbrev pub ending : List InstRow → Query → Ending
ending rows q = option_map_or Lost (first_lost rows q.matched) (Found (addresses rows q.matched))
