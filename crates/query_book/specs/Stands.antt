-- When a query is met, and how it ends, by how the instances stand. Over the rows of a session these are the
-- definitions of `session_model`.
use Rattle.std.specs.Prelude.{ℕ, Bool, true, false, ◌||◌, not, List, map, Option, None, is_some, option_map, unwrap_or, ◌==◌}
use Rattle.std.specs.List.{list_all, list_any, filter_map}
use Rattle.std.specs.Option.{option_map_or}
use Rattle.orc_ids.specs.declared.ids.InstId.{InstId}
use Rattle.orc_ids.specs.declared.lookup.Level.{Level}
use Rattle.orc_ids.specs.declared.lookup.Level.TheVariants.{Resolved, Ready}
use Rattle.session_model.specs.Lists.{first_some, only_if}
use Rattle.session_model.specs.Meaning.{Bindings}
use Rattle.session_model.specs.Query.{Stand}
use Rattle.session_model.specs.declared.rows.Query.{Query}
use Rattle.session_model.specs.declared.rows.Ending.{Ending}
use Rattle.session_model.specs.declared.rows.Ending.TheVariants.{Found, Lost}

-- at Resolved it has an address, at Ready it is ready
abbrev pub at_level : (ℕ → Stand) → Level → ℕ → Bool
at_level s Resolved i = is_some (s i).address
at_level s Ready i = (s i).ready

-- it failed, or is gone
abbrev pub is_lost : (ℕ → Stand) → ℕ → Bool
is_lost s i = (s i).failed || not (s i).present

-- each matched instance is at the level
abbrev pub all_at : (ℕ → Stand) → Level → List (Option InstId) → Bool
all_at s level matched = list_all (λ o. option_map_or (λ i. at_level s level i.0) o true) matched

-- the first matched instance, in wanted order, that is lost
abbrev pub first_lost : (ℕ → Stand) → List (Option InstId) → Option InstId
first_lost s matched = first_some (λ o. option_map_or (λ i. only_if (is_lost s i.0) i) o None) matched

-- the query's end is decided
abbrev pub is_met : (ℕ → Stand) → Query → Bool
is_met s q = all_at s q.level q.matched || is_some (first_lost s q.matched)

-- a matched instance with its address
abbrev pub with_address : (ℕ → Stand) → Option InstId → Option (InstId × ℕ)
with_address s o = option_map (λ i. (i, unwrap_or (s i.0).address 0)) o

-- each matched instance with its address
abbrev pub addresses : (ℕ → Stand) → List (Option InstId) → Bindings
addresses s matched = map (with_address s) matched

-- the end that this standing decides
abbrev pub ending : (ℕ → Stand) → Query → Ending
ending s q = option_map_or Lost (first_lost s q.matched) (Found (addresses s q.matched))

-- one of the matched instances
abbrev pub is_matched : ℕ → List (Option InstId) → Bool
is_matched i matched = list_any (λ o. option_map_or (λ j. j.0 == i) o false) matched

-- one of some instances
abbrev pub is_among : ℕ → List InstId → Bool
is_among i insts = list_any (λ j. j.0 == i) insts

-- what is matched, if it isn't at the level
abbrev pub missing_of : (ℕ → Stand) → Level → Option InstId → Option InstId
missing_of s level o = option_map_or (λ i. only_if (not (at_level s level i.0)) i) o None

-- the matched instances, in wanted order, that aren't at the level
abbrev pub missing : (ℕ → Stand) → Query → List InstId
missing s q = filter_map (missing_of s q.level) q.matched
