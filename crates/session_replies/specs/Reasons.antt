-- The reasons for which a session leaves an event be, each as the reply that says it.
use Rattle.std.specs.Prelude.{ℕ, ◌+◌, Bool, false, ◌||◌, ◌==◌, not, nat_lt, nat_le, List, length, slice_get, Option, Some, is_none, option_map}
use Rattle.std.specs.List.{position_from}
use Rattle.std.specs.Option.{option_map_or}
use Rattle.orc_ids.specs.declared.groups.Group.{Group}
use Rattle.orc_ids.specs.declared.ids.DylibId.{DylibId}
use Rattle.orc_ids.specs.declared.ids.GenId.{GenId}
use Rattle.orc_ids.specs.declared.ids.InstId.{InstId}
use Rattle.orc_ids.specs.declared.ids.NameId.{NameId}
use Rattle.orc_ids.specs.declared.ids.TrackId.{TrackId}
use Rattle.orc_ids.specs.declared.limits.TheConstants.{UNIT_LIMIT, INSTANCE_LIMIT}
use Rattle.session_model.specs.Lists.{first_some, only_if}
use Rattle.session_model.specs.Plain.{is_failed, is_unsearched, failed_at, present_at, unsearched_at}
use Rattle.session_model.specs.declared.entry.Reply.{Reply}
use Rattle.session_model.specs.declared.entry.Reply.TheVariants as reply
use Rattle.session_model.specs.declared.rows.Dylib.{Dylib}
use Rattle.session_model.specs.declared.rows.InstRow.{InstRow}
use Rattle.generators.specs.declared.generator.Generator.{Generator}
use Rattle.tracker.specs.Owners.{Owners, owned_by}

-- Dylibs

-- there is no such dylib
abbrev pub absent : List Dylib → DylibId → Option Reply
absent dylibs d = only_if (not (nat_lt d.0 (length dylibs))) (reply.NoDylib d)

-- the first dylib of this name
abbrev pub named : List Dylib → NameId → Option DylibId
named dylibs name = option_map (λ d. record { 0 = d }) (position_from (λ x. x.name == name.0) 0 dylibs)

abbrev pub name_taken : List Dylib → NameId → Option Reply
name_taken dylibs name = option_map (λ (d : DylibId). reply.NameTaken d) (named dylibs name)

-- Limits

-- there are as many as there may be
abbrev pub too_many : ℕ → ℕ → Option Reply
too_many count limit = only_if (nat_le limit count) reply.TooMany

-- there are as many units as there may be, or so many instances more would be too many
abbrev pub is_full : ℕ → ℕ → ℕ → Bool
is_full units rows count = nat_le UNIT_LIMIT units || nat_lt INSTANCE_LIMIT (rows + count)

-- Trackers

-- the dylib of a tracker that is there
abbrev pub home_of : Owners → TrackId → Option DylibId
home_of owners t = option_map (λ o. o.dylib) (owned_by owners t)

-- the tracker isn't there
abbrev pub gone : Option DylibId → TrackId → Option Reply
gone home t = only_if (is_none home) (reply.TrackerGone t)

-- the tracker is there, and of this dylib
abbrev pub is_of : Option DylibId → DylibId → Bool
is_of home d = option_map_or (λ (e : DylibId). e.0 == d.0) home false

abbrev pub not_of : Option DylibId → DylibId → TrackId → Option Reply
not_of home d t = only_if (not (is_of home d)) (reply.TrackerGone t)

-- both are there, and of two dylibs
abbrev pub are_apart : Option DylibId → Option DylibId → Bool
are_apart (Some d) (Some e) = not (d.0 == e.0)
are_apart _ _ = false

-- Generators

-- there is no such generator, or it is spent
abbrev pub unusable : {U : Type 0} → List (Generator U) → GenId → Option Reply
unusable generators g = option_map_or (λ x. only_if x.spent (reply.Spent g)) (slice_get generators g.0) (Some (reply.NoGen g))

-- Dependencies

-- it failed, is gone or was never searched
abbrev pub is_bad_row : InstRow → Bool
is_bad_row r = is_failed r.phase || not r.present || is_unsearched r.phase

abbrev pub is_bad : List InstRow → InstId → Bool
is_bad rows i = failed_at rows i.0 || not (present_at rows i.0) || unsearched_at rows i.0

abbrev pub bad_dep_of : List InstRow → InstId → Option Reply
bad_dep_of rows i = only_if (is_bad rows i) (reply.BadDep i)

abbrev pub bad_in : List InstRow → Group → Option Reply
bad_in rows g = first_some (bad_dep_of rows) g.deps
