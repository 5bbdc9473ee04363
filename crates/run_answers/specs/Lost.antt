-- What a program answers whose entry could not be made ready, by its journal.
use Rattle.std.specs.Prelude.{ℕ, ◌+◌, ◌&&◌, ◌==◌, nat_le, nat_lt, List, Option, Some, None, option_and_then, if◌then◌else◌}
use Rattle.std.specs.Option.{option_map_or}
use Rattle.orc_ids.specs.declared.ids.InstId.{InstId}
use Rattle.orc_ids.specs.declared.ids.UnitId.{UnitId}
use Rattle.session_model.specs.Lists.{first_some, only_if}
use Rattle.session_model.specs.Meaning.{Meaning, Refusal}
use Rattle.session_model.specs.declared.entry.Entry.{Entry}
use Rattle.session_model.specs.declared.entry.Event.{Event}
use Rattle.session_model.specs.declared.entry.Event.TheVariants as event
use Rattle.session_model.specs.declared.entry.Reply.{Reply}
use Rattle.session_model.specs.declared.entry.Reply.TheVariants as reply
use Rattle.session_model.specs.declared.entry.Why.{Why}
use Rattle.session_model.specs.declared.entry.Why.TheVariants as why
use Rattle.answers.specs.Memory.{wanted_memory}
use Rattle.answers.specs.declared.answer.Answer.{Answer}
use Rattle.answers.specs.declared.answer.Answer.TheVariants.{LinkRefused, DepFailed, NoMemory}

-- the unit whose definition made an instance
abbrev pub made_in : ℕ → Reply → Option UnitId
made_in i (reply.Defined u first count) = only_if (nat_le first.0 i && nat_lt i (first.0 + count)) u
made_in i r = None

abbrev pub unit_of : List (Entry Meaning) → InstId → Option UnitId
unit_of h i = first_some (λ (e : Entry Meaning). made_in i.0 e.reply) h

-- the edge out of range for which a unit was given up, if it was for one
abbrev pub refused_by : Why → Option Refusal
refused_by (why.Refused place kind v) = Some (place, kind, v)
refused_by w = None

abbrev pub refusal_in : UnitId → Event Meaning → Option Refusal
refusal_in u (event.Fail v w) = if v.0 == u.0 then refused_by w else None
refusal_in u e = None

abbrev pub refusal_of : List (Entry Meaning) → UnitId → Option Refusal
refusal_of h u = first_some (λ (e : Entry Meaning). refusal_in u e.event) h

-- The lookup was lost by an instance: memory was wanting, where a unit was given up for that; or an edge of the instance's
-- unit is out of range; or else it failed for another unit.
abbrev pub lost_answer : List (Entry Meaning) → InstId → Answer
lost_answer h i =
    if wanted_memory h then NoMemory else
    option_map_or (λ (r : Refusal). LinkRefused r.0 r.1 r.2) (option_and_then (refusal_of h) (unit_of h i)) (DepFailed i)
