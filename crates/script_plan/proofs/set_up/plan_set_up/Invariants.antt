-- The calls so far, and the events of the lines that are left, are the events of the set-up.
use Rattle.std.proofs.Common.{◌≡◌, ◌++◌, map, drop}
use Rattle.script_model.specs.Plans.{event_of}
use Rattle.session_units.specs.Units.{meaning_of}
use Rattle.script_plan.specs.Asked.{asked_events, events_from}
use Rattle.script_plan.proofs.set_up.plan_set_up.Given as goal

abbrev pub invariant-loop-line : goal.invariant-loop-line
invariant-loop-line l = map (event_of meaning_of) l.calls.items ++ events_from (map meaning_of l.units) l.counts (drop l.line-index l.lines) ≡ asked_events (map meaning_of l.units) l.lines
