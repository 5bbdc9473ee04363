-- The functions so far are defined.
use Rattle.std.proofs.Common.{◌≤◌, map}
use Rattle.script_model.specs.Plans.{event_of}
use Rattle.session_units.specs.Units.{meaning_of}
use Rattle.generated_session.specs.Plans.{Defines}
use Rattle.generated_session.proofs.set_up.put_definitions.Given as goal

abbrev pub invariant-loop-k : goal.invariant-loop-k
invariant-loop-k l = record {
  within : l.k ≤ l.n;
  defined : Defines l.n l.k (map (event_of meaning_of) l.fn.calls.items) (map (event_of meaning_of) l.calls.items);
}
