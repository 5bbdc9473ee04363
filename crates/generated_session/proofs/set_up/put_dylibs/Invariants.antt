-- The calls so far, and the dylibs that are left.
use Rattle.std.proofs.Common.{◌≡◌, ◌++◌, map, drop}
use Rattle.script_model.specs.Plans.{event_of}
use Rattle.session_units.specs.Units.{meaning_of}
use Rattle.generated_session.specs.Plans.{made}
use Rattle.generated_session.proofs.set_up.put_dylibs.Given as goal

abbrev pub invariant-loop-dylib : goal.invariant-loop-dylib
invariant-loop-dylib l = map (event_of meaning_of) l.calls.items ++ made (drop l.dylib-index l.dylibs) ≡ map (event_of meaning_of) l.fn.calls.items ++ made l.dylibs
