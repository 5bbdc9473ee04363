-- The calls so far, and the functions that are left.
use Rattle.std.proofs.Common.{◌≡◌, ◌++◌, map, drop}
use Rattle.script_model.specs.Plans.{line_of}
use Rattle.session_units.specs.Units.{meaning_of}
use Rattle.generated_session.specs.Plans.{looked_up}
use Rattle.generated_session.proofs.client.put_lookups.Given as goal

abbrev pub invariant-loop-k : goal.invariant-loop-k
invariant-loop-k g l = map (line_of meaning_of) l.calls.items ++ looked_up (drop l.k-index l.functions) ≡ map (line_of meaning_of) l.fn.calls.items ++ looked_up l.functions
