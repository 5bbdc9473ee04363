use Rattle.std.proofs.Common.{◌≡◌, map, take, flat_map}
use Rattle.session_command.specs.Ends.{stop_in, stops_answer}
use Rattle.session_command.proofs.answer.after_clients.Given as goal

abbrev pub invariant-loop-ends : goal.invariant-loop-ends
invariant-loop-ends l = l.answer ≡ stops_answer l.fn.before (flat_map (flat_map stop_in) (map (λ c. c.items) (take l.ends-index l.fn.clients)))
