use Rattle.std.proofs.Common.{◌≡◌, take, flat_map}
use Rattle.session_command.specs.Ends.{stop_in, stops_answer}
use Rattle.session_command.proofs.answer.after_lines.Given as goal

abbrev pub invariant-loop-end : goal.invariant-loop-end
invariant-loop-end l = l.answer ≡ stops_answer l.fn.before (flat_map stop_in (take l.end-index l.fn.ends))
