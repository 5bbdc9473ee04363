use Rattle.std.proofs.Common.{◌≡◌, map, take}
use Rattle.session_command.specs.Texts.{wanted_by}
use Rattle.session_command.proofs.texts.wanted_by_lines.Given as goal

abbrev pub invariant-loop-line : goal.invariant-loop-line
invariant-loop-line l = l.client.items ≡ map wanted_by (take l.line-index l.fn.lines)
