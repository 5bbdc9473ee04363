use Rattle.std.proofs.Common.{◌≡◌, map, take}
use Rattle.session_command.specs.Texts.{wanted_by}
use Rattle.session_command.proofs.texts.wanted_by_all.Given as goal

abbrev pub invariant-loop-lines : goal.invariant-loop-lines
invariant-loop-lines l = l.all.items ≡ map (map wanted_by) (take l.lines-index l.fn.clients)
