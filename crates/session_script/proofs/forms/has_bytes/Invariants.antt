use Rattle.std.proofs.Common.{◌≡◌, drop}
use Rattle.std.specs.List.{list_all}
use Rattle.session_script.specs.Words.{has_byte}
use Rattle.session_script.proofs.forms.has_bytes.Given as goal

-- the bytes that are left decide
abbrev pub invariant-loop-b : goal.invariant-loop-b
invariant-loop-b l = list_all (has_byte l.kind) (drop l.b-index l.word) ≡ list_all (has_byte l.kind) l.word
