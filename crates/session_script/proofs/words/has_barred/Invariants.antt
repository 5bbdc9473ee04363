use Rattle.std.proofs.Common.{◌≡◌, drop}
use Rattle.std.specs.List.{list_any}
use Rattle.session_script.specs.Words.{is_barred}
use Rattle.session_script.proofs.words.has_barred.Given as goal

-- the bytes that are left decide
abbrev pub invariant-loop-b : goal.invariant-loop-b
invariant-loop-b l = list_any is_barred (drop l.b-index l.line) ≡ list_any is_barred l.line
