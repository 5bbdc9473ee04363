use Rattle.std.proofs.Common.{◌≡◌, drop}
use Rattle.session_model.specs.Match.{first_row}
use Rattle.session_plain.specs.Find.{is_named}
use Rattle.session_plain.proofs.find.find_row.Given as goal

abbrev pub invariant-loop-k : goal.invariant-loop-k
invariant-loop-k l = first_row (is_named l.d.0 l.name.0) l.k (drop l.k l.rows) ≡ first_row (is_named l.d.0 l.name.0) 0 l.rows
