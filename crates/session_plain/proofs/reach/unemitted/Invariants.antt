use Rattle.std.proofs.Common.{◌≡◌, take, map, not}
use Rattle.session_model.specs.Plain.{is_emitted}
use Rattle.session_model.specs.declared.rows.InstRow.{InstRow}
use Rattle.session_plain.proofs.reach.unemitted.Given as goal

abbrev pub invariant-loop-row : goal.invariant-loop-row
invariant-loop-row l = l.marks.items ≡ map (λ (r : InstRow). not (is_emitted r.phase)) (take l.row-index l.rows)
