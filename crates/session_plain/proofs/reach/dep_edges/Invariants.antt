use Rattle.std.proofs.Common.{◌≡◌, map, take}
use Rattle.session_model.specs.declared.rows.InstRow.{InstRow}
use Rattle.session_plain.specs.Marks.{dep_list}
use Rattle.session_plain.proofs.reach.dep_edges.Given as goal

abbrev pub invariant-loop-row : goal.invariant-loop-row
invariant-loop-row l = l.edges.items ≡ map (λ (r : InstRow). dep_list r.phase) (take l.row-index l.rows)
