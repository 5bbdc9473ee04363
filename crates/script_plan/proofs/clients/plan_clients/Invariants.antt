-- The calls so far are those of the clients so far, and have taken the first notes; there is one for each watch that is left.
use Rattle.std.proofs.Common.{◌≡◌, ◌≤◌, ◌++◌, length, map, drop}
use Rattle.std.specs.Vec.Iter.{into_iter_items}
use Rattle.script_model.specs.Plans.{line_of}
use Rattle.session_units.specs.Units.{meaning_of}
use Rattle.script_plan.specs.Asked.{asked_line}
use Rattle.script_plan.specs.Notes.{AreTaken, watches_of}
use Rattle.session_script.specs.WellFormed.{notes_of}
use Rattle.script_plan.proofs.clients.plan_clients.Given as goal

abbrev pub invariant-loop-lines : goal.invariant-loop-lines
invariant-loop-lines g l = record {
  asked : map (λ calls. map (line_of meaning_of) calls.items) l.plans.items ++ map (map (asked_line (map meaning_of l.units))) (drop l.lines-index l.clients) ≡ map (map (asked_line (map meaning_of l.units))) l.clients;
  taken : AreTaken (watches_of (map (λ calls. calls.items) l.plans.items)) (into_iter_items l.fn.notes) (into_iter_items l.notes);
  enough : length (notes_of (drop l.lines-index l.clients)) ≤ length (into_iter_items l.notes);
}
