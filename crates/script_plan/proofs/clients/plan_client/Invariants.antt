-- The calls so far are those of the lines so far, and have taken the first notes; there is one for each watch that is left.
use Rattle.std.proofs.Common.{◌≡◌, ◌≤◌, ◌++◌, length, map, drop}
use Rattle.std.specs.Prelude.{flat_map}
use Rattle.std.specs.Vec.Iter.{into_iter_items}
use Rattle.script_model.specs.Plans.{line_of}
use Rattle.session_units.specs.Units.{meaning_of}
use Rattle.script_plan.specs.Asked.{asked_line}
use Rattle.script_plan.specs.Notes.{AreTaken, watch_of}
use Rattle.session_script.specs.WellFormed.{note_of}
use Rattle.script_plan.proofs.clients.plan_client.Given as goal

abbrev pub invariant-loop-line : goal.invariant-loop-line
invariant-loop-line g l = record {
  asked : map (line_of meaning_of) l.calls.items ++ map (asked_line (map meaning_of l.units)) (drop l.line-index l.lines) ≡ map (asked_line (map meaning_of l.units)) l.lines;
  taken : AreTaken (flat_map watch_of l.calls.items) (into_iter_items l.fn.notes) (into_iter_items l.notes);
  enough : length (flat_map note_of (drop l.line-index l.lines)) ≤ length (into_iter_items l.notes);
}
