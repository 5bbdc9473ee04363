-- What the ends of the client's lines come to, and its text.
use Rattle.std.specs.Prelude.{ℕ, ◌*◌, Bool, true, false, List, [], ◌∷◌, ◌++◌, length, take, drop, sum_by, codes}
use Rattle.std.specs.Fmt.{decimal}
use Rattle.std.specs.List.{filter}
use Rattle.session_model.specs.declared.entry.Reply.TheVariants as reply
use Rattle.session_model.specs.declared.look_end.LookEnd.TheVariants as look
use Rattle.exec_run.specs.declared.ran.RunEnd.TheVariants as run
use Rattle.script_model.specs.declared.line_end.LineEnd.{LineEnd}
use Rattle.script_model.specs.declared.line_end.LineEnd.TheVariants.{Looked, Ran, Replied}
use Rattle.generated_session.specs.Scripts.{heads, removals}
use Rattle.generated_session.specs.declared.counts.Counts.{Counts}
use Rattle.generated_session.specs.declared.counts.EndKind.{EndKind}
use Rattle.generated_session.specs.declared.counts.EndKind.TheVariants as kind

-- ---- how a line ended

unfoldable pub is_found : LineEnd → Bool
is_found (Looked (look.Found matches)) = true
is_found end = false

unfoldable pub is_lost : LineEnd → Bool
is_lost (Looked (look.Failed i)) = true
is_lost (Looked (look.InError i)) = true
is_lost end = false

unfoldable pub is_missing : LineEnd → Bool
is_missing (Looked (look.Missing name)) = true
is_missing end = false

unfoldable pub is_gone : LineEnd → Bool
is_gone (Replied reply.Removed) = true
is_gone end = false

-- the exit code of a run, where it exited
unfoldable pub exit_code : LineEnd → ℕ
exit_code (Ran (run.Exited code) output) = code
exit_code end = 0

-- by what it counts as
abbrev pub is_of : EndKind → LineEnd → Bool
is_of kind.Found = is_found
is_of kind.Lost = is_lost
is_of kind.Missing = is_missing
is_of kind.Gone = is_gone

abbrev pub how_many : (LineEnd → Bool) → List LineEnd → ℕ
how_many test ends = length (filter test ends)

-- ---- the three parts of the client's lines

-- the lookups and runs of heads
abbrev pub first_ends : ℕ → List LineEnd → List LineEnd
first_ends n ends = take (2 * length (heads n)) ends

abbrev pub later_ends : ℕ → List LineEnd → List LineEnd
later_ends n ends = drop (2 * length (heads n)) ends

abbrev pub removal_ends : ℕ → List LineEnd → List LineEnd
removal_ends n ends = take (length (removals n)) (later_ends n ends)

-- the lookups of all
abbrev pub last_ends : ℕ → List LineEnd → List LineEnd
last_ends n ends = drop (length (removals n)) (later_ends n ends)

abbrev pub counts_of : ℕ → List LineEnd → Counts
counts_of n ends = record {
  objects = n;
  heads = how_many is_found (first_ends n ends);
  sum = sum_by exit_code (first_ends n ends);
  removed = how_many is_gone (removal_ends n ends);
  found = how_many is_found (last_ends n ends);
  failed = how_many is_lost (last_ends n ends);
  missing = how_many is_missing (last_ends n ends);
}

-- ---- the text

abbrev pub line : List ℕ → ℕ → List ℕ
line label number = label ++ decimal number ++ 10 ∷ []

abbrev pub text_of : Counts → List ℕ
text_of c =
    line (codes "objects ") c.objects
    ++ line (codes "heads ") c.heads
    ++ line (codes "sum ") c.sum
    ++ line (codes "removed ") c.removed
    ++ line (codes "found ") c.found
    ++ line (codes "failed ") c.failed
    ++ line (codes "missing ") c.missing
