use Rattle.std.proofs.Common.{◌≡◌, drop}
use Rattle.std.specs.Prelude.{◌==◌}
use Rattle.std.specs.List.{list_any}
use Rattle.orc_ids.specs.declared.ids.InstId.{InstId}
use Rattle.session_plain.proofs.emits.is_member.Given as goal

abbrev pub invariant-loop-j : goal.invariant-loop-j
invariant-loop-j l = list_any (λ (j : InstId). j.0 == l.i) (drop l.j-index l.members) ≡ list_any (λ (j : InstId). j.0 == l.i) l.members
