use Rattle.std.proofs.Common.{ℕ, List, IfErr, subst}
use Rattle.as_command.specs.Stops.{IsUnassembled}
use Rattle.as_command.proofs.Stopped.{stopped_after, stopped_by}
use Rattle.as_command.proofs.assembly.object_file.Goals as goal

pub returns-clause-stopped : goal.returns-clause-stopped
returns-clause-stopped g c = stopped_by _ _ _ _ _ c.assembled.result c.in_ok-text.ensures.read
    (subst (λ (t : List ℕ). IfErr c.assembled.result (IsUnassembled t)) c.as_slice.ensures c.assembled.ensures.unassembled)

pub returns-clause-asked_for : goal.returns-clause-asked_for
returns-clause-asked_for g c = stopped_after _ _ _ _ c.assembled.result c.in_ok-text.ensures.asked c.assembled.ensures.unassembled
