-- What has to hold of a random plan and of its lines, so that it can be run.
use Rattle.script_model.specs.Plans.{CanCall, CanRun}
use Rattle.script_model.specs.declared.calls.ClientCall.{ClientCall}
use Rattle.script_model.specs.declared.calls.Plan.{Plan}
use Rattle.script_lab.specs.Units.{lab_meaning}
use Rattle.script_lab.specs.declared.note.LabNote.{LabNote}
use Rattle.script_lab.specs.declared.unit.LabUnit.{LabUnit}

abbrev pub IsCallable : ClientCall LabUnit LabNote → Type 0
IsCallable line = CanCall lab_meaning (λ n. n.outcome) (λ n. n.number) line

abbrev pub IsRunnable : Plan LabUnit LabNote → Type 0
IsRunnable plan = CanRun lab_meaning (λ n. n.outcome) (λ n. n.number) plan
