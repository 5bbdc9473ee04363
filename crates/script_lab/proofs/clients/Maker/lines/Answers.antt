use Rattle.std.proofs.Common.{List, [], ◌∷◌, sym, subst}
use Rattle.std.specs.Prelude.{All}
use Rattle.std.proofs.lemmas.List.Elements.{All-append, All-cons, All-nil}
use Rattle.script_model.specs.declared.calls.ClientCall.{ClientCall}
use Rattle.script_lab.specs.Plans.{IsCallable}
use Rattle.script_lab.specs.declared.note.LabNote.{LabNote}
use Rattle.script_lab.specs.declared.unit.LabUnit.{LabUnit}
use Rattle.script_lab.proofs.clients.Maker.lines.Goals as goal

pub loop-preserved : goal.loop-preserved
loop-preserved c =
    let line = c.in_ok-line.field-0 in
    let each : All IsCallable (c.loop.lines.items) = c.loop.invariant.can in
    record {
      can = subst (All IsCallable) (sym {A = List (ClientCall LabUnit LabNote)} c.in_ok-push.ensures.items) (All-append IsCallable c.loop.lines.items (line ∷ []) each (All-cons IsCallable line [] c.in_ok-line.ensures.can (All-nil IsCallable)));
      made = c.in_ok-line.ensures.made;
    }
