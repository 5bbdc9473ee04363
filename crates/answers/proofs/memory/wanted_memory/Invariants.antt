use Rattle.std.proofs.Common.{◌≡◌, drop}
use Rattle.std.specs.List.{list_any}
use Rattle.session_model.specs.State.{plain_event}
use Rattle.session_model.specs.declared.entry.Entry.{Entry}
use Rattle.answers.specs.Memory.{gives_up}
use Rattle.answers.proofs.memory.wanted_memory.Given as goal

abbrev pub invariant-loop-entry : goal.invariant-loop-entry
invariant-loop-entry g l = list_any (λ (e : Entry _). gives_up (plain_event g.U.UnitKind.meaning e.event)) l.journal ≡ list_any (λ (e : Entry _). gives_up (plain_event g.U.UnitKind.meaning e.event)) (drop l.entry-index l.journal)
