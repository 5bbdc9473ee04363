use Rattle.std.proofs.Common.{◌≡◌, drop}
use Rattle.session_model.specs.Lists.{first_some}
use Rattle.session_model.specs.State.{plain_event}
use Rattle.session_model.specs.declared.entry.Entry.{Entry}
use Rattle.run_answers.specs.Lost.{refusal_in}
use Rattle.orc_cli.proofs.lost.refusal_of.Given as goal

abbrev pub invariant-loop-entry : goal.invariant-loop-entry
invariant-loop-entry g l = first_some (λ (e : Entry _). refusal_in l.unit (plain_event g.U.UnitKind.meaning e.event)) l.journal ≡ first_some (λ (e : Entry _). refusal_in l.unit (plain_event g.U.UnitKind.meaning e.event)) (drop l.entry-index l.journal)
