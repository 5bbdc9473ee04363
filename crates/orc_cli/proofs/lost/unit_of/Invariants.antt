use Rattle.std.proofs.Common.{◌≡◌, drop}
use Rattle.session_model.specs.Lists.{first_some}
use Rattle.session_model.specs.declared.entry.Entry.{Entry}
use Rattle.run_answers.specs.Lost.{made_in}
use Rattle.orc_cli.proofs.lost.unit_of.Given as goal

abbrev pub invariant-loop-entry : goal.invariant-loop-entry
invariant-loop-entry g l = first_some (λ (e : Entry _). made_in l.instance.0 e.reply) l.journal ≡ first_some (λ (e : Entry _). made_in l.instance.0 e.reply) (drop l.entry-index l.journal)
