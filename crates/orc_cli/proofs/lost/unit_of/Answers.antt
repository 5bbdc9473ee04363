use Rattle.std.proofs.Common.{sym}
use Rattle.session_model.specs.Meaning.{Meaning}
use Rattle.session_model.specs.State.{plain_entry}
use Rattle.session_model.specs.declared.entry.Entry.{Entry}
use Rattle.run_answers.specs.Lost.{made_in}
use Rattle.answers.proofs.FirstOf.{found_first, found_none}
use Rattle.orc_cli.proofs.lost.unit_of.Goals as goal

pub returns-in-Some : goal.returns-in-Some
returns-in-Some g c = found_first (λ (e : Entry Meaning). made_in c.args.instance.0 e.reply) (plain_entry g.U.UnitKind.meaning) c.args.journal.now c.loop-entry.entry-index c.entry-item.result c.in-Some.unit c.loop-entry.invariant c.loop-entry-test.true c.entry-item.is (sym c.in-Some.ensures)

pub returns : goal.returns
returns g c = found_none (λ (e : Entry Meaning). made_in c.args.instance.0 e.reply) (plain_entry g.U.UnitKind.meaning) c.args.journal.now c.loop-entry.entry-index c.loop-entry.invariant c.loop-entry-test.false
