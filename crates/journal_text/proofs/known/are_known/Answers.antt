use Rattle.std.proofs.Common.{rules}
use Rattle.session_model.specs.State.{plain_entry}
use Rattle.journal_text.specs.Journal.{KnownEntry}
use Rattle.journal_text.proofs.Places.{more_places, every_place, no_place}
use Rattle.journal_text.proofs.known.are_known.Goals as goal

pub returns-then-not-is_known : goal.returns-then-not-is_known
returns-then-not-is_known g c = no_place (KnownEntry c.args.names.now) (plain_entry g.U.UnitKind.meaning) c.args.entries.now c.loop-entry.entry-index c.entry-item.result c.loop-entry-test.true c.entry-item.is c.is_known.result (search rules) c.is_known.ensures.1

pub loop-entry-preserved : goal.loop-entry-preserved
loop-entry-preserved g c = more_places (KnownEntry c.args.names.now) (plain_entry g.U.UnitKind.meaning) c.args.entries.now c.loop-entry.entry-index c.entry-item.result c.loop-entry-test.true c.entry-item.is c.loop-entry.invariant (c.is_known.ensures.0 (search rules))

pub returns : goal.returns
returns g c = (λ _. every_place (KnownEntry c.args.names.now) (plain_entry g.U.UnitKind.meaning) c.args.entries.now c.loop-entry.entry-index c.loop-entry-test.false c.loop-entry.invariant, λ _. search rules)
