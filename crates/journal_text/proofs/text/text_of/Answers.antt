use Rattle.session_model.specs.State.{plain_entry}
use Rattle.journal_text.specs.Journal.{KnownEntry}
use Rattle.journal_text.proofs.Places.{at_place}
use Rattle.journal_text.proofs.text.text_of.Goals as goal

pub put_line-requires : goal.put_line-requires
put_line-requires g c = at_place (KnownEntry c.args.names.now) (plain_entry g.U.UnitKind.meaning) c.args.entries.now c.loop-entry.entry-index c.entry-item.result c.loop-entry-test.true c.entry-item.is c.requires
