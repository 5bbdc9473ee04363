use Rattle.journal_text.proofs.Reading.{entry_is_read}
use Rattle.journal_text.proofs.laws.entry_is_read.Goals as goal

pub returns : goal.returns
returns c = entry_is_read
