use Rattle.journal_text.proofs.Reading.{history_is_read}
use Rattle.journal_text.proofs.laws.history_is_read.Goals as goal

pub returns : goal.returns
returns c = history_is_read
