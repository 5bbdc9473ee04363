use Rattle.journal_text.proofs.Reading.{text_is_read}
use Rattle.journal_text.proofs.laws.text_is_read.Goals as goal

pub returns : goal.returns
returns c = text_is_read
