use Rattle.journal_text.proofs.Reading.{line_is_read}
use Rattle.journal_text.proofs.laws.line_is_read.Goals as goal

pub returns : goal.returns
returns c = line_is_read
