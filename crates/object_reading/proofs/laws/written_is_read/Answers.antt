use Rattle.object_reading.proofs.Reading.{written_is_read}
use Rattle.object_reading.proofs.laws.written_is_read.Goals as goal

pub returns : goal.returns
returns c = written_is_read
