use Rattle.history_laws.proofs.Asked.{note_is_asked}
use Rattle.history_laws.proofs.laws.note_is_asked.Goals as goal

pub returns : goal.returns
returns c = note_is_asked
