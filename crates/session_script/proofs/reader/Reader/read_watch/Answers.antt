use Rattle.std.proofs.Common.{map}
use Rattle.session_script.proofs.CallsKept.{note_left}
use Rattle.session_script.proofs.reader.Reader.read_watch.Goals as goal

pub take_note-requires : goal.take_note-requires
take_note-requires c = note_left c.args.self.now (map (λ w. w.now) c.args.operands.now) _ (rw c.has_note.ensures at c.in_ok-line.ensures.read)
