-- What a call changes that is turned away.
use Rattle.orc_ids.specs.declared.ids.SeatNo.{SeatNo}
use Rattle.session_model.specs.Meaning.{Meaning}
use Rattle.session_model.specs.declared.change.Change.{Change}
use Rattle.session_model.specs.declared.change.Change.TheVariants.{LetGo, Nothing}
use Rattle.session_model.specs.declared.entry.Reply.{Reply}
use Rattle.session_model.specs.declared.entry.Reply.TheVariants.{Defunct}

-- a seat that is told that a unit is gone lets it go
abbrev pub let_go_by : SeatNo → Reply → Change Meaning
let_go_by s (Defunct u) = LetGo s u
let_go_by s r = Nothing
