-- The list of notifiers, however it is kept.
use Rattle.std.specs.Prelude.{List, map}
use Rattle.notifiers.specs.declared.notes.Kept.{Kept}
use Rattle.notifiers.specs.declared.notes.Kept.TheVariants.{Untold, Back}
use Rattle.notifiers.specs.declared.notes.Noted.{Noted}
use Rattle.notifiers.specs.declared.notes.Noted.TheVariants.{Unfired}

abbrev pub notes_in : {N : Type 0} → Kept N → List (Noted N)
notes_in (Untold notes) = map Unfired notes.items
notes_in (Back items) = items.items
