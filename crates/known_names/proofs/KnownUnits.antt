-- Each unit and each generator of a session has known names, where what its entries hand in has them.
use Rattle.std.proofs.Common.{ℕ, List}
use Rattle.session_model.specs.Meaning.{Meaning}
use Rattle.session_model.specs.Plain.{Plain, empty}
use Rattle.session_model.specs.State.{after}
use Rattle.session_model.specs.declared.entry.Entry.{Entry}
use Rattle.session_model.specs.declared.entry.Event.{Event}
use Rattle.session_model.specs.declared.entry.Event.TheVariants as event
use Rattle.closure_laws.specs.HandedIn.{AllHave, HandsIn}
use Rattle.closure_laws.proofs.Declared.{after_have, empty_have}
use Rattle.known_names.specs.Laws.{HasKnownNames, HandsInKnown}

abbrev pub IsKnown : List (List ℕ) → Plain → Type 0
IsKnown names m = AllHave (HasKnownNames names) m

pub empty_known : (names : List (List ℕ)) → IsKnown names empty
empty_known names = empty_have (HasKnownNames names)

unit_known : (names : List (List ℕ)) (e : Event Meaning) → HandsInKnown names e → HandsIn (HasKnownNames names) e
unit_known names (event.Define d t u) h = h
unit_known names (event.Attach d t u) h = h
unit_known names _ h = tt

pub after_known : (names : List (List ℕ)) (m : Plain) (e : Entry Meaning) → HandsInKnown names e.event → IsKnown names m → IsKnown names (after m e)
after_known names m e h old = after_have (HasKnownNames names) m e (unit_known names e.event h) old
