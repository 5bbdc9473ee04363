-- A shadow that follows a journal.
use Rattle.std.proofs.Common.{List}
use Rattle.session_model.specs.declared.entry.Entry.{Entry}
use Rattle.session_check.specs.Known.{Known, known_meaning}
use Rattle.session_check.proofs.HistoryLemmas.{counted}
use Rattle.session_plain.specs.Meant.{meant, IsSmall, LiveFit}
use Rattle.session_past.specs.Fit.{FitSuits}
use Rattle.session_shadow.specs.Follows.{Follows}
use Rattle.session_shadow.specs.declared.shadow.Shadow.{Shadow}

pub suits : FitSuits known_meaning → (h : List (Entry Known)) (s : Shadow) → Follows h s → IsSmall s.plain × LiveFit known_meaning s.plain.units.items
suits law h s f = let x = law s.plain f.led.fit (counted known_meaning h (meant known_meaning s.plain) s.ends.items f.led f.few) in (x.0, x.1)
