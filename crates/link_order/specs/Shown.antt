-- A session of two dylibs that has rows alone: what the tests search.
use Rattle.std.specs.Prelude.{ℕ, Bool, ◌&&◌, ◌==◌, List, [], ◌∷◌}
use Rattle.session_model.specs.Plain.{Plain}
use Rattle.session_model.specs.declared.rows.Dylib.{Dylib}
use Rattle.session_model.specs.declared.rows.InstRow.{InstRow}

abbrev pub dylib : ℕ → Dylib
dylib name = record { name = name; order = [] }

abbrev pub shown : List InstRow → Plain
shown rows = record { entries = 0; dylibs = dylib 0 ∷ dylib 1 ∷ []; trackers = []; rows = rows; units = []; generators = []; queries = []; jobs = [] }

-- the row is of this name, and present in this dylib
abbrev pub is_named : ℕ → ℕ → InstRow → Bool
is_named d name r = r.present && r.dylib.0 == d && r.name.0 == name
