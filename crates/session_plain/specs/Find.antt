-- The tests of matching, by name.
use Rattle.std.specs.Prelude.{ℕ, Bool, ◌&&◌, ◌==◌, not}
use Rattle.orc_ids.specs.declared.flags.SymFlags.{SymFlags}
use Rattle.orc_ids.specs.declared.ids.NameId.{NameId}
use Rattle.orc_ids.specs.declared.lookup.Scope.{Scope}
use Rattle.session_model.specs.Match.{offers_name, sees}
use Rattle.session_model.specs.Plain.{GenRow}
use Rattle.session_model.specs.declared.rows.InstRow.{InstRow}

abbrev pub is_named : ℕ → ℕ → InstRow → Bool
is_named d name r = r.present && r.dylib.0 == d && r.name.0 == name

-- what is offered is a visible definition of the name
abbrev pub is_offer : ℕ → Scope → NameId × SymFlags → Bool
is_offer name scope o = o.0.0 == name && sees scope o.1

abbrev pub is_offering : ℕ → ℕ → Scope → GenRow → Bool
is_offering d name scope g = not g.spent && g.dylib == d && offers_name g.meaning name scope
