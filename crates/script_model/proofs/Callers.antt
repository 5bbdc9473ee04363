-- What follows for a caller, whose table answers as the lookups that it has seen.
use Rattle.std.proofs.Common.{◌≡◌, [], ◌∷◌, ◌++◌, ap}
use Rattle.std.specs.Prelude.{if◌then◌else◌, ◌==◌}
use Rattle.orc_ids.specs.declared.ids.NameId.{NameId}
use Rattle.script_model.specs.Given.{match_of, Given}

-- two lists that give a name the same match still do after one more lookup
pub same_after : (name : NameId) (more these those : Given) → match_of name these ≡ match_of name those → match_of name (more ++ these) ≡ match_of name (more ++ those)
same_after name [] these those same = same
same_after name (g ∷ more) these those same = ap (λ rest. if g.0.0 == name.0 then g.1 else rest) (same_after name more these those same)
