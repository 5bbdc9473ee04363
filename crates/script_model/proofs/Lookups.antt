-- What a hash map of the matches answers, and where a lookup's names end.
use Rattle.std.proofs.Common.{◌≡◌, ℕ, List, [], ◌∷◌, drop, length, min, Option, Some, cond, nat_eq, refl, arith}
use native.Mathlib.Numerals.{unary_clauses}
use Rattle.std.proofs.lemmas.Grind.{common_steps}
use Rattle.std.specs.Map.{lookup}
use Rattle.std.specs.Option.{option_flatten}
use Rattle.orc_ids.specs.declared.ids.NameId.{NameId}
use Rattle.orc_ids.specs.declared.lookup.Level.{Level}
use Rattle.orc_ids.specs.declared.lookup.Wanted.{Wanted}
use Rattle.session_model.specs.Meaning.{Bindings}
use Rattle.script_model.specs.Given.{match_of, Given, given_names}
use Rattle.script_model.specs.declared.names.GivenMatch.{GivenMatch}

-- what a map with these entries has for the name
abbrev pub entry_of : NameId → Given → Option (Option GivenMatch)
entry_of name given = lookup (λ (other : NameId). nat_eq name.0 other.0) given

-- a name's match is what its entry has
pub match_in_entry : (name : NameId) (given : Given) → option_flatten (entry_of name given) ≡ match_of name given
match_in_entry name [] = refl
match_in_entry name (g ∷ earlier) = grind (arith, common_steps, match_in_entry name earlier)

-- a map that has one entry changed answers as if that were given last
pub changed_as_latest : (name other : NameId) (found : Option GivenMatch) (old new : Given) → entry_of other new ≡ cond (nat_eq name.0 other.0) (Some found) (entry_of other old)
    → match_of other new ≡ match_of other ((name, found) ∷ old)
changed_as_latest name other found old new changed = grind (arith, common_steps, match_in_entry other old, match_in_entry other new)

-- where either list ends, nothing more was given
pub none_after : (level : Level) (ws : List Wanted) (bs : Bindings) → given_names level (drop (min (length ws) (length bs)) ws) (drop (min (length ws) (length bs)) bs) ≡ []
none_after level [] bs = simp unary_clauses refl
none_after level (w ∷ ws) [] = simp unary_clauses refl
none_after level (w ∷ ws) (b ∷ bs) = simp unary_clauses (none_after level ws bs)
