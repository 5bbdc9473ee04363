-- What a client's lookups gave to names.
use Rattle.std.specs.Prelude.{ℕ, ◌==◌, List, [], ◌∷◌, Option, None, option_map, if◌then◌else◌}
use Rattle.orc_ids.specs.declared.ids.InstId.{InstId}
use Rattle.orc_ids.specs.declared.ids.NameId.{NameId}
use Rattle.orc_ids.specs.declared.lookup.Level.{Level}
use Rattle.orc_ids.specs.declared.lookup.Wanted.{Wanted}
use Rattle.session_model.specs.Meaning.{Bindings}
use Rattle.script_model.specs.declared.names.GivenMatch.{GivenMatch}

-- what a client's lookups gave to names, the latest first: a match, or none to a weakly referenced name without one
abbrev pub Given : Type 0
Given = List (NameId × Option GivenMatch)

-- what the latest lookup that was found and had the name gave it
abbrev pub match_of : NameId → Given → Option GivenMatch
match_of name [] = None
match_of name (g ∷ earlier) = if g.0.0 == name.0 then g.1 else match_of name earlier

-- and the address of that
abbrev pub address_of : NameId → Given → Option ℕ
address_of name given = option_map (λ m. m.address) (match_of name given)

-- a match of a lookup up to this level
abbrev pub given_match : Level → InstId × ℕ → GivenMatch
given_match level p = record { instance = p.0; address = p.1; level = level }

-- what a lookup up to this level gave that was found
abbrev pub given_names : Level → List Wanted → Bindings → Given
given_names level (w ∷ ws) (b ∷ bs) = (w.name, option_map (given_match level) b) ∷ given_names level ws bs
given_names level _ _ = []
