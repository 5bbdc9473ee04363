-- What a hash map of the instances answers.
use Rattle.std.proofs.Common.{◌≡◌, [], ◌∷◌, Option, Some, cond, nat_eq, refl, arith}
use Rattle.std.proofs.lemmas.Grind.{common_steps}
use Rattle.std.specs.Map.{lookup}
use Rattle.std.specs.Option.{option_flatten}
use Rattle.orc_ids.specs.declared.ids.InstId.{InstId}
use Rattle.orc_ids.specs.declared.ids.NameId.{NameId}
use Rattle.ready_words.specs.Peeks.{Learnt, instance_of}

-- what a map with these entries has for the name
abbrev pub entry_of : NameId → Learnt → Option (Option InstId)
entry_of name learnt = lookup (λ (other : NameId). nat_eq name.0 other.0) learnt

-- a name's instance is what its entry has
pub instance_in_entry : (name : NameId) (learnt : Learnt) → option_flatten (entry_of name learnt) ≡ instance_of name learnt
instance_in_entry name [] = refl
instance_in_entry name (g ∷ earlier) = grind (arith, common_steps, instance_in_entry name earlier)

-- a map that has one entry changed answers as if that were learnt last
pub changed_as_latest : (name other : NameId) (i : Option InstId) (old new : Learnt) → entry_of other new ≡ cond (nat_eq name.0 other.0) (Some i) (entry_of other old)
    → instance_of other new ≡ instance_of other ((name, i) ∷ old)
changed_as_latest name other i old new changed = grind (arith, common_steps, instance_in_entry other old, instance_in_entry other new)
