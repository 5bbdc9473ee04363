-- What the unit of absolute symbols is, and what an alias is, as functions of what a session decides.
use Rattle.std.specs.Prelude.{ℕ, true, false, List, [], ◌∷◌, map, Some, None, slice_index_or}
use Rattle.orc_ids.specs.declared.flags.SymFlags.{SymFlags}
use Rattle.orc_ids.specs.declared.ids.DylibId.{DylibId}
use Rattle.orc_ids.specs.declared.ids.NameId.{NameId}
use Rattle.orc_ids.specs.declared.ids.UnitName.{UnitName}
use Rattle.session_model.specs.Meaning.{Meaning, bound_instances}
use Rattle.block_groups.specs.Groups.{group_of}

-- strong, exported, not callable
abbrev pub absolute_flags : SymFlags
absolute_flags = record { weak = false; common = false; exported = true; callable = false }

-- the address of the symbol of a number
abbrev pub absolute_address : List (NameId × ℕ) → ℕ → ℕ
absolute_address symbols k = (slice_index_or symbols k (record { 0 = 0 }, 0)).1

-- absolute symbols need no memory and no other unit; they depend on nothing
abbrev pub absolutes_meaning : UnitName → List (NameId × ℕ) → Meaning
absolutes_meaning name symbols = record {
  name = name;
  offers = map (λ (p : NameId × ℕ). (p.0, absolute_flags)) symbols;
  shape = λ live. None;
  address = λ k base. absolute_address symbols k;
  source = None;
  externals = λ live. [];
  image = λ live base bound. [];
  groups = λ live base bound own. group_of own [];
  refusal = λ live base bound. None;
}

-- an alias has the address of its target, which a session hands in as its base
abbrev pub alias_meaning : UnitName → NameId → DylibId → NameId → Meaning
alias_meaning name alias source target = record {
  name = name;
  offers = (alias, absolute_flags) ∷ [];
  shape = λ live. None;
  address = λ k base. base;
  source = Some source;
  externals = λ live. record { name = target; weak = false } ∷ [];
  image = λ live base bound. [];
  groups = λ live base bound own. record { members = own; deps = bound_instances bound } ∷ [];
  refusal = λ live base bound. None;
}
