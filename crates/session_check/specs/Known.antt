-- A unit that is given by lists, and what it is.
use Rattle.std.specs.Prelude.{◌≡◌, ℕ, ◌+◌, ◌*◌, ◌%◌, ◌<◌, ◌^◌, Bool, true, false, ◌&&◌, ◌==◌, not, List, [], ◌∷◌, length, replicate, Option, None, IfSome, is_some, if◌then◌else◌}
use Rattle.std.specs.List.{list_any}
use Rattle.std.specs.Option.{option_map_or}
use Rattle.orc_ids.specs.declared.flags.SymFlags.{SymFlags}
use Rattle.orc_ids.specs.declared.ids.DylibId.{DylibId}
use Rattle.orc_ids.specs.declared.ids.NameId.{NameId}
use Rattle.orc_ids.specs.declared.ids.UnitName.{UnitName}
use Rattle.orc_ids.specs.declared.lookup.Wanted.{Wanted}
use Rattle.orc_ids.specs.declared.place.Shape.{Shape}
use Rattle.session_model.specs.Meaning.{Meaning, Refusal, bound_instances}

pub record Known : Type 0 where
  pub name : UnitName
  -- the names that it offers
  pub offers : List (NameId × SymFlags)
  -- the memory that it needs
  pub shape : Option Shape
  -- the names that it looks up
  pub externals : List Wanted
  -- the edge that is out of range, wherever it lies
  pub refusal : Option Refusal
  -- the dylib in which an alias looks its target up
  pub source : Option DylibId

-- Its names lie 8 bytes apart, its bytes are zeros, and its instances depend on all that its externals
-- are bound to. The name of an alias lies where the alias was bound.
abbrev pub known_meaning : Known → Meaning
known_meaning u = record {
  name = u.name;
  offers = u.offers;
  shape = λ live. u.shape;
  address = λ k base. if is_some u.source then base else (base + 8 * k) % 2 ^ 64;
  source = u.source;
  externals = λ live. u.externals;
  image = λ live base bound. replicate (option_map_or (λ s. s.need) u.shape 0) 0;
  groups = λ live base bound own. record { members = own; deps = bound_instances bound } ∷ [];
  refusal = λ live base bound. u.refusal;
}

abbrev pub is_of_name : NameId → NameId × SymFlags → Bool
is_of_name name offer = offer.0.0 == name.0

-- no name is offered twice
abbrev pub names_differ : List (NameId × SymFlags) → Bool
names_differ [] = true
names_differ (offer ∷ offers) = not (list_any (is_of_name offer.0) offers) && names_differ offers

-- it is some memory, and its alignment a power of two
abbrev pub IsShape : Shape → Type 0
IsShape s = (0 < s.need) × ((k : ℕ) × (s.align ≡ 2 ^ k))

-- the flags of an alias
abbrev pub alias_flags : SymFlags
alias_flags = record { weak = false; common = false; exported = true; callable = false }

-- it offers one name, for one that it looks up, and has no memory
pub record IsKnownAlias (u : Known) : Type 0 where
  pub name : NameId
  pub offers : u.offers ≡ (name, alias_flags) ∷ []
  pub target : NameId
  pub externals : u.externals ≡ record { name = target; weak = false } ∷ []
  pub shape : u.shape ≡ None
  pub refusal : u.refusal ≡ None

-- what a unit that is given so has to meet
pub record IsKnown (u : Known) : Type 0 where
  pub differ : names_differ u.offers ≡ true
  pub shape : IfSome u.shape IsShape
  pub offers : length u.offers < 2 ^ 32
  pub externals : length u.externals < 2 ^ 32
  pub alias : IfSome u.source (λ d. IsKnownAlias u)
