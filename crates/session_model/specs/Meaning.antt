-- What a unit is (ORC: a materialization unit), as functions of what a session decides: which of
-- its names are live, where it is placed, and what its externals are bound to.
use Rattle.std.specs.Prelude.{◌≡◌, ℕ, ◌<◌, ◌^◌, ℤ, Bool, true, false, List, [], ◌∷◌, length, slice_get, Option, Some, None, IfSome, All, Contains, IsPermutation, count_by, flat_map, filter_map, option_map}
use Rattle.std.specs.Option.{option_map_or}
use Rattle.orc_ids.specs.declared.ids.DylibId.{DylibId}
use Rattle.orc_ids.specs.declared.ids.InstId.{InstId}
use Rattle.orc_ids.specs.declared.ids.NameId.{NameId}
use Rattle.orc_ids.specs.declared.ids.UnitName.{UnitName}
use Rattle.orc_ids.specs.declared.flags.SymFlags.{SymFlags}
use Rattle.orc_ids.specs.declared.groups.Group.{Group}
use Rattle.orc_ids.specs.declared.lookup.Wanted.{Wanted}
use Rattle.orc_ids.specs.declared.place.Place.{Place}
use Rattle.orc_ids.specs.declared.place.Shape.{Shape}

-- for each external the instance that it is bound to, with its address, or none
abbrev pub Bindings : Type 0
Bindings = List (Option (InstId × ℕ))

-- the place, kind and value of an edge that is out of range
abbrev pub Refusal : Type 0
Refusal = Place × ℕ × ℤ

pub record Meaning : Type 0 where
  -- what the journal calls it
  pub name : UnitName
  -- the names that it offers, in symbol order
  pub offers : List (NameId × SymFlags)
  -- the memory that it needs, by its live names
  pub shape : List Bool → Option Shape
  -- the address of an offered name, with the unit at a base
  pub address : ℕ → ℕ → ℕ
  -- the dylib in which an alias looks its target up
  pub source : Option DylibId
  -- the names that it looks up, in symbol order
  pub externals : List Bool → List Wanted
  -- its bytes in memory, by its live names, base and bindings
  pub image : List Bool → ℕ → Bindings → List ℕ
  -- its dependence groups, by these and its instances in the order of its live names
  pub groups : List Bool → ℕ → Bindings → List InstId → List Group
  -- the first edge that is out of range, if one is
  pub refusal : List Bool → ℕ → Bindings → Option Refusal

-- the instances that are bound
abbrev pub bound_instances : Bindings → List InstId
bound_instances bound = filter_map (λ b. option_map (λ p. p.0) b) bound

-- what a session decides fits the unit
pub record FitsUnit (u : Meaning) (live : List Bool) (bound : Bindings) (own : List InstId) : Type 0 where
  pub flags : length live ≡ length u.offers
  pub bindings : length bound ≡ length (u.externals live)
  pub instances : length own ≡ count_by (λ b. b) live

-- An alias stands for one other name: it needs no memory, its address is the one that it is given as
-- its base, and its one external is its target.
pub record IsAlias (u : Meaning) : Type 0 where
  pub name : NameId
  pub offers : u.offers ≡ (name, record { weak = false; common = false; exported = true; callable = false }) ∷ []
  pub target : NameId
  pub externals : (live : List Bool) → u.externals live ≡ record { name = target; weak = false } ∷ []
  pub shape : (live : List Bool) → u.shape live ≡ None
  pub address : (base : ℕ) → u.address 0 base ≡ base
  pub refusal : (live : List Bool) (base : ℕ) (bound : Bindings) → u.refusal live base bound ≡ None
  pub groups : (live : List Bool) (base : ℕ) (bound : Bindings) (own : List InstId) → u.groups live base bound own ≡ record { members = own; deps = bound_instances bound } ∷ []

-- the facts that hold of every unit
pub record IsLawful (u : Meaning) : Type 0 where
  -- no name is offered twice
  pub differ : (j k : ℕ) (a b : NameId × SymFlags) → slice_get u.offers j ≡ Some a → slice_get u.offers k ≡ Some b → a.0 ≡ b.0 → j ≡ k
  -- each of its instances is a member of the groups exactly once, and nothing else is
  pub members : (live : List Bool) (base : ℕ) (bound : Bindings) (own : List InstId) → FitsUnit u live bound own → IsPermutation (flat_map (λ g. g.members) (u.groups live base bound own)) own
  -- it depends on bound instances alone
  pub deps : (live : List Bool) (base : ℕ) (bound : Bindings) (own : List InstId) → FitsUnit u live bound own → All (Contains (bound_instances bound)) (flat_map (λ g. g.deps) (u.groups live base bound own))
  -- the memory that it needs is some, and its alignment a power of two
  pub shape : (live : List Bool) → IfSome (u.shape live) (λ s. (0 < s.need) × ((k : ℕ) × (s.align ≡ 2 ^ k)))
  -- its image has the length of that memory
  pub image : (live : List Bool) (base : ℕ) (bound : Bindings) → length (u.image live base bound) ≡ option_map_or (λ s. s.need) (u.shape live) 0
  -- one that names a source is an alias
  pub alias : IfSome u.source (λ d. IsAlias u)
