-- The units of a session of a program's objects are the members of the program.
use Rattle.std.proofs.Common.{◌≡◌, ℕ, zero, suc, ◌+◌, List, [], ◌∷◌, length, slice_get, arith, inl, sym, refl, ap, ap₂, ◌∙◌, Some, unwrap_or}
use Rattle.std.specs.List.{All}
use Rattle.std.proofs.lemmas.Option.{none-some, same_Some}
use Rattle.link_model.proofs.Symbols.{at_or_there}
pub use Rattle.list_laws.proofs.Each.{all_at as one_of_all}
use Rattle.link_model.specs.Image.{at_or}
use Rattle.link_model.specs.Sound.{Sound}
use Rattle.link_model.specs.declared.graph.LinkGraph.{LinkGraph}
use Rattle.session_laws.proofs.Declared.{mapped_some}
use Rattle.session_model.specs.Plain.{Plain, UnitRow}
use Rattle.static_links.specs.Laws.{laid_out}
use Rattle.memory_laws.specs.Closures.{AreObjects, IsGraphUnit, IsBlockOf, block_at, member_of, members_of}
use Rattle.memory_laws.proofs.Aliases.{own_block}
use Rattle.memory_laws.specs.NameLaws.{IsOfObjects}
use Rattle.memory_laws.specs.Names.{kept_names}
use Rattle.memory_laws.specs.Programs.{bases_of, members_from, program_members}

-- a unit is its member
pub member_there : (units : List UnitRow) (graphs : List LinkGraph) (k : ℕ) (x : UnitRow) (g : LinkGraph) → slice_get units k ≡ Some x → slice_get graphs k ≡ Some g → slice_get (members_of units graphs) k ≡ Some (member_of x g)
member_there [] graphs k x g t e = absurd (none-some x t)
member_there (y ∷ ys) [] k x g t e = absurd (none-some g e)
member_there (y ∷ ys) (f ∷ fs) zero x g t e = ap₂ (λ z d. Some (member_of z d)) (same_Some y x t) (same_Some f g e)
member_there (y ∷ ys) (f ∷ fs) (suc k) x g t e = member_there ys fs k x g t e

-- units with these names and bases are members from a number on
units_are : (all : List LinkGraph) (bases : List ℕ) (n : ℕ) (units : List UnitRow) (graphs : List LinkGraph) → length units ≡ length graphs →
    ((k j : ℕ) (x : UnitRow) (g : LinkGraph) → k ≡ n + j → slice_get units j ≡ Some x → slice_get graphs j ≡ Some g → (x.live ≡ kept_names all k g) × (at_or 0 bases k ≡ unwrap_or x.base 0)) →
    members_of units graphs ≡ members_from all bases n graphs
units_are all bases n [] [] e h = refl
units_are all bases n [] (g ∷ gs) e h = absurd (omega (arith, e))
units_are all bases n (x ∷ xs) [] e h = absurd (omega (arith, e))
units_are all bases n (x ∷ xs) (g ∷ gs) e h =
    let p = h n 0 x g (omega arith) refl refl in
    ap₂ (λ m ms. m ∷ ms) (ap₂ (laid_out g) p.0 (sym p.1)) (units_are all bases (n + 1) xs gs (omega (arith, e)) (λ k j y f is t s. h k (suc j) y f (omega (arith, is)) t s))

pub members_are : (graphs : List LinkGraph) (m : Plain) → IsOfObjects graphs m → members_of m.units graphs ≡ program_members graphs (bases_of m.units)
members_are graphs m o = units_are graphs (bases_of m.units) 0 m.units graphs o.whole each
  where
    at : (k : ℕ) (x : UnitRow) (g : LinkGraph) → slice_get m.units k ≡ Some x → slice_get graphs k ≡ Some g → (x.live ≡ kept_names graphs k g) × (at_or 0 (bases_of m.units) k ≡ unwrap_or x.base 0)
    at k x g t s = ((o.units k x g t s).keeps, at_or_there 0 (bases_of m.units) k (unwrap_or x.base 0) (mapped_some (λ (y : UnitRow). unwrap_or y.base 0) m.units k x t))

    each : (k j : ℕ) (x : UnitRow) (g : LinkGraph) → k ≡ 0 + j → slice_get m.units j ≡ Some x → slice_get graphs j ≡ Some g → (x.live ≡ kept_names graphs k g) × (at_or 0 (bases_of m.units) k ≡ unwrap_or x.base 0)
    each k j x g e t s = let is : j ≡ k = omega (arith, e) in at k x g (ap (slice_get m.units) (sym is) ∙ t) (ap (slice_get graphs) (sym is) ∙ s)

-- the units are those of sound graphs
all_graphs : (graphs : List LinkGraph) (m : Plain) → IsOfObjects graphs m → All (λ g. Sound g) graphs → (u : ℕ) (x : UnitRow) (g : LinkGraph) → slice_get m.units u ≡ Some x → slice_get graphs u ≡ Some g → IsGraphUnit x.meaning g
all_graphs graphs m o sound u x g t s = let p = o.units u x g t s in record { name = p.name; is = p.is; sound = one_of_all (λ (f : LinkGraph). Sound f) graphs u g sound s }

pub graphs_are : (graphs : List LinkGraph) (m : Plain) → IsOfObjects graphs m → All (λ g. Sound g) graphs → AreObjects m.units graphs
graphs_are graphs m o sound = record { whole = sym o.whole; each = λ u x g t s. inl (all_graphs graphs m o sound u x g t s) }

-- and each instance is its own end
pub own_ends : (graphs : List LinkGraph) (m : Plain) → IsOfObjects graphs m → All (λ g. Sound g) graphs → (i : ℕ) → IsBlockOf m graphs i (block_at graphs m.rows i)
own_ends graphs m o sound i = own_block m graphs i (sym o.whole) (all_graphs graphs m o sound)
