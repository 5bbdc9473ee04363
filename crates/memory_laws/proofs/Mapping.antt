-- The map of a session's symbols: each of a unit's own where it lies, and each external in the block of its end.
use Rattle.std.proofs.Common.{◌≡◌, ℕ, zero, suc, ◌+◌, ◌≤◌, Bool, true, false, ◌&&◌, ◌==◌, not, cond, List, [], ◌∷◌, slice_get, arith, inl, inr, subst, sym, refl, ap, ◌∙◌, Option, Some, None, unwrap_or}
use Rattle.std.specs.Prelude.{IfSome}
use Rattle.std.specs.Bool.{if◌then◌else◌}
use Rattle.std.proofs.lemmas.Bool.{both_ways, eq-eqb, ne_eqb}
use Rattle.std.proofs.lemmas.Option.{none-some, same_Some}
use Rattle.orc_ids.specs.declared.ids.InstId.{InstId}
use Rattle.block_groups.specs.Groups.{is_own}
use Rattle.link_model.specs.Graph.{external_symbols, is_referred, numbers_where, own_symbols}
use Rattle.link_model.specs.declared.graph.LinkGraph.{LinkGraph}
use Rattle.session_model.specs.History.{IsLegal}
use Rattle.session_model.specs.Meaning.{Bindings, Meaning}
use Rattle.session_model.specs.Plain.{Plain, UnitRow, address_at, failed_at}
use Rattle.session_model.specs.State.{state}
use Rattle.session_model.specs.declared.entry.Entry.{Entry}
use Rattle.closure_laws.proofs.Declared.{bound_addresses_are_kept}
use Rattle.closure_laws.specs.Bindings.{IsAt}
use Rattle.static_links.specs.Links.{Spot, Spots}
use Rattle.memory_laws.specs.Closures.{AreObjects, IsBlockOf, IsBoundAt, IsEnd, IsMapOf, block_at, member_of, nowhere, own_spot}
use Rattle.memory_laws.proofs.Aliases.{alias_is}
use Rattle.memory_laws.proofs.Symbols.{external_other}
use Rattle.memory_laws.proofs.Units.{graph_there}
use Rattle.memory_laws.specs.Ends.{AliasesHaveForm}
use Rattle.memory_laws.specs.Maps.{BlocksAreThere, MapIsThere}
use Rattle.memory_laws.proofs.Chains.{ends_are_one, ends_exist}

-- the aliases among objects have the form of one
pub objects_form : (units : List UnitRow) (graphs : List LinkGraph) → AreObjects units graphs → AliasesHaveForm units
objects_form units graphs are u x t alias = let g = graph_there units graphs u x are t in alias_is x g.0 alias g.2

-- Blocks

pub block_of_end : (m : Plain) (graphs : List LinkGraph) (i end : ℕ) → IsEnd m i end → IsBlockOf m graphs i (block_at graphs m.rows end)
block_of_end m graphs i end is b = (λ e. (end, is, e), λ p. ap (block_at graphs m.rows) (ends_are_one m i end p.0 is p.1) ∙ p.2)

-- each instance that has an address has an end
abbrev AllEnds : Plain → Type 0
AllEnds m = (i a : ℕ) → address_at m.rows i ≡ Some a → (end : ℕ) × IsEnd m i end

-- the block of the end of an instance, by the address that it has
block_by : (m : Plain) (graphs : List LinkGraph) → AllEnds m → (i : ℕ) (o : Option ℕ) → address_at m.rows i ≡ o → Option (ℕ × ℕ)
block_by m graphs ends i None e = None
block_by m graphs ends i (Some a) e = block_at graphs m.rows (ends i a e).0

block_by_end : (m : Plain) (graphs : List LinkGraph) (ends : AllEnds m) (i a : ℕ) (o : Option ℕ) (e : address_at m.rows i ≡ o) → o ≡ Some a → IsBlockOf m graphs i (block_by m graphs ends i o e)
unfolding block_by
block_by_end m graphs ends i a None e f = absurd (none-some a f)
block_by_end m graphs ends i a (Some b) e f = block_of_end m graphs i (ends i b e).0 (ends i b e).1

end_block : (m : Plain) (graphs : List LinkGraph) → AllEnds m → ℕ → Option (ℕ × ℕ)
end_block m graphs ends i = block_by m graphs ends i (address_at m.rows i) refl

end_block_is : (m : Plain) (graphs : List LinkGraph) (ends : AllEnds m) (i a : ℕ) → address_at m.rows i ≡ Some a → IsBlockOf m graphs i (end_block m graphs ends i)
unfolding end_block
end_block_is m graphs ends i a e = block_by_end m graphs ends i a (address_at m.rows i) refl e

pub blocks_are_there : BlocksAreThere
blocks_are_there jmax h l graphs are i address e =
    let end = ends_exist jmax h l (objects_form (state h).units graphs are) i address e in
    (block_at graphs (state h).rows end.0, block_of_end (state h) graphs i end.0 end.1)

-- Externals

-- what stands in the second list where the first one has the number
with_number : {X : Type 0} → ℕ → List ℕ → List X → Option X
with_number s (n ∷ ns) (x ∷ xs) = if n == s then Some x else with_number s ns xs
with_number s _ _ = None

above_first : (t : Bool) (k s n : ℕ) (ns : List ℕ) → ((j : ℕ) → slice_get ns j ≡ Some s → k + 1 ≤ s) → slice_get (cond t (k ∷ ns) ns) n ≡ Some s → k ≤ s
above_first true k s zero ns rest e = omega (arith, same_Some k s e)
above_first true k s (suc n) ns rest e = omega (arith, rest n e)
above_first false k s n ns rest e = omega (arith, rest n e)

numbers_above : (test : ℕ → Bool → Bool) (k s n : ℕ) (flags : List Bool) → slice_get (numbers_where test k flags) n ≡ Some s → k ≤ s
numbers_above test k s n [] e = absurd (none-some s e)
numbers_above test k s n (flag ∷ flags) e = above_first (test k flag) k s n (numbers_where test (k + 1) flags) (λ j f. numbers_above test (k + 1) s j flags f) e

found_first : {X : Type 0} (s n : ℕ) (ns : List ℕ) (x y : X) (xs : List X) → n ≡ s → x ≡ y → with_number s (n ∷ ns) (x ∷ xs) ≡ Some y
unfolding with_number
found_first {X} s n ns x y xs same is = ap (λ t. if t then Some x else with_number s ns xs) (eq-eqb n s same) ∙ ap (λ (z : X). Some z) is

found_later : {X : Type 0} (s n : ℕ) (ns : List ℕ) (x y : X) (xs : List X) → (n ≡ s → ⊥) → with_number s ns xs ≡ Some y → with_number s (n ∷ ns) (x ∷ xs) ≡ Some y
unfolding with_number
found_later s n ns x y xs other e = ap (λ t. if t then Some x else with_number s ns xs) (ne_eqb n s other) ∙ e

found_in_both : {X : Type 0} (t : Bool) (k s n : ℕ) (ns : List ℕ) (x y : X) (xs : List X) → ((j : ℕ) → slice_get ns j ≡ Some s → k + 1 ≤ s) → ((j : ℕ) (zs : List X) → slice_get ns j ≡ Some s → slice_get zs j ≡ Some y → with_number s ns zs ≡ Some y) →
    slice_get (cond t (k ∷ ns) ns) n ≡ Some s → slice_get (x ∷ xs) n ≡ Some y → with_number s (cond t (k ∷ ns) ns) (x ∷ xs) ≡ Some y
found_in_both true k s zero ns x y xs above rest e f = found_first s k ns x y xs (same_Some k s e) (same_Some x y f)
found_in_both true k s (suc n) ns x y xs above rest e f = found_later s k ns x y xs (λ same. omega (arith, same, above n e)) (rest n xs e f)
found_in_both false k s n ns x y xs above rest e f = rest n (x ∷ xs) e f

-- a number stands once in a list of numbers
found_there : {X : Type 0} (test : ℕ → Bool → Bool) (k s n : ℕ) (flags : List Bool) (xs : List X) (y : X) → slice_get (numbers_where test k flags) n ≡ Some s → slice_get xs n ≡ Some y → with_number s (numbers_where test k flags) xs ≡ Some y
found_there test k s n [] xs y e f = absurd (none-some s e)
found_there test k s n (flag ∷ flags) [] y e f = absurd (none-some y f)
found_there test k s n (flag ∷ flags) (x ∷ xs) y e f = found_in_both (test k flag) k s n (numbers_where test (k + 1) flags) x y xs
    (λ j g. numbers_above test (k + 1) s j flags g)
    (λ j zs g p. found_there test (k + 1) s j flags zs y g p)
    e f

-- where an external is that is bound so
external_spot : (m : Plain) (graphs : List LinkGraph) → AllEnds m → Option (Option (InstId × ℕ)) → Spot
external_spot m graphs ends (Some (Some p)) = record { address = p.1; block = end_block m graphs ends p.0.0 }
external_spot m graphs ends _ = nowhere

-- The map

symbol_spot : (m : Plain) (graphs : List LinkGraph) → AllEnds m → ℕ → ℕ → UnitRow → LinkGraph → Bool → Spot
symbol_spot m graphs ends u s x g true = own_spot u (member_of x g) s
symbol_spot m graphs ends u s x g false = external_spot m graphs ends (with_number s (external_symbols g x.live) (unwrap_or x.bound []))

unit_spot : (m : Plain) (graphs : List LinkGraph) → AllEnds m → ℕ → ℕ → Option UnitRow → Option LinkGraph → Spot
unit_spot m graphs ends u s (Some x) (Some g) = symbol_spot m graphs ends u s x g (is_own g x.live s)
unit_spot m graphs ends u s _ _ = nowhere

map_by : (m : Plain) (graphs : List LinkGraph) → AllEnds m → Spots
map_by m graphs ends u s = unit_spot m graphs ends u s (slice_get m.units u) (slice_get graphs u)

spot_is : (m : Plain) (graphs : List LinkGraph) (ends : AllEnds m) (u s : ℕ) (x : UnitRow) (g : LinkGraph) (t : Bool) → slice_get m.units u ≡ Some x → slice_get graphs u ≡ Some g → is_own g x.live s ≡ t → map_by m graphs ends u s ≡ symbol_spot m graphs ends u s x g t
unfolding map_by unit_spot
spot_is m graphs ends u s x g t there seen own =
    ap (λ o. unit_spot m graphs ends u s o (slice_get graphs u)) there
    ∙ ap (λ o. unit_spot m graphs ends u s (Some x) o) seen
    ∙ ap (symbol_spot m graphs ends u s x g) own

own_spot_is : (m : Plain) (graphs : List LinkGraph) (ends : AllEnds m) (u s : ℕ) (x : UnitRow) (g : LinkGraph) → symbol_spot m graphs ends u s x g true ≡ own_spot u (member_of x g) s
unfolding symbol_spot
own_spot_is m graphs ends u s x g = refl

external_spot_is : (m : Plain) (graphs : List LinkGraph) (ends : AllEnds m) (u s k : ℕ) (x : UnitRow) (g : LinkGraph) (b : Option (InstId × ℕ)) → slice_get (external_symbols g x.live) k ≡ Some s → slice_get (unwrap_or x.bound []) k ≡ Some b → symbol_spot m graphs ends u s x g false ≡ external_spot m graphs ends (Some b)
unfolding symbol_spot
external_spot_is m graphs ends u s k x g b external at = ap (external_spot m graphs ends)
    (found_there (λ n own. not own && is_referred g.edges n) 0 s k (own_symbols g.symbols x.live) (unwrap_or x.bound []) b external at)

-- what an instance was bound at it has, unless it failed
abbrev BoundAddresses : Plain → Type 0
BoundAddresses m = (u k : ℕ) (x : UnitRow) (p : InstId × ℕ) → slice_get m.units u ≡ Some x → slice_get (unwrap_or x.bound []) k ≡ Some (Some p) → IsAt m.rows p.0.0 p.1

bound_at : (m : Plain) (graphs : List LinkGraph) (ends : AllEnds m) (u k : ℕ) (x : UnitRow) (b : Option (InstId × ℕ)) → BoundAddresses m → slice_get m.units u ≡ Some x → slice_get (unwrap_or x.bound []) k ≡ Some b → IfSome b (λ p. failed_at m.rows p.0.0 ≡ false) →
    IsBoundAt m graphs b (external_spot m graphs ends (Some b))
unfolding external_spot
bound_at m graphs ends u k x None kept t at unfailed = refl
bound_at m graphs ends u k x (Some p) kept t at unfailed = (refl, by (kept u k x p t at))
  where
    by : IsAt m.rows p.0.0 p.1 → IsBlockOf m graphs p.0.0 (end_block m graphs ends p.0.0)
    by (inl has) = end_block_is m graphs ends p.0.0 p.1 has
    by (inr failed) = absurd (both_ways (failed_at m.rows p.0.0) unfailed failed)

map_is : (m : Plain) (graphs : List LinkGraph) (ends : AllEnds m) → BoundAddresses m → IsMapOf m graphs (map_by m graphs ends)
map_is m graphs ends kept = record {
  own = λ u s x g t e done own. spot_is m graphs ends u s x g true t e own ∙ own_spot_is m graphs ends u s x g;
  bound = λ u s k x g b t e done external at unfailed.
      subst (IsBoundAt m graphs b)
      (sym (spot_is m graphs ends u s x g false t e (external_other g x.live k s external) ∙ external_spot_is m graphs ends u s k x g b external at))
      (bound_at m graphs ends u k x b kept t at unfailed);
}

bound_addresses : (jmax : ℕ) (h : List (Entry Meaning)) → IsLegal jmax h → BoundAddresses (state h)
bound_addresses jmax h l u k x p t at = split x.bound refl at
  where
    split : (o : Option Bindings) → x.bound ≡ o → slice_get (unwrap_or o []) k ≡ Some (Some p) → IsAt (state h).rows p.0.0 p.1
    split None e f = absurd (none-some (Some p) f)
    split (Some bound) e f = bound_addresses_are_kept jmax h l u x bound t e k p.0 p.1 f

pub map_is_there : MapIsThere
map_is_there jmax h l graphs are =
    let ends : AllEnds (state h) = ends_exist jmax h l (objects_form (state h).units graphs are) in
    (map_by (state h) graphs ends, map_is (state h) graphs ends (bound_addresses jmax h l))
