-- A unit that is done was told the map's address of each symbol that its edges refer to, unless what it is bound to failed.
use Rattle.std.proofs.Common.{◌≡◌, ℕ, zero, suc, ◌==◌, Bool, true, false, cond, List, [], ◌∷◌, length, slice_get, Contains, sym, refl, ap, ◌∙◌, arith, Option, Some, None, option_map, unwrap_or}
use Rattle.std.proofs.lemmas.Bool.{both_ways, eq-eqb, eqb-true}
use Rattle.std.proofs.lemmas.Option.{none-some, same_Some}
use Rattle.orc_ids.specs.declared.ids.InstId.{InstId}
use Rattle.block_groups.specs.Groups.{is_own}
use Rattle.closure_laws.specs.Bound.{HasAll}
use Rattle.link_model.specs.Graph.{external_symbols}
use Rattle.link_model.specs.Image.{bound_address, own_address, place_of, told_address}
use Rattle.link_model.specs.Layout.{layout_of}
use Rattle.link_model.specs.declared.graph.Edge.{Edge}
use Rattle.link_model.specs.declared.graph.LinkGraph.{LinkGraph}
use Rattle.session_model.specs.Meaning.{Bindings}
use Rattle.session_model.specs.Plain.{Plain, UnitRow}
use Rattle.session_model.specs.declared.rows.UnitPhase.TheVariants as stage
use Rattle.session_units.specs.Meaning.{addresses}
use Rattle.static_links.specs.Links.{Spot, Spots}
use Rattle.memory_laws.specs.Closures.{IsBoundAt, IsGraphUnit, IsMapOf}
use Rattle.memory_laws.proofs.Reached.{IsUnfailed, bindings_whole, bound_external}
use Rattle.memory_laws.proofs.Symbols.{external_other}

-- a symbol that isn't listed is bound to nothing
unbound : (xs : List ℕ) (bound : List (Option ℕ)) (s : ℕ) → ((k : ℕ) → slice_get xs k ≡ Some s → ⊥) → bound_address xs bound s ≡ None
unbound [] bound s n = refl
unbound (x ∷ xs) [] s n = refl
unbound (x ∷ xs) (b ∷ bs) s n = other (x == s) refl (unbound xs bs s (λ k. n (suc k)))
  where
    other : (t : Bool) → (x == s) ≡ t → bound_address xs bs s ≡ None → cond t (Some (unwrap_or b 0)) (bound_address xs bs s) ≡ None
    other true e rest = absurd (n 0 (ap Some (eqb-true x s e)))
    other false e rest = rest

-- the address that an external is bound at
abbrev address_of : Option (InstId × ℕ) → Option ℕ
address_of item = option_map (λ (p : InstId × ℕ). p.1) item

-- the first place of a symbol in a list, and what is bound there
record IsFirst (xs : List ℕ) (bound : Bindings) (s : ℕ) : Type 0 where
  number : ℕ
  there : slice_get xs number ≡ Some s
  item : Option (InstId × ℕ)
  is : slice_get bound number ≡ Some item
  address : bound_address xs (addresses bound) s ≡ Some (unwrap_or (address_of item) 0)

first_one : (x s : ℕ) (xs : List ℕ) (b : Option (InstId × ℕ)) (bs : Bindings) (t : Bool) → (x == s) ≡ t → (t ≡ false → IsFirst xs bs s) → IsFirst (x ∷ xs) (b ∷ bs) s
first_one x s xs b bs true e later = record {
  number = 0;
  there = ap Some (eqb-true x s e);
  item = b;
  is = refl;
  address = ap (λ (t : Bool). cond t (Some (unwrap_or (address_of b) 0)) (bound_address xs (addresses bs) s)) e;
}
first_one x s xs b bs false e later =
    let p = later refl in
    record {
      number = suc p.number;
      there = p.there;
      item = p.item;
      is = p.is;
      address = ap (λ (t : Bool). cond t (Some (unwrap_or (address_of b) 0)) (bound_address xs (addresses bs) s)) e ∙ p.address;
    }

first_of_list : (xs : List ℕ) (bound : Bindings) (s k : ℕ) → length bound ≡ length xs → slice_get xs k ≡ Some s → IsFirst xs bound s
first_of_list [] bound s k whole e = absurd (none-some s e)
first_of_list (x ∷ xs) [] s k whole e = absurd (omega (arith, whole))
first_of_list (x ∷ xs) (b ∷ bs) s zero whole e = first_one x s xs b bs (x == s) refl (λ off. absurd (both_ways (x == s) off (eq-eqb x s (same_Some x s e))))
first_of_list (x ∷ xs) (b ∷ bs) s (suc k) whole e = first_one x s xs b bs (x == s) refl (λ off. first_of_list xs bs s k (omega (arith, whole)) e)

spot_address : (m : Plain) (graphs : List LinkGraph) (item : Option (InstId × ℕ)) (spot : Spot) → IsBoundAt m graphs item spot → spot.address ≡ unwrap_or (address_of item) 0
spot_address m graphs None spot is = ap (λ (z : Spot). z.address) is
spot_address m graphs (Some p) spot is = is.0

abbrev told : UnitRow → LinkGraph → ℕ → ℕ
told x g = told_address g (layout_of g x.live) (unwrap_or x.base 0) (addresses (unwrap_or x.bound []))

told_own : (m : Plain) (graphs : List LinkGraph) (spots : Spots) (u s : ℕ) (x : UnitRow) (g : LinkGraph) → IsMapOf m graphs spots → slice_get m.units u ≡ Some x → slice_get graphs u ≡ Some g → x.phase ≡ stage.Done → is_own g x.live s ≡ true → told x g s ≡ (spots u s).address
told_own m graphs spots u s x g map_is there seen done own =
    ap (λ (o : Option ℕ). unwrap_or o (own_address (layout_of g x.live) (unwrap_or x.base 0) (place_of g s)))
    (unbound (external_symbols g x.live) (addresses (unwrap_or x.bound [])) s (λ k e. both_ways (is_own g x.live s) (external_other g x.live k s e) own))
    ∙ ap (λ (z : Spot). z.address) (sym (map_is.own u s x g there seen done own))

told_other : (m : Plain) (graphs : List LinkGraph) (spots : Spots) (u : ℕ) (x : UnitRow) (g : LinkGraph) (e : Edge) → IsMapOf m graphs spots → slice_get m.units u ≡ Some x → slice_get graphs u ≡ Some g → x.phase ≡ stage.Done → IsGraphUnit x.meaning g → HasAll x → Contains g.edges e → is_own g x.live e.target ≡ false → IsUnfailed m.rows x g e.target → told x g e.target ≡ (spots u e.target).address
told_other m graphs spots u x g e map_is there seen done is all c other unfailed =
    let external = bound_external x g e is all c other in
    let first = first_of_list (external_symbols g x.live) (unwrap_or x.bound []) e.target external.number (bindings_whole x g is all) external.there in
    ap (λ (o : Option ℕ). unwrap_or o (own_address (layout_of g x.live) (unwrap_or x.base 0) (place_of g e.target))) first.address
    ∙ sym (spot_address m graphs first.item (spots u e.target) (map_is.bound u e.target first.number x g first.item there seen done first.there first.is (unfailed first.number first.item first.there first.is)))

-- the address that a unit was told of the symbol of an edge is the map's, unless what it is bound to failed
pub told_so : (m : Plain) (graphs : List LinkGraph) (spots : Spots) (u : ℕ) (x : UnitRow) (g : LinkGraph) (e : Edge) → IsMapOf m graphs spots → slice_get m.units u ≡ Some x → slice_get graphs u ≡ Some g → x.phase ≡ stage.Done → IsGraphUnit x.meaning g → HasAll x → Contains g.edges e → IsUnfailed m.rows x g e.target → told x g e.target ≡ (spots u e.target).address
told_so m graphs spots u x g e map_is there seen done is all c unfailed = by (is_own g x.live e.target) refl
  where
    by : (t : Bool) → is_own g x.live e.target ≡ t → told x g e.target ≡ (spots u e.target).address
    by true own = told_own m graphs spots u e.target x g map_is there seen done own
    by false other = told_other m graphs spots u x g e map_is there seen done is all c other unfailed
