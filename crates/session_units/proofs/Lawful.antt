-- A graph's unit keeps the laws of units.
use Rattle.std.proofs.Common.{◌≡◌, ◌≢◌, ℕ, zero, suc, ◌+◌, ◌*◌, ◌^◌, ◌<◌, max, Bool, List, [], ◌∷◌, length, map, get_or, Some, None, refl, sym, ap, subst, ◌∙◌, inl, inr, arith}
use Rattle.std.specs.Prelude.{slice_get, filter_map, flat_map, count_by, fold, IsTrue, IsSome, Contains}
use Rattle.std.specs.List.{All, AllPairs, filter}
use Rattle.std.proofs.lemmas.Bool.{cases_lt, cases_order, cond_both}
use Rattle.std.proofs.lemmas.List.{length-map}
use Rattle.std.proofs.lemmas.List.Elements.{All-head, All-tail, All-filter, filter_passes}
use Rattle.std.proofs.lemmas.List.Sums.{length-filter}
use Rattle.std.proofs.lemmas.Option.{same_Some}
use Rattle.link_model.proofs.Writes.{listed_length}
use Rattle.list_laws.proofs.Options.{same_option}
use Rattle.orc_ids.specs.declared.flags.SymFlags.{SymFlags}
use Rattle.orc_ids.specs.declared.groups.Group.{Group}
use Rattle.orc_ids.specs.declared.ids.InstId.{InstId}
use Rattle.orc_ids.specs.declared.ids.NameId.{NameId}
use Rattle.orc_ids.specs.declared.ids.UnitName.{UnitName}
use Rattle.session_model.specs.Meaning.{Bindings, IsLawful, bound_instances}
use Rattle.link_model.specs.Graph.{is_offered}
use Rattle.block_groups.specs.Groups.{groups_of, live_places}
use Rattle.link_model.specs.Image.{image_bytes}
use Rattle.link_model.specs.Layout.{layout_of, unit_align, unit_need, aligned, stubs_start, stub_symbols, STUB_SIZE}
use Rattle.link_model.specs.Offers.{name_of, no_symbol, offered_symbols, offers_of}
use Rattle.link_model.specs.Sound.{IsAlignment, IsSized, OffersDiffer, Sound}
use Rattle.link_model.specs.declared.graph.Block.{Block}
use Rattle.link_model.specs.declared.graph.GSym.{GSym}
use Rattle.link_model.specs.declared.graph.LinkGraph.{LinkGraph}
use Rattle.session_units.specs.Meaning.{instances, addresses, graph_meaning}
use Rattle.session_units.proofs.Sharing.{each_once, live_count, on_found}

-- ---- offers

abbrev Differ : GSym → GSym → Type 0
Differ s t = IsTrue (is_offered s) → IsTrue (is_offered t) → s.name ≢ t.name

abbrev Apart : List GSym → Type 0
Apart ss = AllPairs (λ (s t : GSym). s.name ≢ t.name) ss

apart_cons : (x : GSym) (xs : List GSym) → All (λ (t : GSym). x.name ≢ t.name) xs → Apart xs → Apart (x ∷ xs)
apart_cons x xs first rest zero zero d lt within = absurd (omega arith)
apart_cons x xs first rest zero (suc j) d lt within = first j d (omega arith)
apart_cons x xs first rest (suc i) zero d lt within = absurd (omega arith)
apart_cons x xs first rest (suc i) (suc j) d lt within = rest i j d (omega arith) (omega arith)

apart : (ss : List GSym) → AllPairs Differ ss → Apart (filter is_offered ss)
apart [] h = λ i j d lt within. absurd (omega arith)
apart (x ∷ xs) h =
    let rest : AllPairs Differ xs = λ i j d lt within. h (suc i) (suc j) d (omega arith) (omega arith) in
    let kept = filter is_offered xs in
    cond_both (is_offered x) (x ∷ kept) kept Apart
    (λ offered. apart_cons x kept
    (λ k d lt. All-filter is_offered (λ (t : GSym). IsTrue (is_offered t) → x.name ≢ t.name) xs (λ i e within. h 0 (suc i) e (omega arith) (omega arith) offered) k d lt (filter_passes is_offered xs k d lt))
    (apart xs rest))
    (λ other. apart xs rest)

at_map : {X Y : Type 0} (f : X → Y) (xs : List X) (k : ℕ) (d : X) (y : Y) → slice_get (map f xs) k ≡ Some y → (k < length xs) × (y ≡ f (get_or xs k d))
at_map f [] k d y h = absurd cc
at_map f (x ∷ xs) zero d y h = (omega arith, sym (same_Some (f x) y h))
at_map f (x ∷ xs) (suc k) d y h = let rest = at_map f xs k d y h in (omega (arith, rest.0), rest.1)

named : (g : LinkGraph) → OffersDiffer g → All (λ (s : GSym). IsSome s.name) (offered_symbols g)
named g h k d lt = All-filter is_offered (λ (s : GSym). IsTrue (is_offered s) → IsSome s.name) g.symbols h.named k d lt (filter_passes is_offered g.symbols k d lt)

offers_differ : (g : LinkGraph) → OffersDiffer g → (d : GSym) (j k : ℕ) (a b : NameId × SymFlags) → slice_get (offers_of g) j ≡ Some a → slice_get (offers_of g) k ≡ Some b → a.0 ≡ b.0 → j ≡ k
offers_differ g h d j k a b at_j at_k same =
    let f : GSym → NameId × SymFlags = λ s. (name_of s, s.flags) in
    let ss = offered_symbols g in
    let first = at_map f ss j d a at_j in
    let second = at_map f ss k d b at_k in
    let names : name_of (get_or ss j d) ≡ name_of (get_or ss k d) = ap (λ (p : NameId × SymFlags). p.0) (sym first.1) ∙ same ∙ ap (λ (p : NameId × SymFlags). p.0) second.1 in
    let equal : (get_or ss j d).name ≡ (get_or ss k d).name = same_option (get_or ss j d).name (get_or ss k d).name (record { 0 = 0 }) (named g h j d first.0) (named g h k d second.0) names in
    let differs = apart g.symbols h.differ in
    elim (cases_order j k) [
      | inl e ↦ e
      | inr other ↦ elim other [
        | inl below ↦ absurd (differs j k d below second.0 equal)
        | inr above ↦ absurd (differs k j d above first.0 (sym equal))
      ]
    ]

-- ---- groups

pub bound_are : (bound : Bindings) → filter_map (λ i. i) (instances bound) ≡ bound_instances bound
bound_are [] = refl
bound_are (None ∷ bs) = bound_are bs
bound_are (Some p ∷ bs) = ap (λ (is : List InstId). p.0 ∷ is) (bound_are bs)

-- an instance for each live name is one for each of their places
pub live_is : (g : LinkGraph) (live : List Bool) → length live ≡ length (offers_of g) → length (live_places g live) ≡ count_by (λ (b : Bool). b) live
live_is g live flags = live_count g.symbols live (flags ∙ length-map (offered_symbols g) (λ (s : GSym). (name_of s, s.flags))) ∙ length-filter (λ (b : Bool). b) live

-- ---- shape and image

Power : ℕ → Type 0
Power a = (k : ℕ) × (a ≡ 2 ^ k)

greater : (a b : ℕ) → Power a → IsAlignment b → Power (max a b)
unfolding Power
greater a b p q = elim (cases_lt a b) [
  | inl below ↦ (let e : max a b ≡ b = omega arith in (q.0, e ∙ q.2))
  | inr above ↦ (let e : max a b ≡ a = omega arith in (p.0, e ∙ p.1))
]

greatest : (bs : List Block) (a : ℕ) → Power a → All (λ (b : Block). IsAlignment b.align) bs → Power (fold (λ align (b : Block). max align b.align) a bs)
greatest [] a p h = p
greatest (b ∷ bs) a p h = greatest bs (max a b.align) (greater a b.align p (All-head (λ (b : Block). IsAlignment b.align) b bs h)) (All-tail (λ (b : Block). IsAlignment b.align) b bs h)

power_align : (g : LinkGraph) → IsSized g → (k : ℕ) × (unit_align g ≡ 2 ^ k)
unfolding Power
power_align g sized = greatest g.blocks 16 (4, refl) sized.aligns

positive_need : (x : ℕ) → 0 < max 16 x
positive_need x = omega arith

pub lawful : (name : UnitName) (g : LinkGraph) → Sound g → IsSized g → OffersDiffer g → IsLawful (graph_meaning name g)
lawful name g sound sized offers = record {
  differ = offers_differ g offers no_symbol;
  members = λ live base bound own fits. each_once g live own (instances bound) sound (fits.instances ∙ sym (live_is g live fits.flags));
  deps = λ live base bound own fits. subst (λ (xs : List InstId). All (Contains xs) (flat_map (λ (x : Group). x.deps) (groups_of g live own (instances bound)))) (bound_are bound) (on_found g live own (instances bound));
  shape = λ live. (positive_need (aligned (stubs_start g live + STUB_SIZE * length (stub_symbols g live)) 16), power_align g sized);
  image = λ live base bound. listed_length 0 (unit_need g live) (image_bytes g (layout_of g live) base (addresses bound));
  alias = tt;
}
