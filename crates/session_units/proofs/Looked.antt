-- What is looked up of a graph's offers and externals.
use Rattle.std.proofs.Common.{◌≡◌, ℕ, zero, suc, ◌+◌, ◌%◌, ◌^◌, ◌<◌, ◌≤◌, Bool, true, false, cond, ltb, List, [], ◌∷◌, length, map, get_or, Some, refl, sym, ap, subst, ◌∙◌, arith}
use Rattle.std.specs.Prelude.{slice_get}
use Rattle.std.specs.List.{filter}
use Rattle.std.proofs.lemmas.Bool.{ltb-true, ltb-false}
use Rattle.std.proofs.lemmas.List.{length-map}
use Rattle.std.proofs.lemmas.List.Elements.{All-filter}
use Rattle.list_laws.proofs.Lists.{mapped_below}
use Rattle.link_model.proofs.Symbols.{place_at}
use Rattle.link_model.proofs.Layouts.{length-offsets}
use Rattle.orc_ids.specs.declared.flags.SymFlags.{SymFlags}
use Rattle.orc_ids.specs.declared.ids.NameId.{NameId}
use Rattle.unit_fixups.proofs.Inside.{at_or-get}
use Rattle.link_model.specs.Graph.{is_offered}
use Rattle.link_model.specs.Image.{at_or, own_address}
use Rattle.link_model.specs.Offers.{offered_symbols, offers_of, wanted_of, no_symbol, name_of, is_weak_reference}
use Rattle.link_model.specs.Layout.{block_offsets, layout_of}
use Rattle.link_model.specs.Sound.{Sound, PlaceFits, IsSized}
use Rattle.link_model.specs.declared.graph.GPlace.{GPlace}
use Rattle.link_model.specs.declared.graph.GPlace.TheVariants.{In, Abs}
use Rattle.link_model.specs.declared.graph.GSym.{GSym}
use Rattle.link_model.specs.declared.graph.LinkGraph.{LinkGraph}
use Rattle.session_units.specs.declared.offers.Offer.{Offer}
use Rattle.session_units.specs.Offered.{offer_of, AreOffers}

pub offers_count : (g : LinkGraph) (offers : List Offer) → AreOffers g offers → length offers ≡ length (offers_of g)
offers_count g offers are = ap (λ (xs : List Offer). length xs) are ∙ length-map (offered_symbols g) offer_of ∙ sym (length-map (offered_symbols g) (λ (s : GSym). (name_of s, s.flags)))

filter_small : (ss : List GSym) → length (filter is_offered ss) ≤ length ss
filter_small [] = omega arith
filter_small (s ∷ ss) = either (is_offered s) (filter_small ss)
  where
    either : (b : Bool) → length (filter is_offered ss) ≤ length ss → length (cond b (s ∷ filter is_offered ss) (filter is_offered ss)) ≤ suc (length ss)
    either true h = omega arith
    either false h = omega arith

pub offers_few : (g : LinkGraph) (offers : List Offer) → AreOffers g offers → IsSized g → length offers ≤ 65536
offers_few g offers are sized =
    let count = ap (λ (xs : List Offer). length xs) are ∙ length-map (offered_symbols g) offer_of in
    omega (arith, count, filter_small g.symbols, sized.symbols)

-- one element of what was mapped
mapped_at : {X Y : Type 0} (f : X → Y) (xs : List X) (k : ℕ) (d : X) (e : Y) → k < length xs → get_or (map f xs) k e ≡ f (get_or xs k d)
mapped_at f [] k d e lt = absurd (omega arith)
mapped_at f (x ∷ xs) zero d e lt = refl
mapped_at f (x ∷ xs) (suc k) d e lt = mapped_at f xs k d e (omega arith)

pub record Found (g : LinkGraph) (k : ℕ) (o : Offer) : Type 0 where
  pub offer : slice_get (offers_of g) k ≡ Some (o.name, o.flags)
  pub place : at_or (Abs 0) (map (λ (s : GSym). s.place) (offered_symbols g)) k ≡ o.place
  pub fits : PlaceFits g o.place

pub found : (g : LinkGraph) (offers : List Offer) (k : ℕ) (o : Offer) → Sound g → AreOffers g offers → k < length (offers_of g) → o ≡ get_or offers k o → Found g k o
found g offers k o sound are lt is =
    let ss = offered_symbols g in
    let look : GSym → NameId × SymFlags = λ s. (name_of s, s.flags) in
    let lt' : k < length ss = omega (arith, length-map ss look) in
    let s : GSym = get_or ss k no_symbol in
    let same : o ≡ offer_of s = is ∙ ap (λ (xs : List Offer). get_or xs k o) are ∙ mapped_at offer_of ss k no_symbol o lt' in
    record {
      offer = mapped_below (λ (x : GSym). (name_of x, x.flags)) ss k no_symbol lt' ∙ ap (λ (x : Offer). Some (x.name, x.flags)) (sym same);
      place = place_at ss k no_symbol lt' ∙ ap (λ (x : Offer). x.place) (sym same);
      fits = subst (λ (x : Offer). PlaceFits g x.place) (sym same) (All-filter is_offered (λ (x : GSym). PlaceFits g x.place) g.symbols sound.symbols k no_symbol lt');
    }

-- the same of a graph that is seen
pub found_in : (g now : LinkGraph) (offers : List Offer) (k : ℕ) (o : Offer) → g ≡ now → Sound g → AreOffers g offers → k < length (offers_of now) → o ≡ get_or offers k o → Found now k o
found_in g now offers k o e sound are lt is = found now offers k o (subst Sound e sound) (subst (λ (x : LinkGraph). AreOffers x offers) e are) lt is

-- ---- externals

pub symbol_some : (ss all : List GSym) (k : ℕ) (s : GSym) → all ≡ ss → true ≡ ltb k (length all) → s ≡ get_or all k s → at_or no_symbol ss k ≡ s
symbol_some ss all k s e lt is =
    there ss k s (subst (λ (xs : List GSym). k < length xs) e (ltb-true k (length all) (sym lt))) (subst (λ (xs : List GSym). s ≡ get_or xs k s) e is)
  where
    there : (ss : List GSym) (k : ℕ) (s : GSym) → k < length ss → s ≡ get_or ss k s → at_or no_symbol ss k ≡ s
    there [] k s lt is = absurd (omega arith)
    there (x ∷ xs) zero s lt is = sym is
    there (x ∷ xs) (suc k) s lt is = there xs k s (omega arith) is

pub symbol_none : (ss all : List GSym) (k : ℕ) → all ≡ ss → false ≡ ltb k (length all) → at_or no_symbol ss k ≡ no_symbol
symbol_none ss all k e past = none ss k (subst (λ (xs : List GSym). length xs ≤ k) e (ltb-false k (length all) (sym past)))
  where
    none : (ss : List GSym) (k : ℕ) → length ss ≤ k → at_or no_symbol ss k ≡ no_symbol
    none [] k past = refl
    none (x ∷ xs) zero past = absurd (omega arith)
    none (x ∷ xs) (suc k) past = none xs k (omega arith)

pub wanted_is : (s s' : GSym) (name : NameId) (weak : Bool) → s' ≡ s → name ≡ name_of s → weak ≡ is_weak_reference s.place → record { name = name; weak = weak } ≡ wanted_of s'
wanted_is s s' name weak e n w = rw (n, w) (ap wanted_of (sym e))

-- ---- addresses

mod_twice : (x y : ℕ) → (x % 2 ^ 64 + y) % 2 ^ 64 ≡ (x + y) % 2 ^ 64
mod_twice x y = omega arith

pub block_there : (g : LinkGraph) (place : GPlace) (block offset : ℕ) (offsets : List ℕ) → place ≡ In block offset → PlaceFits g place → offsets ≡ block_offsets 0 g.blocks → block < length offsets
block_there g place block offset offsets e fits is =
    let there = subst (PlaceFits g) e fits in
    let count = ap (λ (xs : List ℕ). length xs) is ∙ length-offsets 0 g.blocks in
    omega (arith, there.0, count)

pub address_in : (g : LinkGraph) (place : GPlace) (base block offset : ℕ) (offsets : List ℕ) → place ≡ In block offset → offsets ≡ block_offsets 0 g.blocks → ((base + get_or offsets block 0) % 2 ^ 64 + offset) % 2 ^ 64 ≡ own_address (layout_of g []) base place % 2 ^ 64
address_in g place base block offset offsets e is =
    let start : get_or offsets block 0 ≡ at_or 0 (block_offsets 0 g.blocks) block = ap (λ (xs : List ℕ). get_or xs block 0) is ∙ sym (at_or-get 0 (block_offsets 0 g.blocks) block) in
    mod_twice (base + get_or offsets block 0) offset
    ∙ ap (λ (n : ℕ). (base + n + offset) % 2 ^ 64) start
    ∙ ap (λ (p : GPlace). own_address (layout_of g []) base p % 2 ^ 64) (sym e)
