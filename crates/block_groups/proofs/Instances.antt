-- Instances by the places of their names.
use Rattle.std.proofs.Common.{◌≡◌, ℕ, suc, ◌+◌, ◌<◌, ◌==◌, cond, Bool, true, false, ◌&&◌, List, [], ◌∷◌, ◌++◌, length, map, take, drop, get_or, Some, None, refl, sym, ap, ◌∙◌, arith}
use Rattle.std.specs.Prelude.{zip}
use Rattle.std.specs.List.{All, filter}
use Rattle.std.proofs.lemmas.Bool.{eq-eqb, ne_eqb}
use Rattle.std.proofs.lemmas.List.{append-nil, map-append}
use Rattle.std.proofs.lemmas.List.Elements.{All-nil, All-cons, All-head, All-tail, filter-append}
use Rattle.std.proofs.lemmas.Option.{same_Some}
use Rattle.std.proofs.Math.Seq.{drop-cons}
use Rattle.orc_ids.specs.declared.ids.InstId.{InstId}
use Rattle.link_model.specs.Graph.{is_offered}
use Rattle.block_groups.specs.Groups.{is_in, is_absolute, members_at}
use Rattle.link_model.specs.Sound.{PlaceFits}
use Rattle.link_model.specs.declared.graph.GPlace.{GPlace}
use Rattle.link_model.specs.declared.graph.GPlace.TheVariants.{In, Abs, External}
use Rattle.link_model.specs.declared.graph.GSym.{GSym}
use Rattle.link_model.specs.declared.graph.LinkGraph.{LinkGraph}
use Rattle.block_groups.specs.Lists.{IsPushed}
use Rattle.block_groups.specs.Members.{places_of, list_of, AreMembers}
use Rattle.block_groups.proofs.Rows.{zip_more}

-- ---- the places of the live names

abbrev offered_live : GSym × Bool → Bool
offered_live p = is_offered p.0 && p.1

-- the place of one symbol more
pub places_next : (all symbols : List GSym) (owners : List Bool) (k : ℕ) (s : GSym) (o : Bool) (places new : List GPlace) → k < length symbols → k < length owners → s ≡ get_or symbols k s → o ≡ get_or owners k o → new ≡ cond (is_offered s && o) (places ++ s.place ∷ []) places → places ++ places_of (drop k symbols) (drop k owners) ≡ places_of symbols owners → new ++ places_of (drop (k + 1) symbols) (drop (k + 1) owners) ≡ places_of symbols owners
places_next all symbols owners k s o places new p q is has made before =
    let more : k + 1 ≡ suc k = omega arith in
    let rest : List GPlace = places_of (drop (suc k) symbols) (drop (suc k) owners) in
    let front : places_of (drop k symbols) (drop k owners) ≡ cond (is_offered s && o) (s.place ∷ rest) rest =
    ap (λ (ss : List GSym). places_of ss (drop k owners)) (drop-cons symbols k s p)
    ∙ ap (λ (bs : List Bool). places_of (get_or symbols k s ∷ drop (suc k) symbols) bs) (drop-cons owners k o q)
    ∙ ap (λ (x : GSym). places_of (x ∷ drop (suc k) symbols) (get_or owners k o ∷ drop (suc k) owners)) (sym is)
    ∙ ap (λ (b : Bool). places_of (s ∷ drop (suc k) symbols) (b ∷ drop (suc k) owners)) (sym has)
    ∙ one (is_offered s && o) (s, o) (filter offered_live (zip (drop (suc k) symbols) (drop (suc k) owners))) in
    ap (λ (n : ℕ). new ++ places_of (drop n symbols) (drop n owners)) more
    ∙ ap (λ (ps : List GPlace). ps ++ rest) made
    ∙ joined (is_offered s && o) s.place places rest
    ∙ ap (λ (ps : List GPlace). places ++ ps) (sym front)
    ∙ before
  where
    append_assoc : (xs ys zs : List GPlace) → (xs ++ ys) ++ zs ≡ xs ++ (ys ++ zs)
    append_assoc [] ys zs = refl
    append_assoc (x ∷ xs) ys zs = ap (λ (ws : List GPlace). x ∷ ws) (append_assoc xs ys zs)

    joined : (t : Bool) (x : GPlace) (ps rest : List GPlace) → cond t (ps ++ x ∷ []) ps ++ rest ≡ ps ++ cond t (x ∷ rest) rest
    joined true x ps rest = append_assoc ps (x ∷ []) rest
    joined false x ps rest = refl

    one : (t : Bool) (x : GSym × Bool) (rest : List (GSym × Bool)) → map (λ (p : GSym × Bool). p.0.place) (cond t (x ∷ rest) rest) ≡ cond t (x.0.place ∷ map (λ (p : GSym × Bool). p.0.place) rest) (map (λ (p : GSym × Bool). p.0.place) rest)
    one true x rest = refl
    one false x rest = refl

pub places_fit : (g : LinkGraph) (symbols : List GSym) (owners : List Bool) → All (λ (s : GSym). PlaceFits g s.place) symbols → All (λ (p : GPlace). PlaceFits g p) (places_of symbols owners)
places_fit g [] owners all = All-nil (λ (p : GPlace). PlaceFits g p)
places_fit g (s ∷ ss) [] all = All-nil (λ (p : GPlace). PlaceFits g p)
places_fit g (s ∷ ss) (b ∷ bs) all =
    let rest = places_fit g ss bs (All-tail (λ (x : GSym). PlaceFits g x.place) s ss all) in
    fits (is_offered s && b) (All-head (λ (x : GSym). PlaceFits g x.place) s ss all) rest
  where
    fits : (t : Bool) → PlaceFits g s.place → All (λ (p : GPlace). PlaceFits g p) (places_of ss bs) → All (λ (p : GPlace). PlaceFits g p) (map (λ (p : GSym × Bool). p.0.place) (cond t ((s, b) ∷ filter offered_live (zip ss bs)) (filter offered_live (zip ss bs))))
    fits true here rest = All-cons (λ (p : GPlace). PlaceFits g p) s.place (places_of ss bs) here rest
    fits false here rest = rest

-- ---- the lists

members_more : (test : GPlace → Bool) (places : List GPlace) (own : List InstId) (k : ℕ) (d : GPlace) (e : InstId) → k < length places → k < length own → members_at test (take (k + 1) places) (take (k + 1) own) ≡ cond (test (get_or places k d)) (members_at test (take k places) (take k own) ++ get_or own k e ∷ []) (members_at test (take k places) (take k own))
members_more test places own k d e p q =
    let pass : GPlace × InstId → Bool = λ (x : GPlace × InstId). test x.0 in
    let instance : GPlace × InstId → InstId = λ (x : GPlace × InstId). x.1 in
    let pairs : List (GPlace × InstId) = zip (take k places) (take k own) in
    let last : GPlace × InstId = (get_or places k d, get_or own k e) in
    ap (λ (xs : List (GPlace × InstId)). map instance (filter pass xs)) (zip_more places own k d e p q)
    ∙ ap (map instance) (filter-append pass pairs (last ∷ []))
    ∙ map-append instance (filter pass pairs) (filter pass (last ∷ []))
    ∙ elim (test last.0) as (λ t. map instance (filter pass pairs) ++ map instance (cond t (last ∷ []) []) ≡ cond t (map instance (filter pass pairs) ++ last.1 ∷ []) (map instance (filter pass pairs))) [
      | true ↦ refl
      | false ↦ append-nil (map instance (filter pass pairs))
    ]

differ : (a b : ℕ) → a < b → (a == b) ≡ false
differ a b lt = ne_eqb a b (λ q. omega (arith, q, lt))

differ_up : (a b : ℕ) → a < b → (b == a) ≡ false
differ_up a b lt = ne_eqb b a (λ q. omega (arith, q, lt))

-- an instance is pushed to the list of its place
in_list : (g : LinkGraph) (p : GPlace) (list : ℕ) → PlaceFits g p → list_of (length g.blocks) p ≡ Some list → (list < length g.blocks + 1) × ((b : ℕ) → b < length g.blocks → (list == b) ≡ is_in b p) × ((list == length g.blocks) ≡ is_absolute p)
in_list g (In block offset) list fits e =
    let same : block ≡ list = same_Some block list e in
    (omega (arith, same, fits.0), λ b lt. ap (λ (x : ℕ). x == b) (sym same), ap (λ (x : ℕ). x == length g.blocks) (sym same) ∙ differ block (length g.blocks) fits.0)
in_list g (Abs address) list fits e =
    let same : length g.blocks ≡ list = same_Some (length g.blocks) list e in
    (omega (arith, same), λ b lt. ap (λ (x : ℕ). x == b) (sym same) ∙ differ_up b (length g.blocks) lt, ap (λ (x : ℕ). x == length g.blocks) (sym same) ∙ eq-eqb (length g.blocks) (length g.blocks) refl)
in_list g (External weak) list fits e = absurd cc

pub list_there : (g : LinkGraph) (p : GPlace) (list : ℕ) → PlaceFits g p → list_of (length g.blocks) p ≡ Some list → list < length g.blocks + 1
list_there g p list fits e = (in_list g p list fits e).0

pub members_next : (g : LinkGraph) (places : List GPlace) (own : List InstId) (k list : ℕ) (d : GPlace) (e : InstId) (old new : List (List InstId)) → k < length places → k < length own → PlaceFits g (get_or places k d) → list_of (length g.blocks) (get_or places k d) ≡ Some list → IsPushed old list (get_or own k e) new → AreMembers (length g.blocks) (take k places) (take k own) old → AreMembers (length g.blocks) (take (k + 1) places) (take (k + 1) own) new
members_next g places own k list d e old new lt lt' fits at pushed before =
    let p : GPlace = get_or places k d in
    let i : InstId = get_or own k e in
    let facts = in_list g p list fits at in
    let more : (test : GPlace → Bool) → cond (test p) (members_at test (take k places) (take k own) ++ i ∷ []) (members_at test (take k places) (take k own)) ≡ members_at test (take (k + 1) places) (take (k + 1) own) =
    λ test. sym (members_more test places own k d e lt lt') in
    record {
      whole = pushed.whole ∙ before.whole;
      blocks = λ b below.
          pushed.rows b
          ∙ ap (λ (xs : List InstId). cond (list == b) (xs ++ i ∷ []) xs) (before.blocks b below)
          ∙ ap (λ (t : Bool). cond t (members_at (is_in b) (take k places) (take k own) ++ i ∷ []) (members_at (is_in b) (take k places) (take k own))) (facts.1 b below)
          ∙ more (is_in b);
      absolute =
          pushed.rows (length g.blocks)
          ∙ ap (λ (xs : List InstId). cond (list == length g.blocks) (xs ++ i ∷ []) xs) before.absolute
          ∙ ap (λ (t : Bool). cond t (members_at is_absolute (take k places) (take k own) ++ i ∷ []) (members_at is_absolute (take k places) (take k own))) facts.2
          ∙ more is_absolute;
    }

nowhere : (count b : ℕ) (p : GPlace) → list_of count p ≡ None → (is_in b p ≡ false) × (is_absolute p ≡ false)
nowhere count b (In block offset) e = absurd cc
nowhere count b (Abs address) e = absurd cc
nowhere count b (External weak) e = (refl, refl)

pub members_past : (g : LinkGraph) (places : List GPlace) (own : List InstId) (k : ℕ) (d : GPlace) (old : List (List InstId)) → k < length places → k < length own → list_of (length g.blocks) (get_or places k d) ≡ None → AreMembers (length g.blocks) (take k places) (take k own) old → AreMembers (length g.blocks) (take (k + 1) places) (take (k + 1) own) old
members_past g places own k d old lt lt' at before =
    let p : GPlace = get_or places k d in
    let i : InstId = get_or own k (record { 0 = 0 }) in
    let more : (test : GPlace → Bool) → test p ≡ false → members_at test (take k places) (take k own) ≡ members_at test (take (k + 1) places) (take (k + 1) own) =
    λ test off.
    ap (λ (t : Bool). cond t (members_at test (take k places) (take k own) ++ i ∷ []) (members_at test (take k places) (take k own))) (sym off)
    ∙ sym (members_more test places own k d (record { 0 = 0 }) lt lt') in
    record {
      whole = before.whole;
      blocks = λ b below. before.blocks b below ∙ more (is_in b) (nowhere (length g.blocks) b p at).0;
      absolute = before.absolute ∙ more is_absolute (nowhere (length g.blocks) 0 p at).1;
    }
