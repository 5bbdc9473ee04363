-- The groups of a graph have each instance once, and depend on what is bound.
use Rattle.std.proofs.Common.{◌≡◌, ◌≢◌, ℕ, zero, suc, ◌+◌, ◌<◌, ◌≤◌, cond, Bool, true, false, ◌&&◌, not, List, [], ◌∷◌, ◌++◌, length, map, get_or, Option, Some, None, refl, sym, ap, subst, ◌∙◌, ◌⊎◌, inl, inr, arith}
use Rattle.std.specs.Prelude.{zip, flat_map, filter_map, Contains, IsPermutation, ⊤}
use Rattle.std.specs.List.{All, filter, cons_option, range_with_len}
use Rattle.std.proofs.lemmas.Bool.{eqb-true, ne_eqb, eq-eqb, false≢true, and_parts}
use Rattle.std.proofs.lemmas.Grind.{flat_map-append}
use Rattle.std.proofs.lemmas.List.{append-nil, map-append}
use Rattle.std.proofs.lemmas.List.Elements.{All-nil, All-cons, All-head, All-tail, All-append, All-filter, filter_passes}
use Rattle.std.proofs.lemmas.List.Sorted.{IsPermutation-refl, IsPermutation-sym, IsPermutation-trans, IsPermutation-map, IsPermutation-append_right, IsPermutation-filter_both}
use Rattle.orc_ids.specs.declared.ids.InstId.{InstId}
use Rattle.orc_ids.specs.declared.groups.Group.{Group}
use Rattle.link_model.specs.Graph.{is_defined, is_offered, first_flag, other_flags, own_symbols, external_symbols}
use Rattle.block_groups.specs.Groups.{is_in, is_absolute, members_at, needs, needed, group_of, live_places, groups_of}
use Rattle.link_model.specs.Sound.{PlaceFits, Sound}
use Rattle.link_model.specs.declared.graph.GPlace.{GPlace}
use Rattle.link_model.specs.declared.graph.GPlace.TheVariants.{In, Abs, External}
use Rattle.link_model.specs.declared.graph.GSym.{GSym}
use Rattle.link_model.specs.declared.graph.LinkGraph.{LinkGraph}

abbrev Pair : Type 0
Pair = GPlace × InstId

abbrev second : Pair → InstId
second p = p.1

-- the pairs whose places pass
abbrev kept : (GPlace → Bool) → List Pair → List Pair
kept test ps = filter (λ (p : Pair). test p.0) ps

abbrev picked : (GPlace → Bool) → List Pair → List InstId
picked test ps = map second (kept test ps)

-- ---- each instance once

-- a place in one of the blocks from a on, of which there are n, or an absolute one
abbrev Lies : ℕ → ℕ → GPlace → Type 0
Lies a n (In block offset) = (a ≤ block) × (block < a + n)
Lies a n (Abs address) = ⊤
Lies a n (External weak) = ⊥

-- a test that passes only what another refuses sees the same without what that one passes
kept_apart : (test other : GPlace → Bool) (ps : List Pair) → ((p : GPlace) → other p ≡ true → test p ≡ false) → kept test (kept (λ p. not (other p)) ps) ≡ kept test ps
kept_apart test other [] h = refl
kept_apart test other (p ∷ ps) h = cases (kept_apart test other ps h) (other p.0) refl
  where
    cases : kept test (kept (λ q. not (other q)) ps) ≡ kept test ps → (t : Bool) → other p.0 ≡ t → kept test (cond (not (other p.0)) (p ∷ kept (λ q. not (other q)) ps) (kept (λ q. not (other q)) ps)) ≡ kept test (p ∷ ps)
    cases rest true e = rw (e, h p.0 e) rest
    cases rest false e = rw e (ap (λ (qs : List Pair). cond (test p.0) (p ∷ qs) qs) rest)

absolutes_all : (a : ℕ) (ps : List Pair) → All (λ (p : Pair). Lies a 0 p.0) ps → kept is_absolute ps ≡ ps
absolutes_all a [] all = refl
absolutes_all a ((In block offset, i) ∷ ps) all =
    let lies = All-head (λ (p : Pair). Lies a 0 p.0) (In block offset, i) ps all in absurd (omega (arith, lies.0, lies.1))
absolutes_all a ((Abs address, i) ∷ ps) all = ap (λ (qs : List Pair). (Abs address, i) ∷ qs) (absolutes_all a ps (All-tail (λ (p : Pair). Lies a 0 p.0) (Abs address, i) ps all))
absolutes_all a ((External weak, i) ∷ ps) all = absurd (All-head (λ (p : Pair). Lies a 0 p.0) (External weak, i) ps all)

not_absolute : (a : ℕ) (p : GPlace) → is_in a p ≡ true → is_absolute p ≡ false
not_absolute a (In block offset) h = refl
not_absolute a (Abs address) h = absurd (false≢true h)
not_absolute a (External weak) h = refl

not_both : (a b : ℕ) (p : GPlace) → a < b → is_in a p ≡ true → is_in b p ≡ false
not_both a b (In block offset) lt h = ne_eqb block b (λ q. omega (arith, q, lt, eqb-true block a h))
not_both a b (Abs address) lt h = refl
not_both a b (External weak) lt h = refl

lies_on : (a n : ℕ) (p : GPlace) → not (is_in a p) ≡ true → Lies a (suc n) p → Lies (a + 1) n p
lies_on a n (In block offset) h lies =
    let other : block ≢ a = λ q. false≢true (sym (ap not (eq-eqb block a q)) ∙ h) in
    above block a n other lies.0 lies.1
  where
    above : (b a n : ℕ) → b ≢ a → a ≤ b → b < a + suc n → (a + 1 ≤ b) × (b < a + 1 + n)
    above b a n other low high = (omega (arith, low, λ (q : b ≡ a). other q), omega (arith, high))
lies_on a n (Abs address) h lies = tt
lies_on a n (External weak) h lies = lies

-- what stands in the blocks from a on, and then what is absolute
abbrev sorted : ℕ → ℕ → List Pair → List InstId
sorted a n ps = flat_map (λ b. picked (is_in b) ps) (range_with_len a n) ++ picked is_absolute ps

same_picks : (a n c : ℕ) (ps qs : List Pair) → c < a → ((b : ℕ) → c < b → picked (is_in b) ps ≡ picked (is_in b) qs) → flat_map (λ b. picked (is_in b) ps) (range_with_len a n) ≡ flat_map (λ b. picked (is_in b) qs) (range_with_len a n)
same_picks a zero c ps qs lt h = refl
same_picks a (suc n) c ps qs lt h =
    ap (λ (is : List InstId). is ++ flat_map (λ b. picked (is_in b) ps) (range_with_len (a + 1) n)) (h a lt)
    ∙ ap (λ (is : List InstId). picked (is_in a) qs ++ is) (same_picks (a + 1) n c ps qs (omega (arith, lt)) h)

append_assoc : {X : Type 0} (xs ys zs : List X) → (xs ++ ys) ++ zs ≡ xs ++ (ys ++ zs)
append_assoc [] ys zs = refl
append_assoc {X} (x ∷ xs) ys zs = ap (λ (ws : List X). x ∷ ws) (append_assoc xs ys zs)

all_sorted : (a n : ℕ) (ps : List Pair) → All (λ (p : Pair). Lies a n p.0) ps → IsPermutation (sorted a n ps) (map second ps)
all_sorted a zero ps all = subst (λ (qs : List Pair). IsPermutation (map second (kept is_absolute ps)) (map second qs)) (absolutes_all a ps all) (IsPermutation-refl (map second (kept is_absolute ps)))
all_sorted a (suc n) ps all =
    let others : List Pair = kept (λ p. not (is_in a p)) ps in
    let first : List InstId = picked (is_in a) ps in
    let lies : All (λ (p : Pair). Lies (a + 1) n p.0) others =
    λ k d lt. lies_on a n (get_or others k d).0 (filter_passes (λ (p : Pair). not (is_in a p.0)) ps k d lt) (All-filter (λ (p : Pair). not (is_in a p.0)) (λ (p : Pair). Lies a (suc n) p.0) ps all k d lt) in
    let apart : (test : GPlace → Bool) → ((p : GPlace) → is_in a p ≡ true → test p ≡ false) → picked test ps ≡ picked test others = λ test h. ap (map second) (sym (kept_apart test (is_in a) ps h)) in
    let rest : flat_map (λ b. picked (is_in b) ps) (range_with_len (a + 1) n) ++ picked is_absolute ps ≡ sorted (a + 1) n others =
    ap (λ (is : List InstId). is ++ picked is_absolute ps) (same_picks (a + 1) n a ps others (omega arith) (λ b lt. apart (is_in b) (λ p h. not_both a b p lt h)))
    ∙ ap (λ (is : List InstId). flat_map (λ b. picked (is_in b) others) (range_with_len (a + 1) n) ++ is) (apart is_absolute (λ p h. not_absolute a p h)) in
    let split : IsPermutation (map second ps) (first ++ map second others) =
    subst (IsPermutation (map second ps)) (map-append second (kept (is_in a) ps) others)
    (IsPermutation-map second ps (kept (is_in a) ps ++ others) (IsPermutation-filter_both (λ (p : Pair). is_in a p.0) (λ (p : Pair). not (is_in a p.0)) (λ p. refl) ps)) in
    let front : sorted a (suc n) ps ≡ first ++ sorted (a + 1) n others =
    append_assoc first (flat_map (λ b. picked (is_in b) ps) (range_with_len (a + 1) n)) (picked is_absolute ps) ∙ ap (λ (is : List InstId). first ++ is) rest in
    subst (λ (is : List InstId). IsPermutation is (map second ps)) (sym front)
    (IsPermutation-trans (first ++ sorted (a + 1) n others) (first ++ map second others) (map second ps)
    (IsPermutation-append_right first (sorted (a + 1) n others) (map second others) (all_sorted (a + 1) n others lies))
    (IsPermutation-sym (map second ps) (first ++ map second others) split))

pub group_members : (is deps : List InstId) → flat_map (λ (g : Group). g.members) (group_of is deps) ≡ is
group_members [] deps = refl
group_members (i ∷ is) deps = append-nil (i ∷ is)

blocks_members : (f : ℕ → List InstId) (d : ℕ → List InstId) (bs : List ℕ) → flat_map (λ (g : Group). g.members) (flat_map (λ b. group_of (f b) (d b)) bs) ≡ flat_map f bs
blocks_members f d [] = refl
blocks_members f d (b ∷ bs) =
    flat_map-append (λ (g : Group). g.members) (group_of (f b) (d b)) (flat_map (λ b. group_of (f b) (d b)) bs)
    ∙ ap (λ (is : List InstId). is ++ flat_map (λ (g : Group). g.members) (flat_map (λ b. group_of (f b) (d b)) bs)) (group_members (f b) (d b))
    ∙ ap (λ (is : List InstId). f b ++ is) (blocks_members f d bs)

zip_second : (places : List GPlace) (own : List InstId) → length own ≡ length places → map second (zip places own) ≡ own
zip_second [] [] e = refl
zip_second [] (i ∷ is) e = absurd (omega (arith, e))
zip_second (p ∷ ps) [] e = absurd (omega (arith, e))
zip_second (p ∷ ps) (i ∷ is) e = ap (λ (xs : List InstId). i ∷ xs) (zip_second ps is (omega (arith, e)))

abbrev offered_live : GSym × Bool → Bool
offered_live p = is_offered p.0 && p.1

zip_lies : (n : ℕ) (places : List GPlace) (own : List InstId) → All (λ (p : GPlace). Lies 0 n p) places → All (λ (p : Pair). Lies 0 n p.0) (zip places own)
zip_lies n [] own all = All-nil (λ (p : Pair). Lies 0 n p.0)
zip_lies n (p ∷ ps) [] all = All-nil (λ (p : Pair). Lies 0 n p.0)
zip_lies n (p ∷ ps) (i ∷ is) all = All-cons (λ (q : Pair). Lies 0 n q.0) (p, i) (zip ps is) (All-head (λ (q : GPlace). Lies 0 n q) p ps all) (zip_lies n ps is (All-tail (λ (q : GPlace). Lies 0 n q) p ps all))

place_lies : (g : LinkGraph) (p : GPlace) → is_defined p ≡ true → PlaceFits g p → Lies 0 (length g.blocks) p
place_lies g (In block offset) d fits = (omega arith, omega (arith, fits.0))
place_lies g (Abs address) d fits = tt
place_lies g (External weak) d fits = absurd (false≢true d)

places_lie : (g : LinkGraph) (ss : List GSym) (bs : List Bool) → All (λ (s : GSym). PlaceFits g s.place) ss → All (λ (p : GPlace). Lies 0 (length g.blocks) p) (map (λ (p : GSym × Bool). p.0.place) (filter offered_live (zip ss bs)))
places_lie g [] bs all = All-nil (λ (p : GPlace). Lies 0 (length g.blocks) p)
places_lie g (s ∷ ss) [] all = All-nil (λ (p : GPlace). Lies 0 (length g.blocks) p)
places_lie g (s ∷ ss) (b ∷ bs) all = cases (places_lie g ss bs (All-tail (λ (x : GSym). PlaceFits g x.place) s ss all)) (is_offered s && b) refl
  where
    cases : All (λ (p : GPlace). Lies 0 (length g.blocks) p) (map (λ (p : GSym × Bool). p.0.place) (filter offered_live (zip ss bs))) → (t : Bool) → (is_offered s && b) ≡ t → All (λ (p : GPlace). Lies 0 (length g.blocks) p) (map (λ (p : GSym × Bool). p.0.place) (cond (is_offered s && b) ((s, b) ∷ filter offered_live (zip ss bs)) (filter offered_live (zip ss bs))))
    cases rest true e =
        let offered = (and_parts (is_offered s) b e).0 in
        rw e (All-cons (λ (p : GPlace). Lies 0 (length g.blocks) p) s.place (map (λ (p : GSym × Bool). p.0.place) (filter offered_live (zip ss bs))) (place_lies g s.place (and_parts s.global (is_defined s.place) offered).1 (All-head (λ (x : GSym). PlaceFits g x.place) s ss all)) rest)
    cases rest false e = rw e rest

pub each_once : (g : LinkGraph) (live : List Bool) (own : List InstId) (bound : List (Option InstId)) → Sound g → length own ≡ length (live_places g live) → IsPermutation (flat_map (λ (x : Group). x.members) (groups_of g live own bound)) own
each_once g live own bound sound e =
    let n = length g.blocks in
    let pairs : List Pair = zip (live_places g live) own in
    let deps : ℕ → List InstId = needed g live (external_symbols g live) bound in
    let made : flat_map (λ (x : Group). x.members) (groups_of g live own bound) ≡ sorted 0 n pairs =
    flat_map-append (λ (x : Group). x.members) (flat_map (λ b. group_of (picked (is_in b) pairs) (deps b)) (range_with_len 0 n)) (group_of (picked is_absolute pairs) [])
    ∙ ap (λ (is : List InstId). is ++ flat_map (λ (x : Group). x.members) (group_of (picked is_absolute pairs) [])) (blocks_members (λ b. picked (is_in b) pairs) deps (range_with_len 0 n))
    ∙ ap (λ (is : List InstId). flat_map (λ b. picked (is_in b) pairs) (range_with_len 0 n) ++ is) (group_members (picked is_absolute pairs) []) in
    subst (λ (is : List InstId). IsPermutation is own) (sym made)
    (subst (IsPermutation (sorted 0 n pairs)) (zip_second (live_places g live) own e)
    (all_sorted 0 n pairs (zip_lies n (live_places g live) own (places_lie g g.symbols (own_symbols g.symbols live) sound.symbols))))

-- ---- how many names are live

abbrev places_in : List GSym → List Bool → List GPlace
places_in ss live = map (λ (p : GSym × Bool). p.0.place) (filter offered_live (zip ss (own_symbols ss live)))

abbrev live_flags : List Bool → List Bool
live_flags live = filter (λ (b : Bool). b) live

abbrev places_among : List (GSym × Bool) → List GPlace
places_among ps = map (λ (p : GSym × Bool). p.0.place) (filter offered_live ps)

one_place : (t : Bool) (p : GSym × Bool) (ps : List (GSym × Bool)) → offered_live p ≡ t → length (places_among (p ∷ ps)) ≡ cond t (suc (length (places_among ps))) (length (places_among ps))
one_place t p ps e = ap (λ (x : Bool). length (map (λ (q : GSym × Bool). q.0.place) (cond x (p ∷ filter offered_live ps) (filter offered_live ps)))) e ∙ split t
  where
    split : (t : Bool) → length (map (λ (q : GSym × Bool). q.0.place) (cond t (p ∷ filter offered_live ps) (filter offered_live ps))) ≡ cond t (suc (length (places_among ps))) (length (places_among ps))
    split true = refl
    split false = refl

counted : (b : Bool) (bs : List Bool) (n : ℕ) → n ≡ length (live_flags bs) → cond b (suc n) n ≡ length (live_flags (b ∷ bs))
counted true bs n e = ap suc e
counted false bs n e = e

live_here : (s : GSym) (ss : List GSym) (b : Bool) (bs : List Bool) → is_offered s ≡ true → length (places_in ss bs) ≡ length (live_flags bs) → length (places_in (s ∷ ss) (b ∷ bs)) ≡ length (live_flags (b ∷ bs))
live_here s ss b bs o rest =
    ap (λ (t : Bool). length (places_among (zip (s ∷ ss) (cond t (b ∷ own_symbols ss bs) (is_defined s.place ∷ own_symbols ss (b ∷ bs)))))) o
    ∙ one_place b (s, b) (zip ss (own_symbols ss bs)) (ap (λ (t : Bool). t && b) o)
    ∙ counted b bs (length (places_in ss bs)) rest

live_later : (s : GSym) (ss : List GSym) (live : List Bool) → is_offered s ≡ false → length (places_in ss live) ≡ length (live_flags live) → length (places_in (s ∷ ss) live) ≡ length (live_flags live)
live_later s ss live o rest =
    ap (λ (t : Bool). length (places_among (zip (s ∷ ss) (cond t (first_flag live ∷ own_symbols ss (other_flags live)) (is_defined s.place ∷ own_symbols ss live))))) o
    ∙ one_place false (s, is_defined s.place) (zip ss (own_symbols ss live)) (ap (λ (t : Bool). t && is_defined s.place) o)
    ∙ rest

pub live_count : (ss : List GSym) (live : List Bool) → length live ≡ length (filter is_offered ss) → length (places_in ss live) ≡ length (live_flags live)
live_count [] [] e = refl
live_count [] (b ∷ bs) e = absurd (omega (arith, e))
live_count (s ∷ ss) live e = cases (λ bs same. live_count ss bs same) (is_offered s) refl live e
  where
    cases : ((bs : List Bool) → length bs ≡ length (filter is_offered ss) → length (places_in ss bs) ≡ length (live_flags bs)) → (t : Bool) → is_offered s ≡ t → (live : List Bool) → length live ≡ length (filter is_offered (s ∷ ss)) → length (places_in (s ∷ ss) live) ≡ length (live_flags live)
    cases rest true o [] e = absurd (omega (arith, e ∙ ap (λ (t : Bool). length (cond t (s ∷ filter is_offered ss) (filter is_offered ss))) o))
    cases rest true o (b ∷ bs) e = live_here s ss b bs o (rest bs (omega (arith, e ∙ ap (λ (t : Bool). length (cond t (s ∷ filter is_offered ss) (filter is_offered ss))) o)))
    cases rest false o live e = live_later s ss live o (rest live (e ∙ ap (λ (t : Bool). length (cond t (s ∷ filter is_offered ss) (filter is_offered ss))) o))

-- ---- dependencies

abbrev found : List (Option InstId) → List InstId
found bound = filter_map (λ (o : Option InstId). o) bound

later : (i : InstId) (xs ys : List InstId) → All (Contains xs) ys → All (Contains (i ∷ xs)) ys
later i xs ys all k d lt = let c = all k d lt in (suc c.0, omega (arith, c.1), c.2)

found_next : (o r : Option InstId) (rest : List InstId) (bound : List (Option InstId)) → (r ≡ None) ⊎ (r ≡ o) → All (Contains (found bound)) rest → All (Contains (found (o ∷ bound))) (cons_option r rest)
found_next None r rest bound (inl e) all = subst (λ (z : Option InstId). All (Contains (found bound)) (cons_option z rest)) (sym e) all
found_next None r rest bound (inr e) all = subst (λ (z : Option InstId). All (Contains (found bound)) (cons_option z rest)) (sym e) all
found_next (Some i) r rest bound (inl e) all = subst (λ (z : Option InstId). All (Contains (i ∷ found bound)) (cons_option z rest)) (sym e) (later i (found bound) rest all)
found_next (Some i) r rest bound (inr e) all = subst (λ (z : Option InstId). All (Contains (i ∷ found bound)) (cons_option z rest)) (sym e) (All-cons (Contains (i ∷ found bound)) i rest (0, omega arith, refl) (later i (found bound) rest all))

-- what is chosen among the bound ones is bound
chosen_found : (h : ℕ × Option InstId → Option InstId) → ((p : ℕ × Option InstId) → (h p ≡ None) ⊎ (h p ≡ p.1)) → (xs : List ℕ) (bound : List (Option InstId)) → All (Contains (found bound)) (filter_map h (zip xs bound))
chosen_found h c [] bound = All-nil (Contains (found bound))
chosen_found h c (x ∷ xs) [] = All-nil (Contains [])
chosen_found h c (x ∷ xs) (o ∷ bound) = found_next o (h (x, o)) (filter_map h (zip xs bound)) bound (c (x, o)) (chosen_found h c xs bound)

none_or_it : (t : Bool) (o : Option InstId) → (cond t o None ≡ None) ⊎ (cond t o None ≡ o)
none_or_it true o = inr refl
none_or_it false o = inl refl

needed_found : (g : LinkGraph) (live : List Bool) (xs : List ℕ) (bound : List (Option InstId)) (b : ℕ) → All (Contains (found bound)) (needed g live xs bound b)
needed_found g live xs bound b = chosen_found (λ (p : ℕ × Option InstId). cond (needs g live p.0 b) p.1 None) (λ p. none_or_it (needs g live p.0 b) p.1) xs bound

pub group_deps : (P : InstId → Type 0) (is deps : List InstId) → All P deps → All P (flat_map (λ (g : Group). g.deps) (group_of is deps))
group_deps P [] deps all = All-nil P
group_deps P (i ∷ is) deps all = subst (All P) (sym (append-nil deps)) all

blocks_deps : (P : InstId → Type 0) (f d : ℕ → List InstId) (bs : List ℕ) → ((b : ℕ) → All P (d b)) → All P (flat_map (λ (g : Group). g.deps) (flat_map (λ b. group_of (f b) (d b)) bs))
blocks_deps P f d [] all = All-nil P
blocks_deps P f d (b ∷ bs) all =
    subst (All P) (sym (flat_map-append (λ (g : Group). g.deps) (group_of (f b) (d b)) (flat_map (λ b. group_of (f b) (d b)) bs)))
    (All-append P (flat_map (λ (g : Group). g.deps) (group_of (f b) (d b))) (flat_map (λ (g : Group). g.deps) (flat_map (λ b. group_of (f b) (d b)) bs)) (group_deps P (f b) (d b) (all b)) (blocks_deps P f d bs all))

pub on_found : (g : LinkGraph) (live : List Bool) (own : List InstId) (bound : List (Option InstId)) → All (Contains (found bound)) (flat_map (λ (x : Group). x.deps) (groups_of g live own bound))
on_found g live own bound =
    let P : InstId → Type 0 = Contains (found bound) in
    let f : ℕ → List InstId = λ b. members_at (is_in b) (live_places g live) own in
    let d : ℕ → List InstId = needed g live (external_symbols g live) bound in
    let blocks : List Group = flat_map (λ b. group_of (f b) (d b)) (range_with_len 0 (length g.blocks)) in
    let last : List Group = group_of (members_at is_absolute (live_places g live) own) [] in
    subst (All P) (sym (flat_map-append (λ (x : Group). x.deps) blocks last))
    (All-append P (flat_map (λ (x : Group). x.deps) blocks) (flat_map (λ (x : Group). x.deps) last)
    (blocks_deps P f d (range_with_len 0 (length g.blocks)) (λ b. needed_found g live (external_symbols g live) bound b))
    (group_deps P (members_at is_absolute (live_places g live) own) [] (All-nil P)))
