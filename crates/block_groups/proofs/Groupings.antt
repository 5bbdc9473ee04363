-- The groups, block by block.
use Rattle.std.proofs.Common.{◌≡◌, ℕ, zero, suc, ◌+◌, ◌<◌, Bool, List, [], ◌∷◌, ◌++◌, length, refl, sym, ap, ◌∙◌, arith}
use Rattle.std.specs.Prelude.{flat_map, Option}
use Rattle.std.specs.List.{range_with_len}
use Rattle.std.proofs.lemmas.Grind.{flat_map-append}
use Rattle.std.proofs.lemmas.List.{append-nil}
use Rattle.orc_ids.specs.declared.ids.InstId.{InstId}
use Rattle.orc_ids.specs.declared.groups.Group.{Group}
use Rattle.link_model.specs.Graph.{external_symbols, own_symbols}
use Rattle.block_groups.specs.Groups.{is_in, is_absolute, members_at, needed, group_of, live_places, groups_of}
use Rattle.link_model.specs.declared.graph.GPlace.{GPlace}
use Rattle.link_model.specs.declared.graph.LinkGraph.{LinkGraph}
use Rattle.block_groups.specs.Lists.{row}
use Rattle.block_groups.specs.Members.{places_of, AreMembers, AreDeps}

range_more : (a n : ℕ) → range_with_len a (suc n) ≡ range_with_len a n ++ (a + n) ∷ []
range_more a zero = ap (λ (x : ℕ). x ∷ []) (omega arith)
range_more a (suc n) =
    let next : a + 1 + n ≡ a + suc n = omega arith in
    ap (λ (xs : List ℕ). a ∷ xs) (range_more (a + 1) n ∙ ap (λ (x : ℕ). range_with_len (a + 1) n ++ x ∷ []) next)

-- the group of one block more
pub collected : (members deps : List (List InstId)) (b : ℕ) (old new : List Group) → old ≡ flat_map (λ k. group_of (row members k) (row deps k)) (range_with_len 0 b) → new ≡ old ++ group_of (row members b) (row deps b) → new ≡ flat_map (λ k. group_of (row members k) (row deps k)) (range_with_len 0 (b + 1))
collected members deps b old new before made =
    let group : ℕ → List Group = λ (k : ℕ). group_of (row members k) (row deps k) in
    let more : suc b ≡ b + 1 = omega arith in
    let none : b ≡ 0 + b = omega arith in
    made
    ∙ ap (λ (gs : List Group). gs ++ group b) before
    ∙ ap (λ (gs : List Group). flat_map group (range_with_len 0 b) ++ gs) (sym (append-nil (group b)))
    ∙ sym (flat_map-append group (range_with_len 0 b) (b ∷ []))
    ∙ ap (λ (x : ℕ). flat_map group (range_with_len 0 b ++ x ∷ [])) none
    ∙ ap (flat_map group) (sym (range_more 0 b))
    ∙ ap (λ (n : ℕ). flat_map group (range_with_len 0 n)) more

same_groups : (f g : ℕ → List Group) (a n : ℕ) → ((k : ℕ) → k < a + n → f k ≡ g k) → flat_map f (range_with_len a n) ≡ flat_map g (range_with_len a n)
same_groups f g a zero h = refl
same_groups f g a (suc n) h =
    ap (λ (gs : List Group). gs ++ flat_map f (range_with_len (a + 1) n)) (h a (omega arith))
    ∙ ap (λ (gs : List Group). g a ++ gs) (same_groups f g (a + 1) n (λ k lt. h k (omega (arith, lt))))

pub groups_are : (g : LinkGraph) (live : List Bool) (owners : List Bool) (externals : List ℕ) (own : List InstId) (bound : List (Option InstId)) (members deps : List (List InstId)) (made : List Group) → owners ≡ own_symbols g.symbols live → externals ≡ external_symbols g live → AreMembers (length g.blocks) (places_of g.symbols owners) own members → AreDeps g live externals bound deps → made ≡ flat_map (λ b. group_of (row members b) (row deps b)) (range_with_len 0 (length g.blocks)) ++ group_of (row members (length g.blocks)) [] → made ≡ groups_of g live own bound
groups_are g live owners externals own bound members deps made o x m d e =
    let n = length g.blocks in
    let places : places_of g.symbols owners ≡ live_places g live = ap (places_of g.symbols) o in
    e
    ∙ ap (λ (gs : List Group). gs ++ group_of (row members n) [])
    (same_groups (λ b. group_of (row members b) (row deps b)) (λ b. group_of (members_at (is_in b) (live_places g live) own) (needed g live (external_symbols g live) bound b)) 0 n
    (λ b lt.
    ap (λ (is : List InstId). group_of is (row deps b)) (m.blocks b (omega (arith, lt)) ∙ ap (λ (ps : List GPlace). members_at (is_in b) ps own) places)
    ∙ ap (group_of (members_at (is_in b) (live_places g live) own)) (d.rows b (omega (arith, lt)) ∙ ap (λ (xs : List ℕ). needed g live xs bound b) x)))
    ∙ ap (λ (is : List InstId). flat_map (λ b. group_of (members_at (is_in b) (live_places g live) own) (needed g live (external_symbols g live) bound b)) (range_with_len 0 n) ++ group_of is [])
    (m.absolute ∙ ap (λ (ps : List GPlace). members_at is_absolute ps own) places)
