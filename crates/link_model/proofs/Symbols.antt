-- The symbols of a graph by number, which of them the unit itself defines, and its edges.
use Rattle.std.proofs.Common.{◌≡◌, ℕ, zero, suc, ◌+◌, ◌<◌, ◌≤◌, ◌==◌, Bool, List, [], ◌∷◌, length, map, get_or, slice_get, Some, All, filter, refl, ap, arith}
use Rattle.std.proofs.lemmas.Bool.{cond_both, ne_eqb}
use Rattle.std.proofs.lemmas.List.Elements.{All-nil, All-cons, All-head, All-tail}
use Rattle.std.proofs.lemmas.Option.{none-some, same_Some}
use Rattle.link_model.specs.Graph.{is_defined, is_offered, first_flag, other_flags, own_symbols, numbers_where}
use Rattle.link_model.specs.Image.{at_or}
use Rattle.link_model.specs.declared.graph.Edge.{Edge}
use Rattle.link_model.specs.declared.graph.GPlace.TheVariants.{Abs}
use Rattle.link_model.specs.declared.graph.GSym.{GSym}

-- an element that is there
pub at_or_there : {X : Type 0} (other : X) (xs : List X) (k : ℕ) (x : X) → slice_get xs k ≡ Some x → at_or other xs k ≡ x
at_or_there other [] k x e = absurd (none-some x e)
at_or_there other (y ∷ ys) zero x e = same_Some y x e
at_or_there other (y ∷ ys) (suc k) x e = at_or_there other ys k x e

-- the place of a symbol that is read
pub place_at : (ss : List GSym) (k : ℕ) (d : GSym) → k < length ss → at_or (Abs 0) (map (λ (x : GSym). x.place) ss) k ≡ (get_or ss k d).place
place_at [] k d within = absurd (omega arith)
place_at (s ∷ ss) zero d within = refl
place_at (s ∷ ss) (suc k) d within = place_at ss k d (omega arith)

pub length_own : (ss : List GSym) (live : List Bool) → length (own_symbols ss live) ≡ length ss
length_own [] live = refl
length_own (s ∷ ss) live =
    cond_both (is_offered s) (first_flag live ∷ own_symbols ss (other_flags live)) (is_defined s.place ∷ own_symbols ss live) (λ (bs : List Bool). length bs ≡ suc (length ss))
    (λ offered. ap suc (length_own ss (other_flags live)))
    (λ other. ap suc (length_own ss live))

-- the numbers of flags that pass are below their count
pub numbers_below : (test : ℕ → Bool → Bool) (n k : ℕ) (bs : List Bool) → k + length bs ≤ n → All (λ s. s < n) (numbers_where test k bs)
numbers_below test n k [] h = All-nil (λ (s : ℕ). s < n)
numbers_below test n k (b ∷ bs) h =
    let rest = numbers_below test n (k + 1) bs (omega (arith, h)) in
    cond_both (test k b) (k ∷ numbers_where test (k + 1) bs) (numbers_where test (k + 1) bs) (λ (xs : List ℕ). All (λ s. s < n) xs)
    (λ chosen. All-cons (λ (s : ℕ). s < n) k (numbers_where test (k + 1) bs) (omega (arith, h)) rest)
    (λ passed. rest)

-- where there is no block there are no edges of it
pub no_edges : (es : List Edge) (n b : ℕ) → All (λ (e : Edge). e.block < n) es → n ≤ b → filter (λ (e : Edge). e.block == b) es ≡ []
no_edges [] n b all h = refl
no_edges (e ∷ es) n b all h =
    let below = All-head (λ (x : Edge). x.block < n) e es all in
    rw (ne_eqb e.block b (λ q. omega (arith, q, below, h))) (no_edges es n b (All-tail (λ (x : Edge). x.block < n) e es all) h)
