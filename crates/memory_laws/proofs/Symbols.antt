-- Which symbols that an edge refers to are the unit's own, and which are its externals.
use Rattle.std.proofs.Common.{◌≡◌, ℕ, zero, suc, ◌+◌, ◌<◌, Bool, true, false, ◌&&◌, ◌==◌, not, cond, List, [], ◌∷◌, length, slice_get, Contains, sym, refl, ap, ◌∙◌, arith, Some, not-suc-le-zero}
use Rattle.std.proofs.lemmas.Bool.{both_ways, and_from, and_parts, not-true, not_from_false, eq-eqb}
use Rattle.std.proofs.lemmas.Option.{none-some, same_Some}
use Rattle.link_model.proofs.Symbols.{length_own}
use Rattle.block_groups.specs.Groups.{is_own}
use Rattle.link_model.specs.Graph.{own_symbols, external_symbols, is_referred, numbers_where}
use Rattle.link_model.specs.Image.{at_or}
use Rattle.link_model.specs.declared.graph.Edge.{Edge}
use Rattle.link_model.specs.declared.graph.LinkGraph.{LinkGraph}
use Rattle.static_links.proofs.Lists.{any_there}

first_listed : (t : Bool) (k s : ℕ) (xs : List ℕ) → t ≡ true → k ≡ s → (n : ℕ) × (slice_get (cond t (k ∷ xs) xs) n ≡ Some s)
first_listed true k s xs on is = (0, ap Some is)
first_listed false k s xs on is = absurd (both_ways false refl on)

later_listed : (t : Bool) (k s : ℕ) (xs : List ℕ) (n : ℕ) → slice_get xs n ≡ Some s → (m : ℕ) × (slice_get (cond t (k ∷ xs) xs) m ≡ Some s)
later_listed true k s xs n e = (suc n, e)
later_listed false k s xs n e = (n, e)

-- a number that passes is listed
numbers_listed : (test : ℕ → Bool → Bool) (k j s : ℕ) (bs : List Bool) → s ≡ k + j → j < length bs → test s (at_or false bs j) ≡ true → (n : ℕ) × (slice_get (numbers_where test k bs) n ≡ Some s)
numbers_listed test k j s [] is lt on = absurd (not-suc-le-zero lt)
numbers_listed test k zero s (b ∷ bs) is lt on =
    let same : k ≡ s = omega (arith, is) in
    first_listed (test k b) k s (numbers_where test (k + 1) bs) (ap (λ (n : ℕ). test n b) same ∙ on) same
numbers_listed test k (suc j) s (b ∷ bs) is lt on =
    let p = numbers_listed test (k + 1) j s bs (omega (arith, is)) (omega (arith, lt)) on in
    later_listed (test k b) k s (numbers_where test (k + 1) bs) p.0 p.1

-- the number is that of a flag with which it passes
record PassesAt (test : ℕ → Bool → Bool) (k : ℕ) (bs : List Bool) (s : ℕ) : Type 0 where
  place : ℕ
  is : s ≡ k + place
  passes : test s (at_or false bs place) ≡ true

passes_later : (test : ℕ → Bool → Bool) (k s : ℕ) (b : Bool) (bs : List Bool) → PassesAt test (k + 1) bs s → PassesAt test k (b ∷ bs) s
passes_later test k s b bs p = record { place = suc p.place; is = omega (arith, p.is); passes = p.passes }

one_passes : (test : ℕ → Bool → Bool) (k s : ℕ) (b : Bool) (bs : List Bool) (t : Bool) (n : ℕ) → test k b ≡ t → ((m : ℕ) → slice_get (numbers_where test (k + 1) bs) m ≡ Some s → PassesAt test (k + 1) bs s) →
    slice_get (cond t (k ∷ numbers_where test (k + 1) bs) (numbers_where test (k + 1) bs)) n ≡ Some s → PassesAt test k (b ∷ bs) s
one_passes test k s b bs true zero on later e =
    let same : k ≡ s = same_Some k s e in
    record { place = 0; is = omega (arith, same); passes = ap (λ (n : ℕ). test n b) (sym same) ∙ on }
one_passes test k s b bs true (suc n) on later e = passes_later test k s b bs (later n e)
one_passes test k s b bs false n off later e = passes_later test k s b bs (later n e)

-- a number that is listed passes
numbers_pass : (test : ℕ → Bool → Bool) (k s : ℕ) (bs : List Bool) (n : ℕ) → slice_get (numbers_where test k bs) n ≡ Some s → PassesAt test k bs s
numbers_pass test k s [] n e = absurd (none-some s e)
numbers_pass test k s (b ∷ bs) n e = one_passes test k s b bs (test k b) n refl (numbers_pass test (k + 1) s bs) e

-- an edge refers to its symbol
pub target_referred : (edges : List Edge) (e : Edge) → Contains edges e → is_referred edges e.target ≡ true
target_referred edges e c = any_there (λ (x : Edge). x.target == e.target) edges e c (eq-eqb e.target e.target refl)

-- a symbol that is referred to and isn't the unit's own is an external
pub external_there : (g : LinkGraph) (live : List Bool) (s : ℕ) → s < length g.symbols → is_own g live s ≡ false → is_referred g.edges s ≡ true → (k : ℕ) × (slice_get (external_symbols g live) k ≡ Some s)
external_there g live s lt other referred =
    numbers_listed (λ n own. not own && is_referred g.edges n) 0 s s (own_symbols g.symbols live) (omega arith) (omega (arith, lt, length_own g.symbols live))
    (and_from (not (is_own g live s)) (is_referred g.edges s) (not_from_false (is_own g live s) other) referred)

-- no external is the unit's own
pub external_other : (g : LinkGraph) (live : List Bool) (k s : ℕ) → slice_get (external_symbols g live) k ≡ Some s → is_own g live s ≡ false
external_other g live k s e =
    let p = numbers_pass (λ n own. not own && is_referred g.edges n) 0 s (own_symbols g.symbols live) k e in
    let same : p.place ≡ s = omega (arith, p.is) in
    ap (at_or false (own_symbols g.symbols live)) (sym same)
    ∙ not-true (at_or false (own_symbols g.symbols live) p.place) (and_parts (not (at_or false (own_symbols g.symbols live) p.place)) (is_referred g.edges s) p.passes).0
