-- The lists of blocks by the keys of their edges, and what an edge more changes.
use Rattle.std.proofs.Common.{◌≡◌, ℕ, zero, suc, ◌+◌, ◌<◌, ◌==◌, cond, Bool, true, false, not, ◌&&◌, ◌||◌, List, [], ◌∷◌, ◌++◌, length, map, take, get_or, Option, Some, None, refl, sym, ap, subst, ◌∙◌, ◌⊎◌, inl, inr, arith}
use Rattle.std.specs.Prelude.{Contains}
use Rattle.std.specs.List.{All, filter, filter_map, list_any}
use Rattle.std.proofs.lemmas.Bool.{eq-eqb, eqb-true, false≢true, and_parts, or_left, or_right, or_cases}
use Rattle.std.proofs.lemmas.List.{take_more, append-nil, map-append}
use Rattle.std.proofs.lemmas.List.Elements.{All-head, All-tail, Contains-append_left, Contains-push, Contains-push_cases, filter-append}
use Rattle.std.proofs.lemmas.Option.{same_Some}
use Rattle.list_laws.proofs.Each.{contains_later, contains_here}
use Rattle.link_model.proofs.Symbols.{length_own, numbers_below}
use Rattle.link_model.specs.Graph.{own_symbols, is_referred, external_symbols}
use Rattle.block_groups.specs.Groups.{block_of, is_own, leads_to}
use Rattle.link_model.specs.Image.{at_or, is_paired, place_of}
use Rattle.link_model.specs.Sound.{PlaceFits, Sound}
use Rattle.link_model.specs.declared.graph.Edge.{Edge}
use Rattle.link_model.specs.declared.graph.GPlace.{GPlace}
use Rattle.link_model.specs.declared.graph.GPlace.TheVariants.{In, Abs, External}
use Rattle.link_model.specs.declared.graph.GSym.{GSym}
use Rattle.link_model.specs.declared.graph.LinkGraph.{LinkGraph}
use Rattle.block_groups.specs.Keys.{is_key, blocks_with, AreKeyed, target_of}
use Rattle.block_groups.specs.Lists.{row, IsAdded}
use Rattle.block_groups.proofs.Rows.{contains_cases, contains_none}

-- one edge more
keyed_more : (key : Edge → Option ℕ) (edges : List Edge) (i k : ℕ) (d : Edge) → i < length edges → blocks_with key (take (i + 1) edges) k ≡ cond (is_key k (key (get_or edges i d))) (blocks_with key (take i edges) k ++ (get_or edges i d).block ∷ []) (blocks_with key (take i edges) k)
keyed_more key edges i k d lt =
    let e : Edge = get_or edges i d in
    let test : Edge → Bool = λ (x : Edge). is_key k (key x) in
    let block : Edge → ℕ = λ (x : Edge). x.block in
    ap (λ (es : List Edge). map block (filter test es)) (take_more edges i d lt)
    ∙ ap (map block) (filter-append test (take i edges) (e ∷ []))
    ∙ map-append block (filter test (take i edges)) (filter test (e ∷ []))
    ∙ elim (test e) as (λ t. map block (filter test (take i edges)) ++ map block (cond t (e ∷ []) []) ≡ cond t (map block (filter test (take i edges)) ++ e.block ∷ []) (map block (filter test (take i edges)))) [
      | true ↦ refl
      | false ↦ append-nil (map block (filter test (take i edges)))
    ]

keyed_at : (k : ℕ) (o : Option ℕ) → is_key k o ≡ true → o ≡ Some k
keyed_at k None h = absurd (false≢true h)
keyed_at k (Some j) h = ap Some (eqb-true j k h)

-- what a list contains that may have got one element more
kept : (t : Bool) (xs : List ℕ) (x y : ℕ) → Contains xs y → Contains (cond t (xs ++ x ∷ []) xs) y
kept true xs x y c = Contains-append_left xs (x ∷ []) y c
kept false xs x y c = c

last : (t : Bool) (xs : List ℕ) (x : ℕ) → t ≡ true → Contains (cond t (xs ++ x ∷ []) xs) x
last true xs x on = Contains-push xs x
last false xs x on = absurd (false≢true on)

kept_or_last : (t : Bool) (xs : List ℕ) (x y : ℕ) → Contains (cond t (xs ++ x ∷ []) xs) y → Contains xs y ⊎ ((t ≡ true) × (x ≡ y))
kept_or_last true xs x y c = elim (Contains-push_cases xs x y c) [
  | inl before ↦ inl before
  | inr same ↦ inr (refl, same)
]
kept_or_last false xs x y c = inl c

-- the key of an edge, and its block, by another name for the edge
key_is : (key : Edge → Option ℕ) (k t : ℕ) (e x : Edge) → e ≡ x → key e ≡ Some t → t ≡ k → is_key k (key x) ≡ true
key_is key k t e x is has same = ap (λ (y : Edge). is_key k (key y)) (sym is) ∙ ap (is_key k) has ∙ eq-eqb t k same

pub keyed_next : (key : Edge → Option ℕ) (edges : List Edge) (n i t : ℕ) (e : Edge) (old new : List (List ℕ)) → i < length edges → e ≡ get_or edges i e → key e ≡ Some t → IsAdded old t e.block new → AreKeyed key (take i edges) n old → AreKeyed key (take (i + 1) edges) n new
keyed_next key edges n i t e old new lt is has added keyed =
    let x : Edge = get_or edges i e in
    let block : e.block ≡ x.block = ap (λ (y : Edge). y.block) is in
    let more : (k : ℕ) → blocks_with key (take (i + 1) edges) k ≡ cond (is_key k (key x)) (blocks_with key (take i edges) k ++ x.block ∷ []) (blocks_with key (take i edges) k) =
    λ k. keyed_more key edges i k e lt in
    let behind : (k b : ℕ) → Contains (blocks_with key (take i edges) k) b → Contains (blocks_with key (take (i + 1) edges) k) b =
    λ k b c. subst (λ (xs : List ℕ). Contains xs b) (sym (more k)) (kept (is_key k (key x)) (blocks_with key (take i edges) k) x.block b c) in
    record {
      whole = added.whole ∙ keyed.whole;
      all = λ k b c. elim (kept_or_last (is_key k (key x)) (blocks_with key (take i edges) k) x.block b (subst (λ (xs : List ℕ). Contains xs b) (more k) c)) [
        | inl before ↦ added.stays k b (keyed.all k b before)
        | inr now ↦ (
            let at : t ≡ k = same_Some t k (sym has ∙ ap key is ∙ keyed_at k (key x) now.0) in
            subst (λ (j : ℕ). Contains (row new j) b) at (subst (Contains (row new t)) (block ∙ now.1) added.here))
      ];
      only = λ k b c. elim (added.only k b c) [
        | inl before ↦ behind k b (keyed.only k b before)
        | inr now ↦ subst (λ (xs : List ℕ). Contains xs b) (sym (more k))
            (subst (Contains (cond (is_key k (key x)) (blocks_with key (take i edges) k ++ x.block ∷ []) (blocks_with key (take i edges) k))) (sym block ∙ now.1)
            (last (is_key k (key x)) (blocks_with key (take i edges) k) x.block (key_is key k t e x is has now.0)))
      ];
    }

pub keyed_past : (key : Edge → Option ℕ) (edges : List Edge) (n i : ℕ) (e : Edge) (old : List (List ℕ)) → i < length edges → e ≡ get_or edges i e → key e ≡ None → AreKeyed key (take i edges) n old → AreKeyed key (take (i + 1) edges) n old
keyed_past key edges n i e old lt is none keyed =
    let same : (k : ℕ) → blocks_with key (take i edges) k ≡ blocks_with key (take (i + 1) edges) k = λ k.
    let before = blocks_with key (take i edges) k in
    ap (λ (o : Option ℕ). cond (is_key k o) (before ++ e.block ∷ []) before) (sym none)
    ∙ ap (λ (x : Edge). cond (is_key k (key x)) (before ++ x.block ∷ []) before) is
    ∙ sym (keyed_more key edges i k e lt) in
    record {
      whole = keyed.whole;
      all = λ k b c. keyed.all k b (subst (λ (xs : List ℕ). Contains xs b) (sym (same k)) c);
      only = λ k b c. subst (λ (xs : List ℕ). Contains xs b) (same k) (keyed.only k b c);
    }

pub keyed_none : (key : Edge → Option ℕ) (n : ℕ) (lists : List (List ℕ)) → length lists ≡ n → ((k : ℕ) → row lists k ≡ []) → AreKeyed key [] n lists
keyed_none key n lists whole none = record {
  whole = whole;
  all = λ k b c. contains_none b c;
  only = λ k b c. contains_none b (subst (λ (xs : List ℕ). Contains xs b) (none k) c);
}

-- ---- what edges lead to

fits_at : (g : LinkGraph) (ss : List GSym) (s : ℕ) → All (λ (x : GSym). PlaceFits g x.place) ss → PlaceFits g (at_or (Abs 0) (map (λ (x : GSym). x.place) ss) s)
fits_at g [] s all = tt
fits_at g (x ∷ ss) zero all = All-head (λ (y : GSym). PlaceFits g y.place) x ss all
fits_at g (x ∷ ss) (suc s) all = fits_at g ss s (All-tail (λ (y : GSym). PlaceFits g y.place) x ss all)

pub block_there : (g : LinkGraph) (p : GPlace) (b : ℕ) → PlaceFits g p → block_of p ≡ Some b → b < length g.blocks
block_there g (In block offset) b fits e = subst (λ (x : ℕ). x < length g.blocks) (same_Some block b e) fits.0
block_there g (Abs address) b fits e = absurd cc
block_there g (External weak) b fits e = absurd cc

-- an edge leads to a block of the graph
pub lead_there : (g : LinkGraph) (live : List Bool) (e : Edge) (b : ℕ) → Sound g → leads_to g live e ≡ Some b → b < length g.blocks
lead_there g live e b sound h = led (at_or false (own_symbols g.symbols live) e.target || (e.kind == 24 || e.kind == 25)) h
  where
    led : (t : Bool) → cond t (block_of (place_of g e.target)) None ≡ Some b → b < length g.blocks
    led true h = block_there g (place_of g e.target) b (fits_at g g.symbols e.target sound.symbols) h
    led false h = absurd cc

pub flag_at : (bs : List Bool) (k : ℕ) → get_or bs k false ≡ at_or false bs k
flag_at [] k = refl
flag_at (b ∷ bs) zero = refl
flag_at (b ∷ bs) (suc k) = flag_at bs k

pub externals_below : (g : LinkGraph) (live : List Bool) → All (λ s. s < length g.symbols) (external_symbols g live)
externals_below g live = numbers_below (λ s own. not own && is_referred g.edges s) (length g.symbols) 0 (own_symbols g.symbols live) (omega (arith, length_own g.symbols live))

-- what is found of an edge is what it leads to
pub lead_is : (g : LinkGraph) (live : List Bool) (e : Edge) (own leads : Bool) → leads ≡ (own || is_paired e.kind) → own ≡ is_own g live e.target → leads_to g live e ≡ cond leads (block_of (place_of g e.target)) None
lead_is g live e own leads is owns = sym (ap (λ (t : Bool). cond t (block_of (place_of g e.target)) None) (is ∙ ap (λ (b : Bool). b || is_paired e.kind) owns))

-- ---- the lists as sets

either : (t : Bool) → (t ≡ true) ⊎ (t ≡ false)
either true = inl refl
either false = inr refl

some_or_none : (o : Option ℕ) → ((x : ℕ) × (o ≡ Some x)) ⊎ (o ≡ None)
some_or_none (Some x) = inl (x, refl)
some_or_none None = inr refl

abbrev next : (Edge → Option ℕ) → ℕ → List Edge → List ℕ
next key a es = filter_map key (filter (λ (e : Edge). e.block == a) es)

later : (key : Edge → Option ℕ) (a b : ℕ) (e : Edge) (es : List Edge) → Contains (next key a es) b → Contains (next key a (e ∷ es)) b
later key a b e es c = elim (either (e.block == a)) [
  | inl on ↦ rw on (elim (some_or_none (key e)) [
    | inl (x, is) ↦ rw is (contains_later x b (next key a es) c)
    | inr none ↦ rw none c
  ])
  | inr off ↦ rw off c
]

first : (key : Edge → Option ℕ) (a b : ℕ) (e : Edge) (es : List Edge) → (e.block == a) ≡ true → key e ≡ Some b → Contains (next key a (e ∷ es)) b
first key a b e es on is = rw (on, is) (contains_here b (next key a es))

pub to_next : (key : Edge → Option ℕ) (a b : ℕ) (es : List Edge) → Contains (blocks_with key es b) a → Contains (next key a es) b
to_next key a b [] c = contains_none a c
to_next key a b (e ∷ es) c = elim (either (is_key b (key e))) [
  | inl on ↦ (let c' : Contains (e.block ∷ blocks_with key es b) a = rw on at c in elim (contains_cases e.block a (blocks_with key es b) c') [
    | inl same ↦ first key a b e es (eq-eqb e.block a same) (keyed_at b (key e) on)
    | inr rest ↦ later key a b e es (to_next key a b es rest)
  ])
  | inr off ↦ (let c' : Contains (blocks_with key es b) a = rw off at c in later key a b e es (to_next key a b es c'))
]

behind : (key : Edge → Option ℕ) (a b : ℕ) (e : Edge) (es : List Edge) → Contains (blocks_with key es b) a → Contains (blocks_with key (e ∷ es) b) a
behind key a b e es c = elim (either (is_key b (key e))) [
  | inl on ↦ rw on (contains_later e.block a (blocks_with key es b) c)
  | inr off ↦ rw off c
]

front : (key : Edge → Option ℕ) (a b : ℕ) (e : Edge) (es : List Edge) → e.block ≡ a → key e ≡ Some b → Contains (blocks_with key (e ∷ es) b) a
front key a b e es same is =
    let on : is_key b (key e) ≡ true = ap (is_key b) is ∙ eq-eqb b b refl in
    rw on (subst (Contains (e.block ∷ blocks_with key es b)) same (contains_here e.block (blocks_with key es b)))

pub from_next : (key : Edge → Option ℕ) (a b : ℕ) (es : List Edge) → Contains (next key a es) b → Contains (blocks_with key es b) a
from_next key a b [] c = contains_none b c
from_next key a b (e ∷ es) c = elim (either (e.block == a)) [
  | inl on ↦ elim (some_or_none (key e)) [
    | inl (x, is) ↦ (let c' : Contains (x ∷ next key a es) b = rw (on, is) at c in elim (contains_cases x b (next key a es) c') [
      | inl same ↦ front key a b e es (eqb-true e.block a on) (is ∙ ap Some same)
      | inr rest ↦ behind key a b e es (from_next key a b es rest)
    ])
    | inr none ↦ (let c' : Contains (next key a es) b = rw (on, none) at c in behind key a b e es (from_next key a b es c'))
  ]
  | inr off ↦ (let c' : Contains (next key a es) b = rw off at c in behind key a b e es (from_next key a b es c'))
]

abbrev refers : ℕ → ℕ → List Edge → Bool
refers s a es = list_any (λ (e : Edge). e.block == a && e.target == s) es

pub to_refers : (a s : ℕ) (es : List Edge) → Contains (blocks_with target_of es s) a → refers s a es ≡ true
to_refers a s [] c = contains_none a c
to_refers a s (e ∷ es) c = elim (either (e.target == s)) [
  | inl on ↦ (let c' : Contains (e.block ∷ blocks_with target_of es s) a = rw on at c in elim (contains_cases e.block a (blocks_with target_of es s) c') [
    | inl same ↦ or_left (e.block == a && e.target == s) (refers s a es) (rw (eq-eqb e.block a same) on)
    | inr rest ↦ or_right (e.block == a && e.target == s) (refers s a es) (to_refers a s es rest)
  ])
  | inr off ↦ (let c' : Contains (blocks_with target_of es s) a = rw off at c in or_right (e.block == a && e.target == s) (refers s a es) (to_refers a s es c'))
]

pub from_refers : (a s : ℕ) (es : List Edge) → refers s a es ≡ true → Contains (blocks_with target_of es s) a
from_refers a s [] h = absurd (false≢true h)
from_refers a s (e ∷ es) h = elim (or_cases (e.block == a && e.target == s) (refers s a es) h) [
  | inl here ↦ (let both = and_parts (e.block == a) (e.target == s) here in front target_of a s e es (eqb-true e.block a both.0) (ap Some (eqb-true e.target s both.1)))
  | inr rest ↦ behind target_of a s e es (from_refers a s es rest)
]

-- the blocks of edges are blocks of the graph
with_below : (key : Edge → Option ℕ) (n b k : ℕ) (es : List Edge) → All (λ (e : Edge). e.block < n) es → Contains (blocks_with key es k) b → b < n
with_below key n b k [] all c = contains_none b c
with_below key n b k (e ∷ es) all c = elim (either (is_key k (key e))) [
  | inl on ↦ (let c' : Contains (e.block ∷ blocks_with key es k) b = rw on at c in elim (contains_cases e.block b (blocks_with key es k) c') [
    | inl same ↦ subst (λ (x : ℕ). x < n) same (All-head (λ (x : Edge). x.block < n) e es all)
    | inr rest ↦ with_below key n b k es (All-tail (λ (x : Edge). x.block < n) e es all) rest
  ])
  | inr off ↦ (let c' : Contains (blocks_with key es k) b = rw off at c in with_below key n b k es (All-tail (λ (x : Edge). x.block < n) e es all) c')
]

pub keyed_below : (g : LinkGraph) (key : Edge → Option ℕ) (n k b : ℕ) (lists : List (List ℕ)) → Sound g → AreKeyed key g.edges n lists → Contains (row lists k) b → b < length g.blocks
keyed_below g key n k b lists sound is c = with_below key (length g.blocks) b k g.edges (λ i d lt. (sound.edges i d lt).block) (is.only k b c)
