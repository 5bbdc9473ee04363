-- Which symbol is a name's definition among some objects, and what one more object changes of it.
use Rattle.std.proofs.Common.{◌≡◌, ℕ, zero, suc, ◌+◌, ◌<◌, Bool, true, false, ◌==◌, List, [], ◌∷◌, ◌++◌, length, slice_get, ◌⊎◌, inl, inr, arith, subst, sym, refl, ap, ◌∙◌, Option, Some, None, option_map, cond}
use Rattle.std.specs.Prelude.{IsSome, position}
use Rattle.std.specs.List.{position_from}
use Rattle.std.proofs.lemmas.Bool.{both_ways, and_parts, eqb-true, cases_order}
use Rattle.std.proofs.lemmas.Iterator.Adapters.{position_from-zero}
use Rattle.std.proofs.lemmas.Option.{none-some, same_Some, get_or_from_slice_get}
use Rattle.list_laws.proofs.Options.{same_option}
use Rattle.session_model.proofs.Choices.{or_else_none}
use Rattle.orc_ids.specs.declared.ids.NameId.{NameId}
use Rattle.link_model.specs.Graph.{is_offered}
use Rattle.link_model.specs.Offers.{name_of, no_symbol}
use Rattle.link_model.specs.Sound.{OffersDiffer}
use Rattle.link_model.specs.declared.graph.GSym.{GSym}
use Rattle.link_model.specs.declared.graph.LinkGraph.{LinkGraph}
use Rattle.session_model.specs.Change.{is_strong}
use Rattle.session_model.specs.Lists.{or_else}
use Rattle.session_laws.proofs.Declared.{element_below}
use Rattle.memory_laws.specs.Names.{defines, defines_strongly, definition, first_symbol}

-- Places

from_some : {X : Type 0} (test : X → Bool) (k : ℕ) (xs : List X) (i : ℕ) → position_from test k xs ≡ Some i → (n : ℕ) × (i ≡ k + n) × (x : X) × (slice_get xs n ≡ Some x) × (test x ≡ true)
from_some test k [] i e = absurd (none-some i e)
from_some {X} test k (x ∷ xs) i e = split (test x) refl e (from_some test (k + 1) xs i)
  where
    At : ℕ → List X → Type 0
    At j ys = (n : ℕ) × (i ≡ j + n) × (y : X) × (slice_get ys n ≡ Some y) × (test y ≡ true)

    later : At (k + 1) xs → At k (x ∷ xs)
    later p = (suc p.0, (omega (arith, p.1)), p.2, p.3, p.4)

    here : k ≡ i → k + 0 ≡ i
    here f = omega (arith, f)

    split : (b : Bool) → test x ≡ b → cond b (Some k) (position_from test (k + 1) xs) ≡ Some i → (position_from test (k + 1) xs ≡ Some i → At (k + 1) xs) → At k (x ∷ xs)
    split true t f rest = (0, sym (here (same_Some k i f)), x, refl, t)
    split false t f rest = later (rest f)

from_none : {X : Type 0} (test : X → Bool) (k : ℕ) (xs : List X) → position_from test k xs ≡ None → (n : ℕ) (x : X) → slice_get xs n ≡ Some x → test x ≡ false
from_none test k [] e n x t = absurd (none-some x t)
from_none {X} test k (y ∷ ys) e n x t = split (test y) refl e (from_none test (k + 1) ys) n t
  where
    split : (b : Bool) → test y ≡ b → cond b (Some k) (position_from test (k + 1) ys) ≡ None → (position_from test (k + 1) ys ≡ None → (n : ℕ) (x : X) → slice_get ys n ≡ Some x → test x ≡ false) → (n : ℕ) → slice_get (y ∷ ys) n ≡ Some x → test x ≡ false
    split true is f rest n t = absurd (none-some k (sym f))
    split false is f rest zero t = ap test (sym (same_Some y x t)) ∙ is
    split false is f rest (suc n) t = rest f n x t

-- the first place that passes is one that does
pub place_passes : {X : Type 0} (test : X → Bool) (xs : List X) (i : ℕ) → position test xs ≡ Some i → (x : X) × (slice_get xs i ≡ Some x) × (test x ≡ true)
place_passes test xs i e =
    let p = from_some test 0 xs i (sym (position_from-zero test xs) ∙ e) in
    (p.2, ap (slice_get xs) (omega (arith, p.1)) ∙ p.3, p.4)

-- without one nothing passes
pub none_passes : {X : Type 0} (test : X → Bool) (xs : List X) → position test xs ≡ None → (n : ℕ) (x : X) → slice_get xs n ≡ Some x → test x ≡ false
none_passes test xs e = from_none test 0 xs (sym (position_from-zero test xs) ∙ e)

-- a place that is the only one to pass is the first
pub only_place : {X : Type 0} (test : X → Bool) (xs : List X) (i : ℕ) (x : X) → slice_get xs i ≡ Some x → test x ≡ true → ((j : ℕ) (y : X) → slice_get xs j ≡ Some y → test y ≡ true → j ≡ i) → position test xs ≡ Some i
only_place test xs i x e t only = split (position test xs) refl
  where
    split : (o : Option ℕ) → position test xs ≡ o → o ≡ Some i
    split None f = absurd (both_ways (test x) (none_passes test xs f i x e) t)
    split (Some j) f = let p = place_passes test xs j f in ap Some (only j p.0 p.1 p.2)

-- The symbols of one object

name_is : (a : NameId) (n : ℕ) → a.0 ≡ n → a ≡ record { 0 = n }
name_is a n e = ap (λ (k : ℕ). record { 0 = k }) e

-- an object has one symbol of a name at most
pub one_symbol : (g : LinkGraph) → OffersDiffer g → (name i j : ℕ) (x y : GSym) → slice_get g.symbols i ≡ Some x → slice_get g.symbols j ≡ Some y → defines name x ≡ true → defines name y ≡ true → i ≡ j
one_symbol g h name i j x y e f a b = split (cases_order i j)
  where
    offered : (s : GSym) → defines name s ≡ true → is_offered s ≡ true
    offered s d = (and_parts (is_offered s) ((name_of s).0 == name) d).0

    named : (s : GSym) → defines name s ≡ true → name_of s ≡ record { 0 = name }
    named s d = name_is (name_of s) name (eqb-true (name_of s).0 name (and_parts (is_offered s) ((name_of s).0 == name) d).1)

    some : (k : ℕ) (s : GSym) → slice_get g.symbols k ≡ Some s → defines name s ≡ true → IsSome s.name
    some k s t d = subst (λ (z : GSym). is_offered z ≡ true → IsSome z.name) (get_or_from_slice_get g.symbols k s no_symbol t) (h.named k no_symbol (element_below g.symbols k s t)) (offered s d)

    same : (k l : ℕ) (s t : GSym) → slice_get g.symbols k ≡ Some s → slice_get g.symbols l ≡ Some t → defines name s ≡ true → defines name t ≡ true → s.name ≡ t.name
    same k l s t p q c d = same_option s.name t.name (record { 0 = 0 }) (some k s p c) (some l t q d) (named s c ∙ sym (named t d))

    never : (k l : ℕ) (s t : GSym) → k < l → slice_get g.symbols k ≡ Some s → slice_get g.symbols l ≡ Some t → defines name s ≡ true → defines name t ≡ true → ⊥
    never k l s t lt p q c d =
        let u = get_or_from_slice_get g.symbols k s no_symbol p in
        let v = get_or_from_slice_get g.symbols l t no_symbol q in
        h.differ k l no_symbol lt (element_below g.symbols l t q) (ap is_offered u ∙ offered s c) (ap is_offered v ∙ offered t d) (ap (λ (z : GSym). z.name) u ∙ (same k l s t p q c d ∙ ap (λ (z : GSym). z.name) (sym v)))

    split : (i ≡ j) ⊎ ((i < j) ⊎ (j < i)) → i ≡ j
    split (inl is) = is
    split (inr (inl lt)) = absurd (never i j x y lt e f a b)
    split (inr (inr lt)) = absurd (never j i y x lt f e b a)

-- The first symbol that passes

else_assoc : {X : Type 0} (a b c : Option X) → or_else a (or_else b c) ≡ or_else (or_else a b) c
else_assoc None b c = refl
else_assoc (Some x) b c = refl

-- one more object, of number n, is looked at last
first_pushed : (test : GSym → Bool) (k n : ℕ) (gs : List LinkGraph) (g : LinkGraph) → n ≡ k + length gs → first_symbol test k (gs ++ g ∷ []) ≡ or_else (first_symbol test k gs) (option_map (λ (s : ℕ). (n, s)) (position test g.symbols))
first_pushed test k n [] g e = or_else_none (option_map (λ (s : ℕ). (k, s)) (position test g.symbols)) ∙ ap (λ (j : ℕ). option_map (λ (s : ℕ). (j, s)) (position test g.symbols)) (omega (arith, e))
first_pushed test k n (x ∷ xs) g e =
    ap (or_else (option_map (λ (s : ℕ). (k, s)) (position test x.symbols))) (first_pushed test (k + 1) n xs g (omega (arith, e)))
    ∙ else_assoc (option_map (λ (s : ℕ). (k, s)) (position test x.symbols)) (first_symbol test (k + 1) xs) (option_map (λ (s : ℕ). (n, s)) (position test g.symbols))

-- the symbol s of object k, which passes
pub record IsPassed (test : GSym → Bool) (gs : List LinkGraph) (k s : ℕ) : Type 0 where
  pub graph : LinkGraph
  pub there : slice_get gs k ≡ Some graph
  pub symbol : GSym
  pub within : slice_get graph.symbols s ≡ Some symbol
  pub passes : test symbol ≡ true

first_from : (test : GSym → Bool) (k : ℕ) (gs : List LinkGraph) (p : ℕ × ℕ) → first_symbol test k gs ≡ Some p → (n : ℕ) × (p.0 ≡ k + n) × IsPassed test gs n p.1
first_from test k [] p e = absurd (none-some p e)
first_from test k (g ∷ gs) p e = split (position test g.symbols) refl e (first_from test (k + 1) gs p)
  where
    later : (n : ℕ) × (p.0 ≡ k + 1 + n) × IsPassed test gs n p.1 → (n : ℕ) × (p.0 ≡ k + n) × IsPassed test (g ∷ gs) n p.1
    later q = (suc q.0, (omega (arith, q.1)), record { graph = q.2.graph; there = q.2.there; symbol = q.2.symbol; within = q.2.within; passes = q.2.passes })

    here : p.0 ≡ k → p.0 ≡ k + 0
    here f = omega (arith, f)

    split : (o : Option ℕ) → position test g.symbols ≡ o → or_else (option_map (λ (s : ℕ). (k, s)) o) (first_symbol test (k + 1) gs) ≡ Some p → (first_symbol test (k + 1) gs ≡ Some p → (n : ℕ) × (p.0 ≡ k + 1 + n) × IsPassed test gs n p.1) → (n : ℕ) × (p.0 ≡ k + n) × IsPassed test (g ∷ gs) n p.1
    split None is f rest = later (rest f)
    split (Some s) is f rest =
        let at : (k, s) ≡ p = same_Some (k, s) p f in
        let q = place_passes test g.symbols s is in
        (0, here (ap (λ (z : ℕ × ℕ). z.0) (sym at)), record { graph = g; there = refl; symbol = q.0; within = ap (λ (z : ℕ × ℕ). slice_get g.symbols z.1) (sym at) ∙ q.1; passes = q.2 })

-- the first one is a symbol that passes
pub first_passes : (test : GSym → Bool) (gs : List LinkGraph) (k s : ℕ) → first_symbol test 0 gs ≡ Some (k, s) → IsPassed test gs k s
first_passes test gs k s e =
    let p = first_from test 0 gs (k, s) e in
    let is : p.0 ≡ k = omega (arith, p.1) in
    subst (λ (n : ℕ). IsPassed test gs n s) is p.2

pub strong_defines : (name : ℕ) (s : GSym) → defines_strongly name s ≡ true → defines name s ≡ true
strong_defines name s e = (and_parts (defines name s) (is_strong s.flags) e).0

-- a definition is a symbol that defines the name
pub definition_passes : (gs : List LinkGraph) (name k s : ℕ) → definition gs name ≡ Some (k, s) → IsPassed (defines name) gs k s
definition_passes gs name k s e = split (first_symbol (defines_strongly name) 0 gs) refl e
  where
    split : (o : Option (ℕ × ℕ)) → first_symbol (defines_strongly name) 0 gs ≡ o → or_else o (first_symbol (defines name) 0 gs) ≡ Some (k, s) → IsPassed (defines name) gs k s
    split None is f = first_passes (defines name) gs k s f
    split (Some p) is f = let q = first_passes (defines_strongly name) gs k s (is ∙ f) in
        record { graph = q.graph; there = q.there; symbol = q.symbol; within = q.within; passes = strong_defines name q.symbol q.passes }

pub definition_below : (gs : List LinkGraph) (name k s : ℕ) → definition gs name ≡ Some (k, s) → k < length gs
definition_below gs name k s e = let p = definition_passes gs name k s e in element_below gs k p.graph p.there

-- a strong definition is the first strong one
pub strong_definition : (gs : List LinkGraph) (name : ℕ) (p : ℕ × ℕ) → first_symbol (defines_strongly name) 0 gs ≡ Some p → definition gs name ≡ Some p
strong_definition gs name p e = ap (λ o. or_else o (first_symbol (defines name) 0 gs)) e

-- One more object

-- What a name's definition is with one more object: its strong one; or else the one that there was; or else its own.
pub data Pushed (gs : List LinkGraph) (g : LinkGraph) (name : ℕ) : Type 0 where
  Strong : (s : ℕ) → position (defines_strongly name) g.symbols ≡ Some s → definition (gs ++ g ∷ []) name ≡ Some (length gs, s) → Pushed gs g name
  Old : (p : ℕ × ℕ) → position (defines_strongly name) g.symbols ≡ None → definition gs name ≡ Some p → definition (gs ++ g ∷ []) name ≡ Some p → Pushed gs g name
  Own : (s : ℕ) → position (defines_strongly name) g.symbols ≡ None → definition gs name ≡ None → position (defines name) g.symbols ≡ Some s → definition (gs ++ g ∷ []) name ≡ Some (length gs, s) → Pushed gs g name
  Neither : definition gs name ≡ None → position (defines name) g.symbols ≡ None → definition (gs ++ g ∷ []) name ≡ None → Pushed gs g name

-- where no strong definition meets a strong one
abbrev pub Unclashed : List LinkGraph → LinkGraph → ℕ → Type 0
Unclashed gs g name = (s : ℕ) → position (defines_strongly name) g.symbols ≡ Some s → first_symbol (defines_strongly name) 0 gs ≡ None

definition_pushed : (gs : List LinkGraph) (g : LinkGraph) (name : ℕ) → definition (gs ++ g ∷ []) name ≡
    or_else (or_else (first_symbol (defines_strongly name) 0 gs) (option_map (λ (s : ℕ). (length gs, s)) (position (defines_strongly name) g.symbols)))
    (or_else (first_symbol (defines name) 0 gs) (option_map (λ (s : ℕ). (length gs, s)) (position (defines name) g.symbols)))
definition_pushed gs g name =
    let n : length gs ≡ 0 + length gs = omega arith in
    ap (λ o. or_else o (first_symbol (defines name) 0 (gs ++ g ∷ []))) (first_pushed (defines_strongly name) 0 (length gs) gs g n)
    ∙ ap (or_else (or_else (first_symbol (defines_strongly name) 0 gs) (option_map (λ (s : ℕ). (length gs, s)) (position (defines_strongly name) g.symbols)))) (first_pushed (defines name) 0 (length gs) gs g n)

pub pushed : (gs : List LinkGraph) (g : LinkGraph) (name : ℕ) → Unclashed gs g name → Pushed gs g name
pushed gs g name clear = by_own (position (defines_strongly name) g.symbols) refl
  where
    S : Option (ℕ × ℕ)
    S = first_symbol (defines_strongly name) 0 gs

    D : Option (ℕ × ℕ)
    D = first_symbol (defines name) 0 gs

    own : Option ℕ
    own = position (defines name) g.symbols

    at : ℕ → ℕ × ℕ
    at s = (length gs, s)

    whole : (o : Option ℕ) → position (defines_strongly name) g.symbols ≡ o → definition (gs ++ g ∷ []) name ≡ or_else (or_else S (option_map at o)) (or_else D (option_map at own))
    whole o e = definition_pushed gs g name ∙ ap (λ q. or_else (or_else S (option_map at q)) (or_else D (option_map at own))) e

    regroup : (a b c : Option (ℕ × ℕ)) → or_else (or_else a None) (or_else b c) ≡ or_else (or_else a b) c
    regroup None b c = refl
    regroup (Some x) b c = refl

    weakly : position (defines_strongly name) g.symbols ≡ None → definition (gs ++ g ∷ []) name ≡ or_else (definition gs name) (option_map at own)
    weakly e = whole None e ∙ regroup S D (option_map at own)

    by_old : position (defines_strongly name) g.symbols ≡ None → (o : Option (ℕ × ℕ)) → definition gs name ≡ o → (q : Option ℕ) → own ≡ q → Pushed gs g name
    by_old e (Some p) is q f = Old p e is (weakly e ∙ ap (λ z. or_else z (option_map at own)) is)
    by_old e None is (Some s) f = Own s e is f (weakly e ∙ (ap (λ z. or_else z (option_map at own)) is ∙ ap (option_map at) f))
    by_old e None is None f = Neither is f (weakly e ∙ (ap (λ z. or_else z (option_map at own)) is ∙ ap (option_map at) f))

    by_own : (o : Option ℕ) → position (defines_strongly name) g.symbols ≡ o → Pushed gs g name
    by_own (Some s) e = Strong s e (whole (Some s) e ∙ ap (λ z. or_else (or_else z (Some (at s))) (or_else D (option_map at own))) (clear s e))
    by_own None e = by_old e (definition gs name) refl own refl
