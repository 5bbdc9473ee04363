-- Which of an object's symbols are its own, where it keeps the names of its definitions, and where each symbol is.
use Rattle.std.proofs.Common.{◌≡◌, ℕ, zero, suc, ◌+◌, Bool, true, false, not, ◌&&◌, List, [], ◌∷◌, slice_get, map, arith, sym, refl, ap, ◌∙◌, Option, Some, None, option_map, unwrap_or}
use Rattle.std.specs.Bool.{if◌then◌else◌}
use Rattle.std.specs.Option.{option_map_or}
use Rattle.std.proofs.lemmas.Bool.{both_ways, and_parts, not-true}
use Rattle.std.proofs.lemmas.Option.{none-some, same_Some}
use Rattle.link_model.proofs.Symbols.{at_or_there}
use Rattle.link_model.specs.Graph.{is_defined, is_offered, first_flag, other_flags, own_symbols, numbers_where, external_symbols, is_referred}
use Rattle.link_model.specs.Image.{at_or}
use Rattle.link_model.specs.Offers.{name_of, no_symbol}
use Rattle.link_model.specs.declared.graph.GPlace.TheVariants.{Abs}
use Rattle.link_model.specs.declared.graph.GSym.{GSym}
use Rattle.link_model.specs.declared.graph.LinkGraph.{LinkGraph}
use Rattle.block_groups.specs.Groups.{is_own}
use Rattle.session_model.specs.Lists.{numbered}
use Rattle.session_laws.proofs.Declared.{numbered_at, numbered_parts, chosen}
use Rattle.static_links.specs.Links.{Member, Spot}
use Rattle.memory_laws.specs.Closures.{nowhere, own_spot}
use Rattle.memory_laws.proofs.Building.{definition_is}
use Rattle.memory_laws.specs.Names.{definition, is_definition, kept_from, kept_names}
use Rattle.memory_laws.specs.Programs.{name_spot, spot_in, symbol_spot, spots_by_name}

-- Elements

pub at_or_is : {X : Type 0} (other : X) (xs : List X) (k : ℕ) → at_or other xs k ≡ unwrap_or (slice_get xs k) other
at_or_is other [] k = refl
at_or_is other (x ∷ xs) zero = refl
at_or_is other (x ∷ xs) (suc k) = at_or_is other xs k

-- the place of a symbol is that of its number
pub place_is : (ss : List GSym) (s : ℕ) → at_or (Abs 0) (map (λ (x : GSym). x.place) ss) s ≡ (at_or no_symbol ss s).place
place_is [] s = refl
place_is (x ∷ xs) zero = refl
place_is (x ∷ xs) (suc s) = place_is xs s

-- a number whose flag passes, with its flag
pub numbers_parts : (test : ℕ → Bool → Bool) (k : ℕ) (bs : List Bool) (i s : ℕ) → slice_get (numbers_where test k bs) i ≡ Some s →
    (n : ℕ) × (s ≡ k + n) × (b : Bool) × (slice_get bs n ≡ Some b) × (test s b ≡ true)
numbers_parts test k [] i s e = absurd (none-some s e)
numbers_parts test k (b ∷ bs) i s e = chosen (λ l. slice_get l i ≡ Some s → Found) (test k b) (k ∷ numbers_where test (k + 1) bs) (numbers_where test (k + 1) bs)
    (λ t. with_one t i (λ j h. later (numbers_parts test (k + 1) bs j s h)))
    (λ t h. later (numbers_parts test (k + 1) bs i s h)) e
  where
    Found : Type 0
    Found = (n : ℕ) × (s ≡ k + n) × (c : Bool) × (slice_get (b ∷ bs) n ≡ Some c) × (test s c ≡ true)

    later : (n : ℕ) × (s ≡ k + 1 + n) × (c : Bool) × (slice_get bs n ≡ Some c) × (test s c ≡ true) → (n : ℕ) × (s ≡ k + n) × (c : Bool) × (slice_get (b ∷ bs) n ≡ Some c) × (test s c ≡ true)
    later p = (suc p.0, (omega (arith, p.1)), p.2, p.3, p.4)

    with_one : test k b ≡ true → (i : ℕ) → ((j : ℕ) → slice_get (numbers_where test (k + 1) bs) j ≡ Some s → (n : ℕ) × (s ≡ k + n) × (c : Bool) × (slice_get (b ∷ bs) n ≡ Some c) × (test s c ≡ true)) →
        slice_get (k ∷ numbers_where test (k + 1) bs) i ≡ Some s → (n : ℕ) × (s ≡ k + n) × (c : Bool) × (slice_get (b ∷ bs) n ≡ Some c) × (test s c ≡ true)
    with_one t zero rest h = let is = same_Some k s h in (0, omega (arith, is), b, refl, ap (λ j. test j b) (sym is) ∙ t)
    with_one t (suc j) rest h = rest j h

-- Owners

-- whether the object itself defines its symbol s: an offered one where it is its name's definition
abbrev pub owns : List LinkGraph → ℕ → ℕ → GSym → Bool
owns graphs k s symbol = if is_offered symbol then is_definition graphs k s symbol else is_defined symbol.place

kept_first : (b defines local : Bool) (ss : List GSym) (rest : List Bool) →
    (if b then first_flag (if b then defines ∷ rest else rest) ∷ own_symbols ss (other_flags (if b then defines ∷ rest else rest)) else local ∷ own_symbols ss (if b then defines ∷ rest else rest))
    ≡ (if b then defines else local) ∷ own_symbols ss rest
kept_first true defines local ss rest = refl
kept_first false defines local ss rest = refl

pub own_kept : (graphs : List LinkGraph) (k n : ℕ) (ss : List GSym) → own_symbols ss (kept_from graphs k n ss) ≡ numbered (owns graphs k) n ss
own_kept graphs k n [] = refl
own_kept graphs k n (s ∷ ss) = kept_first (is_offered s) (is_definition graphs k n s) (is_defined s.place) ss (kept_from graphs k (n + 1) ss) ∙ ap (λ l. owns graphs k n s ∷ l) (own_kept graphs k (n + 1) ss)

-- an own symbol of an object that keeps its names is there, and owned
pub own_parts : (graphs : List LinkGraph) (k s : ℕ) (g : LinkGraph) → is_own g (kept_names graphs k g) s ≡ true → (symbol : GSym) × (slice_get g.symbols s ≡ Some symbol) × (owns graphs k s symbol ≡ true)
own_parts graphs k s g e = split (slice_get g.symbols s) refl (sym flag ∙ e)
  where
    flag : is_own g (kept_names graphs k g) s ≡ unwrap_or (option_map (owns graphs k s) (slice_get g.symbols s)) false
    flag = ap (λ l. at_or false l s) (own_kept graphs k 0 g.symbols) ∙ (at_or_is false (numbered (owns graphs k) 0 g.symbols) s ∙ ap (λ o. unwrap_or o false) (numbered_at (owns graphs k) g.symbols s))

    split : (o : Option GSym) → slice_get g.symbols s ≡ o → unwrap_or (option_map (owns graphs k s) o) false ≡ true → (symbol : GSym) × (slice_get g.symbols s ≡ Some symbol) × (owns graphs k s symbol ≡ true)
    split None h f = absurd (both_ways false refl f)
    split (Some symbol) h f = (symbol, h, f)

-- an external of an object that keeps its names is there, and isn't owned
pub external_parts : (graphs : List LinkGraph) (k i s : ℕ) (g : LinkGraph) → slice_get (external_symbols g (kept_names graphs k g)) i ≡ Some s → (symbol : GSym) × (slice_get g.symbols s ≡ Some symbol) × (owns graphs k s symbol ≡ false)
external_parts graphs k i s g e = found (numbers_parts test 0 (own_symbols g.symbols (kept_names graphs k g)) i s e)
  where
    test : ℕ → Bool → Bool
    test n own = not own && is_referred g.edges n

    found : (n : ℕ) × (s ≡ 0 + n) × (b : Bool) × (slice_get (own_symbols g.symbols (kept_names graphs k g)) n ≡ Some b) × (test s b ≡ true) → (symbol : GSym) × (slice_get g.symbols s ≡ Some symbol) × (owns graphs k s symbol ≡ false)
    found p =
        let at : p.0 ≡ s = omega (arith, p.1) in
        let q = numbered_parts (owns graphs k) g.symbols s p.2 (ap (λ l. slice_get l s) (sym (own_kept graphs k 0 g.symbols)) ∙ (ap (slice_get (own_symbols g.symbols (kept_names graphs k g))) (sym at) ∙ p.3)) in
        (q.0, q.1, sym q.2 ∙ not-true p.2 (and_parts (not p.2) (is_referred g.edges s) p.4).0)

-- Spots

-- the spot of a name is that of its definition
pub definition_spot : (graphs : List LinkGraph) (members : List Member) (name k s : ℕ) (m : Member) → definition graphs name ≡ Some (k, s) → slice_get members k ≡ Some m → name_spot graphs members name ≡ own_spot k m s
definition_spot graphs members name k s m e t = ap (λ o. option_map_or (spot_in members) o nowhere) e ∙ ap (λ o. option_map_or (λ (x : Member). own_spot k x s) o nowhere) t

-- a symbol that is owned, and one that isn't
owned_spot : (global defined defines : Bool) (own named : Spot) → (if global && defined then defines else defined) ≡ true → (defines ≡ true → named ≡ own) → (if not global && defined then own else named) ≡ own
owned_spot true true defines own named e f = f e
owned_spot true false defines own named e f = absurd (both_ways false refl e)
owned_spot false true defines own named e f = refl
owned_spot false false defines own named e f = absurd (both_ways false refl e)

other_spot : (global defined defines : Bool) (own named : Spot) → (if global && defined then defines else defined) ≡ false → (if not global && defined then own else named) ≡ named
other_spot true defined defines own named e = refl
other_spot false true defines own named e = absurd (both_ways true e refl)
other_spot false false defines own named e = refl

spot_there : (graphs : List LinkGraph) (members : List Member) (k s : ℕ) (m : Member) (symbol : GSym) → slice_get members k ≡ Some m → slice_get m.graph.symbols s ≡ Some symbol → spots_by_name graphs members k s ≡ symbol_spot graphs members k m s symbol
spot_there graphs members k s m symbol t e = ap (λ o. option_map_or (λ (x : Member). symbol_spot graphs members k x s (at_or no_symbol x.graph.symbols s)) o nowhere) t
    ∙ ap (symbol_spot graphs members k m s) (at_or_there no_symbol m.graph.symbols s symbol e)

-- an own symbol is where its object has it
pub own_by_name : (graphs : List LinkGraph) (members : List Member) (k s : ℕ) (m : Member) → slice_get members k ≡ Some m → is_own m.graph (kept_names graphs k m.graph) s ≡ true → spots_by_name graphs members k s ≡ own_spot k m s
own_by_name graphs members k s m t e =
    let p = own_parts graphs k s m.graph e in
    spot_there graphs members k s m p.0 t p.1
    ∙ owned_spot p.0.global (is_defined p.0.place) (is_definition graphs k s p.0) (own_spot k m s) (name_spot graphs members (name_of p.0).0) p.2
    (λ d. definition_spot graphs members (name_of p.0).0 k s m (definition_is graphs k s p.0 d) t)

-- an external is where its name is
pub external_by_name : (graphs : List LinkGraph) (members : List Member) (k i s : ℕ) (m : Member) → slice_get members k ≡ Some m → slice_get (external_symbols m.graph (kept_names graphs k m.graph)) i ≡ Some s →
    spots_by_name graphs members k s ≡ name_spot graphs members (name_of (at_or no_symbol m.graph.symbols s)).0
external_by_name graphs members k i s m t e =
    let p = external_parts graphs k i s m.graph e in
    spot_there graphs members k s m p.0 t p.1
    ∙ (other_spot p.0.global (is_defined p.0.place) (is_definition graphs k s p.0) (own_spot k m s) (name_spot graphs members (name_of p.0).0) p.2
    ∙ ap (λ (x : GSym). name_spot graphs members (name_of x).0) (sym (at_or_there no_symbol m.graph.symbols s p.0 p.1)))
