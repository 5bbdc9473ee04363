-- A session in which some objects were defined, and one more definition.
use Rattle.std.proofs.Common.{◌≡◌, ℕ, ◌+◌, ◌<◌, Bool, true, false, not, ◌&&◌, ◌==◌, nat_eq, List, [], ◌∷◌, ◌++◌, length, slice_get, ◌⊎◌, inl, inr, arith, subst, sym, refl, ap, ◌∙◌, Option, Some, None}
use Rattle.std.specs.Prelude.{position}
use Rattle.std.specs.List.{filter}
use Rattle.std.specs.Option.{option_map_or}
use Rattle.std.proofs.lemmas.Bool.{both_ways, and_parts, and_from, eqb-true, eq-eqb, ne_eqb, false_from_ne_true, not-true}
use Rattle.std.proofs.lemmas.List.{length-append}
use Rattle.std.proofs.lemmas.Map.Keys.{any_passes_from_place}
use Rattle.std.proofs.lemmas.Option.{none-some, same_Some}
use Rattle.list_laws.proofs.Bools.{and_kept}
use Rattle.orc_ids.specs.declared.flags.SymFlags.{SymFlags}
use Rattle.orc_ids.specs.declared.ids.NameId.{NameId}
use Rattle.orc_ids.specs.declared.ids.UnitName.{UnitName}
use Rattle.link_model.specs.Graph.{is_offered}
use Rattle.link_model.specs.Offers.{name_of, offered_symbols, offers_of}
use Rattle.link_model.specs.Sound.{OffersDiffer}
use Rattle.link_model.specs.declared.graph.GSym.{GSym}
use Rattle.link_model.specs.declared.graph.LinkGraph.{LinkGraph}
use Rattle.session_model.specs.Answer.{clash}
use Rattle.session_model.specs.Change.{defined, is_kept, is_replaced, is_strong, loses_name, new_row, new_rows, new_unit, replaced_by, unreplaced_row, verdict, verdict_on, verdicts, without_replaced}
use Rattle.session_model.specs.Lists.{numbered}
use Rattle.session_model.specs.Match.{row_of}
use Rattle.session_model.specs.Meaning.{Meaning}
use Rattle.session_model.specs.Plain.{Plain, UnitRow, GenRow}
use Rattle.session_model.specs.declared.rows.Dylib.{Dylib}
use Rattle.session_model.specs.declared.rows.InstRow.{InstRow}
use Rattle.session_model.specs.declared.rows.Phase.TheVariants as phase
use Rattle.session_model.specs.declared.rows.Row.{Row}
use Rattle.session_model.specs.declared.rows.Track.{Track}
use Rattle.session_model.specs.declared.rows.UnitPhase.TheVariants as stage
use Rattle.session_model.specs.declared.rows.Verdict.{Verdict}
use Rattle.session_model.specs.declared.rows.Verdict.TheVariants.{Kept, Replaces}
use Rattle.session_units.specs.Meaning.{graph_meaning}
use Rattle.session_laws.proofs.Declared.{new_rows_phase, appended_at, appended_cases, element_below, front_some, mapped_parts, mapped_some, numbered_length, numbered_parts, numbered_some, pushed_cases, pushed_last, same_element}
use Rattle.closure_laws.specs.Names.{HasOneRowEach, is_present_as}
use Rattle.memory_laws.specs.NameLaws.{IsUntouched, main_order}
use Rattle.memory_laws.specs.Names.{defines, defines_strongly, definition, first_symbol, is_definition, kept_names}
use Rattle.memory_laws.proofs.Definitions.{IsPassed, Pushed, Strong, Old, Own, Neither, Unclashed, definition_below, first_passes, one_symbol, only_place, place_passes, pushed, strong_defines, strong_definition}
use Rattle.memory_laws.proofs.Offers.{IsNewRow, IsOfferAt, kept_new, kept_old, new_row_parts, new_row_there, offer_of, offered_parts, offered_there, offers_before}
use Rattle.memory_laws.proofs.Rows.{IsNamedRow, IsRowOf, any_parts, named_from, named_parts, replaces_parts, row_found, row_parts, strong_replaces, weak_discarded}

-- a present row is that of its name's definition, in the first dylib
pub record IsDefinitionRow (gs : List LinkGraph) (r : InstRow) : Type 0 where
  pub dylib : r.dylib.0 ≡ 0
  pub place : ℕ
  pub defined : definition gs r.name.0 ≡ Some (r.unit.0, place)
  pub graph : LinkGraph
  pub there : slice_get gs r.unit.0 ≡ Some graph
  pub symbol : GSym
  pub within : slice_get graph.symbols place ≡ Some symbol
  pub defines : defines r.name.0 symbol ≡ true
  pub flags : r.flags ≡ symbol.flags
  pub offer : r.offer ≡ offers_before place graph.symbols

-- unit k is object k, and keeps its definitions
pub record IsBuiltUnit (gs : List LinkGraph) (k : ℕ) (g : LinkGraph) (x : UnitRow) : Type 0 where
  pub name : UnitName
  pub is : x.meaning ≡ graph_meaning name g
  pub keeps : x.live ≡ kept_names gs k g
  pub tracker : x.tracker ≡ 0

-- an instance that is present as the name in the first dylib
abbrev pub IsThere : List InstRow → ℕ → Type 0
IsThere rows name = (i : ℕ) × (r : InstRow) × (slice_get rows i ≡ Some r) × (is_present_as 0 name r ≡ true)

-- the session's parts, after these objects were defined
pub record Built (gs : List LinkGraph) (dylibs : List Dylib) (trackers : List Track) (generators : List GenRow) (units : List UnitRow) (rows : List InstRow) : Type 0 where
  pub dylib : (x : Dylib) × (slice_get dylibs 0 ≡ Some x) × (x.order ≡ main_order)
  pub tracker : (t : Track) × (slice_get trackers 0 ≡ Some t) × (t.dylib ≡ 0)
  pub generators_are : generators ≡ []
  pub whole : length units ≡ length gs
  pub units_are : (k : ℕ) (x : UnitRow) (g : LinkGraph) → slice_get units k ≡ Some x → slice_get gs k ≡ Some g → IsBuiltUnit gs k g x
  pub rows_are : (i : ℕ) (r : InstRow) → slice_get rows i ≡ Some r → r.present ≡ true → IsDefinitionRow gs r
  pub present : (name k s : ℕ) → definition gs name ≡ Some (k, s) → IsThere rows name

abbrev pub IsBuilt : List LinkGraph → Plain → Type 0
IsBuilt gs m = Built gs m.dylibs m.trackers m.generators m.units m.rows

-- the verdict on an offered symbol
abbrev judge : Plain → GSym → Verdict
judge m x = verdict m.rows 0 (offer_of x)

-- One more object can be defined over those that were.
pub record IsNext (gs : List LinkGraph) (g : LinkGraph) (m : Plain) : Type 0 where
  pub built : IsBuilt gs m
  pub once : HasOneRowEach m.rows 0
  pub differ : OffersDiffer g
  pub clear : (i : ℕ) (x : GSym) → slice_get (offered_symbols g) i ≡ Some x → clash (name_of x) (judge m x) ≡ None

-- Definitions and rows

-- what a symbol that defines a name is
pub defines_parts : (name : ℕ) (x : GSym) → defines name x ≡ true → (is_offered x ≡ true) × ((name_of x).0 ≡ name)
defines_parts name x e = let p = and_parts (is_offered x) ((name_of x).0 == name) e in (p.0, eqb-true (name_of x).0 name p.1)

pub defines_own : (x : GSym) → is_offered x ≡ true → defines (name_of x).0 x ≡ true
defines_own x e = and_from (is_offered x) ((name_of x).0 == (name_of x).0) e (eq-eqb (name_of x).0 (name_of x).0 refl)

-- the row of a name that is defined
pub record HasOldRow (gs : List LinkGraph) (m : Plain) (name k s : ℕ) : Type 0 where
  pub row : Row
  pub found : row_of m.rows 0 name ≡ Some row
  pub inst : InstRow
  pub there : slice_get m.rows row.inst.0 ≡ Some inst
  pub named : IsNamedRow 0 name inst
  pub flags : row.flags ≡ inst.flags
  pub is : IsDefinitionRow gs inst
  pub unit : inst.unit.0 ≡ k
  pub place : is.place ≡ s

first_of : {A B : Type 0} (a c : A) (b d : B) → ◌≡◌ {A = Option (A × B)} (Some (a, b)) (Some (c, d)) → (a ≡ c) × (b ≡ d)
first_of {A} {B} a c b d e = let p = same_Some {A = A × B} (a, b) (c, d) e in (ap (λ q. q.0) p, ap (λ q. q.1) p)

pub old_row : (gs : List LinkGraph) (m : Plain) → IsBuilt gs m → (name k s : ℕ) → definition gs name ≡ Some (k, s) → HasOldRow gs m name k s
old_row gs m b name k s e = record { row = row.0; found = row.1; inst = at.inst; there = at.there; named = named; flags = at.flags; is = is; unit = same.0; place = same.1 }
  where
    there : IsThere m.rows name
    there = b.present name k s e

    row : (row : Row) × (row_of m.rows 0 name ≡ Some row)
    row = row_found m.rows 0 name there.0 there.1 there.2 there.3

    at : IsRowOf m.rows 0 name row.0
    at = row_parts m.rows 0 name row.0 row.1

    named : IsNamedRow 0 name at.inst
    named = named_parts 0 name at.inst at.named

    is : IsDefinitionRow gs at.inst
    is = b.rows_are row.0.inst.0 at.inst at.there named.present

    same : (at.inst.unit.0 ≡ k) × (is.place ≡ s)
    same = first_of at.inst.unit.0 k is.place s (sym is.defined ∙ (ap (definition gs) named.name_is ∙ e))

-- a name without a definition has no row
pub no_row : (gs : List LinkGraph) (m : Plain) → IsBuilt gs m → (name : ℕ) → definition gs name ≡ None → row_of m.rows 0 name ≡ None
no_row gs m b name e = split (row_of m.rows 0 name) refl
  where
    split : (o : Option Row) → row_of m.rows 0 name ≡ o → o ≡ None
    split None f = refl
    split (Some row) f =
        let at = row_parts m.rows 0 name row f in
        let named = named_parts 0 name at.inst at.named in
        let is = b.rows_are row.inst.0 at.inst at.there named.present in
        absurd (none-some (at.inst.unit.0, is.place) (sym e ∙ (ap (definition gs) (sym named.name_is) ∙ is.defined)))

-- the verdict on a symbol whose name has a row
judged_on : (m : Plain) (x : GSym) (row : Row) → row_of m.rows 0 (name_of x).0 ≡ Some row → judge m x ≡ verdict_on m.rows x.flags row
judged_on m x row e = ap (λ o. option_map_or (verdict_on m.rows x.flags) o Kept) e

judged_new : (m : Plain) (x : GSym) → row_of m.rows 0 (name_of x).0 ≡ None → judge m x ≡ Kept
judged_new m x e = ap (λ o. option_map_or (verdict_on m.rows x.flags) o Kept) e

-- no offered symbol clashes
unclashing : (gs : List LinkGraph) (g : LinkGraph) (m : Plain) → IsNext gs g m → (s : ℕ) (x : GSym) → slice_get g.symbols s ≡ Some x → is_offered x ≡ true → clash (name_of x) (judge m x) ≡ None
unclashing gs g m n s x e o = n.clear (offers_before s g.symbols) x (offered_there g.symbols s x e o)

unclashed : (gs : List LinkGraph) (g : LinkGraph) (m : Plain) → IsNext gs g m → (name : ℕ) → Unclashed gs g name
unclashed gs g m n name s e = split (first_symbol (defines_strongly name) 0 gs) refl
  where
    x : (x : GSym) × (slice_get g.symbols s ≡ Some x) × (defines_strongly name x ≡ true)
    x = place_passes (defines_strongly name) g.symbols s e

    strong : (defines name x.0 ≡ true) × (is_strong x.0.flags ≡ true)
    strong = and_parts (defines name x.0) (is_strong x.0.flags) x.2

    parts : (is_offered x.0 ≡ true) × ((name_of x.0).0 ≡ name)
    parts = defines_parts name x.0 strong.0

    split : (o : Option (ℕ × ℕ)) → first_symbol (defines_strongly name) 0 gs ≡ o → o ≡ None
    split None f = refl
    split (Some p) f = absurd (both_ways (is_strong old.row.flags) weak (ap is_strong (old.flags ∙ (old.is.flags ∙ ap (λ (z : GSym). z.flags) same)) ∙ (and_parts (defines name q.symbol) (is_strong q.symbol.flags) q.passes).1))
      where
        old : HasOldRow gs m name p.0 p.1
        old = old_row gs m n.built name p.0 p.1 (strong_definition gs name p f)

        q : IsPassed (defines_strongly name) gs p.0 p.1
        q = first_passes (defines_strongly name) gs p.0 p.1 f

        graph : old.is.graph ≡ q.graph
        graph = same_element (slice_get gs p.0) old.is.graph q.graph (ap (slice_get gs) (sym old.unit) ∙ old.is.there) q.there

        same : old.is.symbol ≡ q.symbol
        same = same_element (slice_get q.graph.symbols p.1) old.is.symbol q.symbol
            (ap (λ (k : ℕ). slice_get q.graph.symbols k) (sym old.place) ∙ (ap (λ (h : LinkGraph). slice_get h.symbols old.is.place) (sym graph) ∙ old.is.within)) q.within

        weak : is_strong old.row.flags ≡ false
        weak = (strong_replaces m.rows (name_of x.0) x.0.flags old.row strong.1
            (ap (clash (name_of x.0)) (sym (judged_on m x.0 old.row (ap (row_of m.rows 0) parts.1 ∙ old.found))) ∙ unclashing gs g m n s x.0 x.1 parts.0)).1

-- Tests

-- what it is to be a definition
pub definition_is : (gs : List LinkGraph) (k s : ℕ) (x : GSym) → is_definition gs k s x ≡ true → definition gs (name_of x).0 ≡ Some (k, s)
definition_is gs k s x e = split (definition gs (name_of x).0) refl e
  where
    pair : (p : ℕ × ℕ) → p.0 ≡ k → p.1 ≡ s → p ≡ (k, s)
    pair p a b = ap (λ (i : ℕ). (i, p.1)) a ∙ ap (λ (j : ℕ). (k, j)) b

    split : (o : Option (ℕ × ℕ)) → definition gs (name_of x).0 ≡ o → option_map_or (λ (d : ℕ × ℕ). d.0 == k && d.1 == s) o false ≡ true → o ≡ Some (k, s)
    split None f h = absurd (both_ways false refl h)
    split (Some p) f h = let q = and_parts (p.0 == k) (p.1 == s) h in ap Some (pair p (eqb-true p.0 k q.0) (eqb-true p.1 s q.1))

definition_test : (gs : List LinkGraph) (k s : ℕ) (x : GSym) (p : ℕ × ℕ) → definition gs (name_of x).0 ≡ Some p → is_definition gs k s x ≡ (p.0 == k && p.1 == s)
definition_test gs k s x p e = ap (λ o. option_map_or (λ (d : ℕ × ℕ). d.0 == k && d.1 == s) o false) e

undefined_test : (gs : List LinkGraph) (k s : ℕ) (x : GSym) → definition gs (name_of x).0 ≡ None → is_definition gs k s x ≡ false
undefined_test gs k s x e = ap (λ o. option_map_or (λ (d : ℕ × ℕ). d.0 == k && d.1 == s) o false) e

-- it is that of another object
other_test : (gs : List LinkGraph) (k s : ℕ) (x : GSym) (p : ℕ × ℕ) → definition gs (name_of x).0 ≡ Some p → (p.0 ≡ k → ⊥) → is_definition gs k s x ≡ false
other_test gs k s x p e n = definition_test gs k s x p e ∙ ap (λ (b : Bool). b && p.1 == s) (ne_eqb p.0 k n)

own_test : (gs : List LinkGraph) (k s : ℕ) (x : GSym) → definition gs (name_of x).0 ≡ Some (k, s) → is_definition gs k s x ≡ true
own_test gs k s x e = definition_test gs k s x (k, s) e ∙ and_from (k == k) (s == s) (eq-eqb k k refl) (eq-eqb s s refl)

below_apart : (a b : ℕ) → a < b → a ≡ b → ⊥
below_apart a b lt e = omega (arith, lt, e)

-- The names that the new object keeps

only_own : (g : LinkGraph) → OffersDiffer g → (s : ℕ) (x : GSym) → slice_get g.symbols s ≡ Some x → is_offered x ≡ true → position (defines (name_of x).0) g.symbols ≡ Some s
only_own g h s x e o = only_place (defines (name_of x).0) g.symbols s x e (defines_own x o) (λ j y f d. one_symbol g h (name_of x).0 j s y x f e d (defines_own x o))

only_strong : (g : LinkGraph) → OffersDiffer g → (s : ℕ) (x : GSym) → slice_get g.symbols s ≡ Some x → is_offered x ≡ true → is_strong x.flags ≡ true → position (defines_strongly (name_of x).0) g.symbols ≡ Some s
only_strong g h s x e o strong = only_place (defines_strongly (name_of x).0) g.symbols s x e (and_from (defines (name_of x).0 x) (is_strong x.flags) (defines_own x o) strong)
    (λ j y f d. one_symbol g h (name_of x).0 j s y x f e (strong_defines (name_of x).0 y d) (defines_own x o))

-- a name is kept where its definition is the new one
kept_is : (gs : List LinkGraph) (g : LinkGraph) (m : Plain) → IsNext gs g m → (s : ℕ) (x : GSym) → slice_get g.symbols s ≡ Some x → is_offered x ≡ true → is_kept (judge m x) ≡ is_definition (gs ++ g ∷ []) (length gs) s x
kept_is gs g m n s x e o = split (pushed gs g name (unclashed gs g m n name))
  where
    name : ℕ
    name = (name_of x).0

    only : position (defines name) g.symbols ≡ Some s
    only = only_own g n.differ s x e o

    own : (t : ℕ) → t ≡ s → definition (gs ++ g ∷ []) name ≡ Some (length gs, t) → is_definition (gs ++ g ∷ []) (length gs) s x ≡ true
    own t is f = own_test (gs ++ g ∷ []) (length gs) s x (f ∙ ap (λ (k : ℕ). Some (length gs, k)) is)

    weak : position (defines_strongly name) g.symbols ≡ None → is_strong x.flags ≡ false
    weak none = false_from_ne_true (is_strong x.flags) (λ strong. none-some s (sym none ∙ only_strong g n.differ s x e o strong))

    strongly : is_strong x.flags ≡ true → (o : Option Row) → row_of m.rows 0 name ≡ o → is_kept (judge m x) ≡ true
    strongly strong None f = ap is_kept (judged_new m x f)
    strongly strong (Some row) f = ap is_kept (judged_on m x row f ∙ (strong_replaces m.rows (name_of x) x.flags row strong (ap (clash (name_of x)) (sym (judged_on m x row f)) ∙ unclashing gs g m n s x e o)).0)

    by_strong : (t : ℕ) → position (defines_strongly name) g.symbols ≡ Some t → definition (gs ++ g ∷ []) name ≡ Some (length gs, t) → is_kept (judge m x) ≡ is_definition (gs ++ g ∷ []) (length gs) s x
    by_strong t f d =
        let y = place_passes (defines_strongly name) g.symbols t f in
        let q = and_parts (defines name y.0) (is_strong y.0.flags) y.2 in
        let is : t ≡ s = one_symbol g n.differ name t s y.0 x y.1 e q.0 (defines_own x o) in
        let same : y.0 ≡ x = same_element (slice_get g.symbols s) y.0 x (ap (slice_get g.symbols) (sym is) ∙ y.1) e in
        strongly (ap (λ (z : GSym). is_strong z.flags) (sym same) ∙ q.1) (row_of m.rows 0 name) refl ∙ sym (own t is d)

    split : Pushed gs g name → is_kept (judge m x) ≡ is_definition (gs ++ g ∷ []) (length gs) s x
    split (Strong t f d) = by_strong t f d
    split (Old p none was d) =
        let old = old_row gs m n.built name p.0 p.1 was in
        ap is_kept (judged_on m x old.row old.found ∙ weak_discarded m.rows x.flags old.row (weak none))
        ∙ sym (other_test (gs ++ g ∷ []) (length gs) s x p d (below_apart p.0 (length gs) (definition_below gs name p.0 p.1 was)))
    split (Own t none was f d) = ap is_kept (judged_new m x (no_row gs m n.built name was)) ∙ sym (own t (same_Some t s (sym f ∙ only)) d)
    split (Neither was f d) = absurd (none-some s (sym f ∙ only))

-- Replaced instances

-- an instance that is replaced was present, and is of a name with a strong new definition
replaced_strong : (gs : List LinkGraph) (g : LinkGraph) (m : Plain) → IsNext gs g m → (i : ℕ) (r : InstRow) → slice_get m.rows i ≡ Some r → is_replaced (verdicts m.rows 0 (offers_of g)) i ≡ true →
    (r.present ≡ true) × (s : ℕ) × (position (defines_strongly r.name.0) g.symbols ≡ Some s)
replaced_strong gs g m n i r e h = (named.present, x.place, ap (λ (k : ℕ). position (defines_strongly k) g.symbols) named.name_is ∙ only_strong g n.differ x.place y.0 x.there x.offered old.3)
  where
    at : (j : ℕ) × (v : Verdict) × (slice_get (verdicts m.rows 0 (offers_of g)) j ≡ Some v) × (option_map_or (nat_eq i) (replaced_by v) false ≡ true)
    at = any_parts (λ (v : Verdict). option_map_or (nat_eq i) (replaced_by v) false) (verdicts m.rows 0 (offers_of g)) h

    offer : (o : NameId × SymFlags) × (slice_get (offers_of g) at.0 ≡ Some o) × (at.1 ≡ verdict m.rows 0 o)
    offer = mapped_parts (verdict m.rows 0) (offers_of g) at.0 at.1 at.2

    y : (y : GSym) × (slice_get (offered_symbols g) at.0 ≡ Some y) × (offer.0 ≡ offer_of y)
    y = mapped_parts offer_of (offered_symbols g) at.0 offer.0 offer.1

    x : IsOfferAt g.symbols at.0 y.0
    x = offered_parts g.symbols at.0 y.0 y.1

    old : (row : Row) × (row_of m.rows 0 (name_of y.0).0 ≡ Some row) × (row.inst.0 ≡ i) × (is_strong y.0.flags ≡ true)
    old = replaces_parts m.rows y.0.flags (row_of m.rows 0 (name_of y.0).0) i (ap (λ (v : Verdict). option_map_or (nat_eq i) (replaced_by v) false) (sym (offer.2 ∙ ap (verdict m.rows 0) y.2)) ∙ at.3)

    row : IsRowOf m.rows 0 (name_of y.0).0 old.0
    row = row_parts m.rows 0 (name_of y.0).0 old.0 old.1

    same : row.inst ≡ r
    same = same_element (slice_get m.rows i) row.inst r (ap (slice_get m.rows) (sym old.2) ∙ row.there) e

    named : IsNamedRow 0 (name_of y.0).0 r
    named = named_parts 0 (name_of y.0).0 r (subst (λ (z : InstRow). is_present_as 0 (name_of y.0).0 z ≡ true) same row.named)

-- and each present one of such a name is replaced
strong_replaced : (gs : List LinkGraph) (g : LinkGraph) (m : Plain) → IsNext gs g m → (i : ℕ) (r : InstRow) → slice_get m.rows i ≡ Some r → r.present ≡ true → (s : ℕ) → position (defines_strongly r.name.0) g.symbols ≡ Some s →
    is_replaced (verdicts m.rows 0 (offers_of g)) i ≡ true
strong_replaced gs g m n i r e present s f = any_passes_from_place (λ (v : Verdict). option_map_or (nat_eq i) (replaced_by v) false) (verdicts m.rows 0 (offers_of g)) (offers_before s g.symbols) (judge m x.0)
    (mapped_some (verdict m.rows 0) (offers_of g) (offers_before s g.symbols) (offer_of x.0) (mapped_some offer_of (offered_symbols g) (offers_before s g.symbols) x.0 (offered_there g.symbols s x.0 x.1 parts.0)))
    (ap (λ (v : Verdict). option_map_or (nat_eq i) (replaced_by v) false) replaces ∙ eq-eqb i row.0.inst.0 (sym here))
  where
    x : (x : GSym) × (slice_get g.symbols s ≡ Some x) × (defines_strongly r.name.0 x ≡ true)
    x = place_passes (defines_strongly r.name.0) g.symbols s f

    strong : (defines r.name.0 x.0 ≡ true) × (is_strong x.0.flags ≡ true)
    strong = and_parts (defines r.name.0 x.0) (is_strong x.0.flags) x.2

    parts : (is_offered x.0 ≡ true) × ((name_of x.0).0 ≡ r.name.0)
    parts = defines_parts r.name.0 x.0 strong.0

    is : IsDefinitionRow gs r
    is = n.built.rows_are i r e present

    named : is_present_as 0 r.name.0 r ≡ true
    named = named_from 0 r.name.0 r present is.dylib refl

    row : (row : Row) × (row_of m.rows 0 r.name.0 ≡ Some row)
    row = row_found m.rows 0 r.name.0 i r e named

    at : IsRowOf m.rows 0 r.name.0 row.0
    at = row_parts m.rows 0 r.name.0 row.0 row.1

    here : row.0.inst.0 ≡ i
    here = n.once r.name.0 row.0.inst.0 i at.inst r at.there e at.named named

    on_row : judge m x.0 ≡ verdict_on m.rows x.0.flags row.0
    on_row = judged_on m x.0 row.0 (ap (row_of m.rows 0) parts.1 ∙ row.1)

    replaces : judge m x.0 ≡ Replaces row.0.inst
    replaces = on_row ∙ (strong_replaces m.rows (name_of x.0) x.0.flags row.0 strong.1 (ap (clash (name_of x.0)) (sym on_row) ∙ unclashing gs g m n s x.0 x.1 parts.0)).0

-- The names that the objects before it lose

-- a name is kept where its definition stays
loses_is : (gs : List LinkGraph) (g : LinkGraph) (m : Plain) → IsNext gs g m → (k : ℕ) (h : LinkGraph) → slice_get gs k ≡ Some h → (s j : ℕ) (x : GSym) → slice_get h.symbols s ≡ Some x → is_offered x ≡ true → j ≡ offers_before s h.symbols →
    (is_definition gs k s x && not (loses_name m.rows (verdicts m.rows 0 (offers_of g)) k j)) ≡ is_definition (gs ++ g ∷ []) k s x
loses_is gs g m n k h its s j x e o number = split (pushed gs g name (unclashed gs g m n name))
  where
    name : ℕ
    name = (name_of x).0

    vs : List Verdict
    vs = verdicts m.rows 0 (offers_of g)

    loses : Bool
    loses = loses_name m.rows vs k j

    lost : ℕ → InstRow → Bool
    lost i r = is_replaced vs i && r.unit.0 == k && r.offer == j

    other : length gs ≡ k → ⊥
    other is = below_apart k (length gs) (element_below gs k h its) (sym is)

    gone : is_definition gs k s x ≡ false → (is_definition gs k s x && not loses) ≡ false
    gone f = ap (λ (b : Bool). b && not loses) f

    -- an instance of the name that is replaced
    at_row : loses ≡ true → (t : ℕ) × (position (defines_strongly name) g.symbols ≡ Some t)
    at_row b = (strong.1, ap (λ (i : ℕ). position (defines_strongly i) g.symbols) (sym same) ∙ strong.2)
      where
        found : (i : ℕ) × (b : Bool) × (slice_get (numbered lost 0 m.rows) i ≡ Some b) × (b ≡ true)
        found = any_parts (λ (b : Bool). b) (numbered lost 0 m.rows) b

        r : (r : InstRow) × (slice_get m.rows found.0 ≡ Some r) × (found.1 ≡ lost found.0 r)
        r = numbered_parts lost m.rows found.0 found.1 found.2

        parts : ((is_replaced vs found.0 && r.0.unit.0 == k) ≡ true) × ((r.0.offer == j) ≡ true)
        parts = and_parts (is_replaced vs found.0 && r.0.unit.0 == k) (r.0.offer == j) (sym r.2 ∙ found.3)

        replaced : (is_replaced vs found.0 ≡ true) × ((r.0.unit.0 == k) ≡ true)
        replaced = and_parts (is_replaced vs found.0) (r.0.unit.0 == k) parts.0

        strong : (r.0.present ≡ true) × (t : ℕ) × (position (defines_strongly r.0.name.0) g.symbols ≡ Some t)
        strong = replaced_strong gs g m n found.0 r.0 r.1 replaced.0

        is : IsDefinitionRow gs r.0
        is = n.built.rows_are found.0 r.0 r.1 strong.0

        unit : r.0.unit.0 ≡ k
        unit = eqb-true r.0.unit.0 k replaced.1

        graph : is.graph ≡ h
        graph = same_element (slice_get gs k) is.graph h (ap (slice_get gs) (sym unit) ∙ is.there) its

        own : (is_offered is.symbol ≡ true) × ((name_of is.symbol).0 ≡ r.0.name.0)
        own = defines_parts r.0.name.0 is.symbol is.defines

        before : offers_before is.place is.graph.symbols ≡ offers_before s h.symbols
        before = sym is.offer ∙ (eqb-true r.0.offer j parts.1 ∙ number)

        symbol : is.symbol ≡ x
        symbol = same_element (slice_get (filter is_offered h.symbols) (offers_before s h.symbols)) is.symbol x
            (ap (slice_get (filter is_offered h.symbols)) (sym before) ∙ (ap (λ (z : LinkGraph). slice_get (filter is_offered z.symbols) (offers_before is.place is.graph.symbols)) (sym graph) ∙ offered_there is.graph.symbols is.place is.symbol is.within own.0))
            (offered_there h.symbols s x e o)

        same : r.0.name.0 ≡ name
        same = sym own.1 ∙ ap (λ (z : GSym). (name_of z).0) symbol

    kept : position (defines_strongly name) g.symbols ≡ None → loses ≡ false
    kept none = false_from_ne_true loses (λ b. let q = at_row b in none-some q.0 (sym none ∙ q.1))

    -- a definition that is replaced
    replaces : (t : ℕ) → position (defines_strongly name) g.symbols ≡ Some t → definition gs name ≡ Some (k, s) → loses ≡ true
    replaces t f d = any_passes_from_place (λ (b : Bool). b) (numbered lost 0 m.rows) old.row.inst.0 true (numbered_some lost m.rows old.row.inst.0 old.inst old.there ∙ ap Some passes) refl
      where
        old : HasOldRow gs m name k s
        old = old_row gs m n.built name k s d

        graph : old.is.graph ≡ h
        graph = same_element (slice_get gs k) old.is.graph h (ap (slice_get gs) (sym old.unit) ∙ old.is.there) its

        offer : old.inst.offer ≡ j
        offer = old.is.offer ∙ (ap (λ (z : LinkGraph). offers_before old.is.place z.symbols) graph ∙ (ap (λ (i : ℕ). offers_before i h.symbols) old.place ∙ sym number))

        passes : lost old.row.inst.0 old.inst ≡ true
        passes = and_from (is_replaced vs old.row.inst.0 && old.inst.unit.0 == k) (old.inst.offer == j)
            (and_from (is_replaced vs old.row.inst.0) (old.inst.unit.0 == k)
            (strong_replaced gs g m n old.row.inst.0 old.inst old.there old.named.present t (ap (λ (i : ℕ). position (defines_strongly i) g.symbols) old.named.name_is ∙ f)) (eq-eqb old.inst.unit.0 k old.unit))
            (eq-eqb old.inst.offer j offer)

    by_test : (t : ℕ) → position (defines_strongly name) g.symbols ≡ Some t → (b : Bool) → is_definition gs k s x ≡ b → (b && not loses) ≡ false
    by_test t f false is = refl
    by_test t f true is = ap not (replaces t f (definition_is gs k s x is))

    split : Pushed gs g name → (is_definition gs k s x && not loses) ≡ is_definition (gs ++ g ∷ []) k s x
    split (Strong t f d) = by_test t f (is_definition gs k s x) refl ∙ sym (other_test (gs ++ g ∷ []) k s x (length gs, t) d other)
    split (Old p none was d) = and_kept (is_definition gs k s x) loses (kept none) ∙ (definition_test gs k s x p was ∙ sym (definition_test (gs ++ g ∷ []) k s x p d))
    split (Own t none was f d) = gone (undefined_test gs k s x was) ∙ sym (other_test (gs ++ g ∷ []) k s x (length gs, t) d other)
    split (Neither was f d) = gone (undefined_test gs k s x was) ∙ sym (undefined_test (gs ++ g ∷ []) k s x d)

-- The session with one more object

pub next_built : (gs : List LinkGraph) (g : LinkGraph) (unit : UnitName) (m : Plain) → IsNext gs g m → IsBuilt (gs ++ g ∷ []) (defined 0 0 (graph_meaning unit g) (verdicts m.rows 0 (offers_of g)) m)
next_built gs g unit m n = record {
  dylib = n.built.dylib;
  tracker = n.built.tracker;
  generators_are = n.built.generators_are;
  whole = length-append left_units (new ∷ []) ∙ (ap (λ (k : ℕ). k + 1) (count ∙ n.built.whole) ∙ sym (length-append gs (g ∷ [])));
  units_are = units_are;
  rows_are = rows_are;
  present = present;
}
  where
    hs : List LinkGraph
    hs = gs ++ g ∷ []

    vs : List Verdict
    vs = verdicts m.rows 0 (offers_of g)

    left_units : List UnitRow
    left_units = numbered (without_replaced m.rows vs) 0 m.units

    new : UnitRow
    new = new_unit 0 (graph_meaning unit g) vs

    left_rows : List InstRow
    left_rows = numbered (unreplaced_row vs) 0 m.rows

    fresh : List InstRow
    fresh = new_rows 0 (length m.units) 0 (offers_of g) vs

    count : length left_units ≡ length m.units
    count = numbered_length (without_replaced m.rows vs) 0 m.units

    last : slice_get hs (length gs) ≡ Some g
    last = pushed_last gs g

    from_zero : (a b : ℕ) → a ≡ 0 + b → a ≡ b
    from_zero a b e = omega (arith, e)

    old_unit : (k : ℕ) (x : UnitRow) (h : LinkGraph) → slice_get m.units k ≡ Some x → slice_get gs k ≡ Some h → IsBuiltUnit hs k h (without_replaced m.rows vs k x)
    old_unit k x h e t = record {
      name = was.name;
      is = was.is;
      tracker = was.tracker;
      keeps = ap (numbered lose 0) was.keeps ∙ kept_old gs hs k 0 0 (loses_name m.rows vs k) h.symbols (λ i y f o s j is at. at_place i y f o s j (from_zero s i is) (from_zero j (offers_before i h.symbols) at));
    }
      where
        was : IsBuiltUnit gs k h x
        was = n.built.units_are k x h e t

        lose : ℕ → Bool → Bool
        lose j flag = flag && not (loses_name m.rows vs k j)

        at_place : (i : ℕ) (y : GSym) → slice_get h.symbols i ≡ Some y → is_offered y ≡ true → (s j : ℕ) → s ≡ i → j ≡ offers_before i h.symbols → (is_definition gs k s y && not (loses_name m.rows vs k j)) ≡ is_definition hs k s y
        at_place i y f o s j is at = loses_is gs g m n k h t s j y (ap (slice_get h.symbols) is ∙ f) o (at ∙ ap (λ (l : ℕ). offers_before l h.symbols) (sym is))

    new_at : IsBuiltUnit hs (length gs) g new
    new_at = record {
      name = unit;
      is = refl;
      tracker = refl;
      keeps = kept_new hs (length gs) 0 (verdict m.rows 0) g.symbols (λ i x e o s is. kept_is gs g m n s x (ap (slice_get g.symbols) (from_zero s i is) ∙ e) o);
    }

    units_are : (k : ℕ) (y : UnitRow) (h : LinkGraph) → slice_get (left_units ++ new ∷ []) k ≡ Some y → slice_get hs k ≡ Some h → IsBuiltUnit hs k h y
    units_are k y h e t = split (pushed_cases left_units new k y e) (pushed_cases gs g k h t)
      where
        was : slice_get left_units k ≡ Some y → (x : UnitRow) × (slice_get m.units k ≡ Some x) × (y ≡ without_replaced m.rows vs k x)
        was a = numbered_parts (without_replaced m.rows vs) m.units k y a

        unit_below : slice_get left_units k ≡ Some y → k < length gs
        unit_below a = let p = was a in subst (λ (l : ℕ). k < l) n.built.whole (element_below m.units k p.0 p.1)

        split : (slice_get left_units k ≡ Some y) ⊎ ((k ≡ length left_units) × (y ≡ new)) → (slice_get gs k ≡ Some h) ⊎ ((k ≡ length gs) × (h ≡ g)) → IsBuiltUnit hs k h y
        split (inl a) (inl b) = let p = was a in subst (IsBuiltUnit hs k h) (sym p.2) (old_unit k p.0 h p.1 b)
        split (inl a) (inr b) = absurd (below_apart k (length gs) (unit_below a) b.0)
        split (inr a) (inl b) = absurd (below_apart k (length gs) (element_below gs k h b) (a.0 ∙ (count ∙ n.built.whole)))
        split (inr a) (inr b) = subst (λ (l : ℕ). IsBuiltUnit hs l h y) (sym b.0) (subst (λ (z : LinkGraph). IsBuiltUnit hs (length gs) z y) (sym b.1) (subst (IsBuiltUnit hs (length gs) g) (sym a.1) new_at))

    -- an instance that stays is that of its name's definition still
    old_row_is : (i : ℕ) (r : InstRow) → slice_get m.rows i ≡ Some r → r.present ≡ true → is_replaced vs i ≡ false → IsDefinitionRow hs r
    old_row_is i r e p kept = record {
      dylib = is.dylib;
      place = is.place;
      defined = split (pushed gs g r.name.0 (unclashed gs g m n r.name.0));
      graph = is.graph;
      there = front_some gs (g ∷ []) r.unit.0 is.graph is.there;
      symbol = is.symbol;
      within = is.within;
      defines = is.defines;
      flags = is.flags;
      offer = is.offer;
    }
      where
        is : IsDefinitionRow gs r
        is = n.built.rows_are i r e p

        split : Pushed gs g r.name.0 → definition hs r.name.0 ≡ Some (r.unit.0, is.place)
        split (Strong t f d) = absurd (both_ways (is_replaced vs i) kept (strong_replaced gs g m n i r e p t f))
        split (Old q none was d) = d ∙ (sym was ∙ is.defined)
        split (Own t none was f d) = absurd (none-some (r.unit.0, is.place) (sym was ∙ is.defined))
        split (Neither was f d) = absurd (none-some (r.unit.0, is.place) (sym was ∙ is.defined))

    -- a new instance is that of its name's definition
    new_row_is : (l : ℕ) (r : InstRow) → slice_get fresh l ≡ Some r → IsDefinitionRow hs r
    new_row_is l r e = subst (IsDefinitionRow hs) (sym p.is) (record {
      dylib = refl;
      place = x.place;
      defined = ap (λ (o : NameId × SymFlags). definition hs o.0.0) y.2 ∙ (defined_own ∙ ap (λ (k : ℕ). Some (k, x.place)) (sym n.built.whole));
      graph = g;
      there = ap (slice_get hs) n.built.whole ∙ last;
      symbol = y.0;
      within = x.there;
      defines = ap (λ (o : NameId × SymFlags). defines o.0.0 y.0) y.2 ∙ defines_own y.0 x.offered;
      flags = ap (λ (o : NameId × SymFlags). o.1) y.2;
      offer = from_zero p.number p.place p.at ∙ sym x.number;
    })
      where
        p : IsNewRow 0 (length m.units) 0 (offers_of g) vs r
        p = new_row_parts 0 (length m.units) 0 (offers_of g) vs l r e

        y : (y : GSym) × (slice_get (offered_symbols g) p.place ≡ Some y) × (p.offer ≡ offer_of y)
        y = mapped_parts offer_of (offered_symbols g) p.place p.offer p.there

        x : IsOfferAt g.symbols p.place y.0
        x = offered_parts g.symbols p.place y.0 y.1

        found : p.found ≡ judge m y.0
        found = same_element (slice_get vs p.place) p.found (judge m y.0) p.its (mapped_some (verdict m.rows 0) (offers_of g) p.place (offer_of y.0) (mapped_some offer_of (offered_symbols g) p.place y.0 y.1))

        defined_own : definition hs (name_of y.0).0 ≡ Some (length gs, x.place)
        defined_own = definition_is hs (length gs) x.place y.0 (sym (kept_is gs g m n x.place y.0 x.there x.offered) ∙ (ap is_kept (sym found) ∙ p.kept))

    rows_are : (i : ℕ) (q : InstRow) → slice_get (left_rows ++ fresh) i ≡ Some q → q.present ≡ true → IsDefinitionRow hs q
    rows_are i q e p = split (appended_cases left_rows fresh i q e)
      where
        split : (slice_get left_rows i ≡ Some q) ⊎ ((l : ℕ) × (i ≡ length left_rows + l) × (slice_get fresh l ≡ Some q)) → IsDefinitionRow hs q
        split (inr a) = new_row_is a.0 q a.2
        split (inl a) =
            let r = numbered_parts (unreplaced_row vs) m.rows i q a in
            let b = and_parts r.0.present (not (is_replaced vs i)) (ap (λ (z : InstRow). z.present) (sym r.2) ∙ p) in
            let was = old_row_is i r.0 r.1 b.0 (not-true (is_replaced vs i) b.1) in
            subst (IsDefinitionRow hs) (sym r.2) (record { dylib = was.dylib; place = was.place; defined = was.defined; graph = was.graph; there = was.there; symbol = was.symbol; within = was.within; defines = was.defines; flags = was.flags; offer = was.offer })

    present : (name k s : ℕ) → definition hs name ≡ Some (k, s) → IsThere (left_rows ++ fresh) name
    present name k s d = split (pushed gs g name (unclashed gs g m n name))
      where
        own : (t : ℕ) (x : GSym) → slice_get g.symbols t ≡ Some x → defines name x ≡ true → definition hs name ≡ Some (length gs, t) → IsThere (left_rows ++ fresh) name
        own t x e is f = (length left_rows + row.0, new_row 0 (length m.units) (offers_before t g.symbols) (offer_of x), appended_at left_rows fresh row.0 ∙ row.1, named_from 0 name (new_row 0 (length m.units) (offers_before t g.symbols) (offer_of x)) refl refl parts.1)
          where
            parts : (is_offered x ≡ true) × ((name_of x).0 ≡ name)
            parts = defines_parts name x is

            at : slice_get (offers_of g) (offers_before t g.symbols) ≡ Some (offer_of x)
            at = mapped_some offer_of (offered_symbols g) (offers_before t g.symbols) x (offered_there g.symbols t x e parts.0)

            kept : is_kept (judge m x) ≡ true
            kept = kept_is gs g m n t x e parts.0 ∙ own_test hs (length gs) t x (ap (definition hs) parts.1 ∙ f)

            zero_more : offers_before t g.symbols ≡ 0 + offers_before t g.symbols
            zero_more = omega arith

            row : (l : ℕ) × (slice_get fresh l ≡ Some (new_row 0 (length m.units) (offers_before t g.symbols) (offer_of x)))
            row = new_row_there 0 (length m.units) 0 (offers_of g) vs (offers_before t g.symbols) (offers_before t g.symbols) (offer_of x) (judge m x) at (mapped_some (verdict m.rows 0) (offers_of g) (offers_before t g.symbols) (offer_of x) at) kept zero_more

        split : Pushed gs g name → IsThere (left_rows ++ fresh) name
        split (Strong t e f) = let x = place_passes (defines_strongly name) g.symbols t e in own t x.0 x.1 (strong_defines name x.0 x.2) f
        split (Own t none was e f) = let x = place_passes (defines name) g.symbols t e in own t x.0 x.1 x.2 f
        split (Neither was e f) = absurd (none-some (k, s) (sym f ∙ d))
        split (Old p none was f) = (
          old.0,
          unreplaced_row vs old.0 old.1,
          front_some left_rows fresh old.0 (unreplaced_row vs old.0 old.1) (numbered_some (unreplaced_row vs) m.rows old.0 old.1 old.2),
          named_from 0 name (unreplaced_row vs old.0 old.1) (and_from old.1.present (not (is_replaced vs old.0)) named.present (ap not kept)) named.dylib named.name_is,
        )
          where
            old : IsThere m.rows name
            old = n.built.present name p.0 p.1 was

            named : IsNamedRow 0 name old.1
            named = named_parts 0 name old.1 old.3

            kept : is_replaced vs old.0 ≡ false
            kept = false_from_ne_true (is_replaced vs old.0) (λ b. let q = replaced_strong gs g m n old.0 old.1 old.2 b in
                none-some q.1 (sym none ∙ (ap (λ (i : ℕ). position (defines_strongly i) g.symbols) (sym named.name_is) ∙ q.2)))

-- nothing of it was asked for
pub next_untouched : (m : Plain) (v : Meaning) → IsUntouched m → IsUntouched (defined 0 0 v (verdicts m.rows 0 v.offers) m)
next_untouched m v was = record { rows = rows_are; units = units_are; jobs = was.jobs; queries = was.queries }
  where
    vs : List Verdict
    vs = verdicts m.rows 0 v.offers

    rows_are : (i : ℕ) (q : InstRow) → slice_get (defined 0 0 v vs m).rows i ≡ Some q → q.phase ≡ phase.Unsearched
    rows_are i q e = split (appended_cases (numbered (unreplaced_row vs) 0 m.rows) (new_rows 0 (length m.units) 0 v.offers vs) i q e)
      where
        split : (slice_get (numbered (unreplaced_row vs) 0 m.rows) i ≡ Some q) ⊎ ((l : ℕ) × (i ≡ length (numbered (unreplaced_row vs) 0 m.rows) + l) × (slice_get (new_rows 0 (length m.units) 0 v.offers vs) l ≡ Some q)) → q.phase ≡ phase.Unsearched
        split (inl a) = let r = numbered_parts (unreplaced_row vs) m.rows i q a in ap (λ (z : InstRow). z.phase) r.2 ∙ was.rows i r.0 r.1
        split (inr a) = new_rows_phase 0 (length m.units) 0 v.offers vs a.0 q a.2

    units_are : (u : ℕ) (y : UnitRow) → slice_get (defined 0 0 v vs m).units u ≡ Some y → (y.phase ≡ stage.Unclaimed) × (y.seat ≡ None)
    units_are u y e = split (pushed_cases (numbered (without_replaced m.rows vs) 0 m.units) (new_unit 0 v vs) u y e)
      where
        split : (slice_get (numbered (without_replaced m.rows vs) 0 m.units) u ≡ Some y) ⊎ ((u ≡ length (numbered (without_replaced m.rows vs) 0 m.units)) × (y ≡ new_unit 0 v vs)) → (y.phase ≡ stage.Unclaimed) × (y.seat ≡ None)
        split (inr a) = (ap (λ (z : UnitRow). z.phase) a.1, ap (λ (z : UnitRow). z.seat) a.1)
        split (inl a) =
            let x = numbered_parts (without_replaced m.rows vs) m.units u y a in
            let p = was.units u x.0 x.1 in
            (ap (λ (z : UnitRow). z.phase) x.2 ∙ p.0, ap (λ (z : UnitRow). z.seat) x.2 ∙ p.1)
