-- Names that leave a table one after the other.
use Rattle.std.proofs.Common.{◌≡◌, ℕ, zero, suc, ◌+◌, ◌<◌, ◌≤◌, Bool, true, false, ◌&&◌, ◌||◌, ◌==◌, not, List, [], ◌∷◌, slice_get, Option, Some, None, refl, ap, sym, subst, ◌∙◌, arith}
use Rattle.std.specs.Bool.{if◌then◌else◌}
use Rattle.std.specs.Prelude.{nat_le, nat_lt, option_and_then}
use Rattle.std.specs.List.{list_any}
use Rattle.std.specs.Option.{option_map_or}
use Rattle.std.proofs.lemmas.Bool.{eq-eqb, ne_eqb, eqb-true}
use Rattle.std.proofs.lemmas.Bool.Decides.{nat_tests}
use Rattle.list_laws.proofs.Bools.{bool_same}
use Rattle.orc_ids.specs.declared.ids.InstId.{InstId}
use Rattle.orc_ids.specs.declared.ids.NameId.{NameId}
use Rattle.orc_ids.specs.declared.ids.UnitId.{UnitId}
use Rattle.session_model.specs.Lists.{only_if}
use Rattle.session_model.specs.declared.rows.InstRow.{InstRow}
use Rattle.session_model.specs.declared.rows.Row.{Row}
use Rattle.instances.specs.Spans.{IsSpan}
use Rattle.jit_dylib.specs.Rows.{Rows, row_at}
use Rattle.jit_dylib.specs.Shelf.{Shelf, ChangesOnlyTable}
use Rattle.session_parts.specs.Removed.{goes, has_name, is_spanned, is_named, IsLeftBut}

-- by the same test
pub left_same : (f g : ℕ → ℕ → Bool) (old new : Rows) → ((name i : ℕ) → f name i ≡ g name i) → IsLeftBut f old new → IsLeftBut g old new
left_same f g old new h left name = left name ∙ one (row_at old name)
  where
    one : (o : Option Row) → option_and_then (λ (r : Row). only_if (not (f name r.inst.0)) r) o ≡ option_and_then (λ (r : Row). only_if (not (g name r.inst.0)) r) o
    one None = refl
    one (Some r) = ap (λ b. only_if (not b) r) (h name r.inst.0)

-- some and then others
pub left_both : (f g : ℕ → ℕ → Bool) (old mid new : Rows) → IsLeftBut f old mid → IsLeftBut g mid new → IsLeftBut (λ name i. f name i || g name i) old new
left_both f g old mid new first second name = second name ∙ (ap (option_and_then (λ (r : Row). only_if (not (g name r.inst.0)) r)) (first name) ∙ one (row_at old name))
  where
    either : (b : Bool) (r : Row) → option_and_then (λ (q : Row). only_if (not (g name q.inst.0)) q) (only_if (not b) r) ≡ only_if (not (b || g name r.inst.0)) r
    either true r = refl
    either false r = refl

    one : (o : Option Row) → option_and_then (λ (r : Row). only_if (not (g name r.inst.0)) r) (option_and_then (λ (r : Row). only_if (not (f name r.inst.0)) r) o) ≡ option_and_then (λ (r : Row). only_if (not (f name r.inst.0 || g name r.inst.0)) r) o
    one None = refl
    one (Some r) = either (f name r.inst.0) r

-- none
pub left_all : (f : ℕ → ℕ → Bool) (rows : Rows) → ((name i : ℕ) → f name i ≡ false) → IsLeftBut f rows rows
left_all f rows h name = one (row_at rows name)
  where
    one : (o : Option Row) → o ≡ option_and_then (λ (r : Row). only_if (not (f name r.inst.0)) r) o
    one None = refl
    one (Some r) = sym (ap (λ b. only_if (not b) r) (h name r.inst.0))

-- one table is changed twice
pub only_twice : (d : ℕ) (old mid new : Shelf) → ChangesOnlyTable d old mid → ChangesOnlyTable d mid new → ChangesOnlyTable d old new
only_twice d old mid new a b = record { dylibs = b.dylibs ∙ a.dylibs; others = λ e n. b.others e n ∙ a.others e n }

-- Those of a unit

and_false : (b : Bool) → (b && false) ≡ false
and_false true = refl
and_false false = refl

pub none_in : (first : ℕ) (rows : List InstRow) (name i : ℕ) → is_spanned first first rows name i ≡ false
none_in first rows name i = by (has_name rows name i)
  where
    by : (p : Bool) → ((nat_le first i && nat_lt i first) && p) ≡ false
    by p = grind (arith, nat_tests)

pub one_in : (first k : ℕ) (rows : List InstRow) → first ≤ k → (name i : ℕ) → (is_spanned first k rows name i || (k == i && has_name rows name i)) ≡ is_spanned first (k + 1) rows name i
one_in first k rows h name i = by (has_name rows name i)
  where
    by : (p : Bool) → (((nat_le first i && nat_lt i k) && p) || (k == i && p)) ≡ ((nat_le first i && nat_lt i (k + 1)) && p)
    by p = grind (arith, nat_tests)

pub all_in : (rows : List InstRow) (u first count k : ℕ) → IsSpan rows u first count → k ≡ first + count → (name i : ℕ) → is_spanned first k rows name i ≡ is_named (λ v. u == v) rows name i
all_in rows u first count k s last name i = by_row (slice_get rows i) refl
  where
    by_row : (o : Option InstRow) → slice_get rows i ≡ o → ((nat_le first i && nat_lt i k) && option_map_or (λ (r : InstRow). r.name.0 == name) o false) ≡ option_map_or (λ (r : InstRow). u == r.unit.0 && r.name.0 == name) o false
    by_row None e = and_false (nat_le first i && nat_lt i k)
    by_row (Some r) e = ap (λ b. b && r.name.0 == name) (bool_same (nat_le first i && nat_lt i k) (u == r.unit.0)
        (λ h. let low : first ≤ i = grind (arith, nat_tests) in let high : i < k = grind (arith, nat_tests) in eq-eqb u r.unit.0 (sym (s.its i r e low (omega (arith, high, last)))))
        (λ h. let p = s.only i r e (sym (eqb-true u r.unit.0 h)) in
        let low : first ≤ i = p.0 in
        let high : i < k = omega (arith, p.1, last) in
        grind (arith, nat_tests)))

-- Those of some units

-- what leaves in the end, where these units are left to go
abbrev pub Leaving : List InstRow → List UnitId → Rows → List UnitId → Rows → Type 0
Leaving rows all old rest now = (new : Rows) → IsLeftBut (is_named (goes rest) rows) now new → IsLeftBut (is_named (goes all) rows) old new

more_named : (u : UnitId) (us : List UnitId) (rows : List InstRow) (name i : ℕ) → (is_named (λ v. u.0 == v) rows name i || is_named (goes us) rows name i) ≡ is_named (goes (u ∷ us)) rows name i
more_named u us rows name i = by_row (slice_get rows i)
  where
    either : (a b n : Bool) → ((a && n) || (b && n)) ≡ ((a || b) && n)
    either true true true = refl
    either true true false = refl
    either true false true = refl
    either true false false = refl
    either false b n = refl

    by_row : (o : Option InstRow) → (option_map_or (λ (r : InstRow). u.0 == r.unit.0 && r.name.0 == name) o false || option_map_or (λ (r : InstRow). goes us r.unit.0 && r.name.0 == name) o false) ≡ option_map_or (λ (r : InstRow). goes (u ∷ us) r.unit.0 && r.name.0 == name) o false
    by_row None = refl
    by_row (Some r) = either (u.0 == r.unit.0) (goes us r.unit.0) (r.name.0 == name)

no_more_named : (rows : List InstRow) (name i : ℕ) → is_named (goes []) rows name i ≡ false
no_more_named rows name i = by_row (slice_get rows i)
  where
    by_row : (o : Option InstRow) → option_map_or (λ (r : InstRow). goes [] r.unit.0 && r.name.0 == name) o false ≡ false
    by_row None = refl
    by_row (Some r) = refl

pub one_leaves : (rows : List InstRow) (all : List UnitId) (old : Rows) (rest : List UnitId) (u : UnitId) (us : List UnitId) (now next : Rows) → rest ≡ u ∷ us → IsLeftBut (is_named (λ v. u.0 == v) rows) now next → Leaving rows all old rest now → Leaving rows all old us next
one_leaves rows all old rest u us now next steps one leaving new left =
    subst (λ vs. Leaving rows all old vs now) steps leaving new
    (left_same (λ name i. is_named (λ v. u.0 == v) rows name i || is_named (goes us) rows name i) (is_named (goes (u ∷ us)) rows) now new (more_named u us rows)
    (left_both (is_named (λ v. u.0 == v) rows) (is_named (goes us) rows) now next new one left))

pub all_left : (rows : List InstRow) (all : List UnitId) (old : Rows) (rest : List UnitId) (now : Rows) → rest ≡ [] → Leaving rows all old rest now → IsLeftBut (is_named (goes all) rows) old now
all_left rows all old rest now none leaving = subst (λ vs. Leaving rows all old vs now) none leaving now (left_all (is_named (goes []) rows) now (no_more_named rows))

-- As a list

-- the instances of these units beside their names, the first of all instances being k
abbrev pub names_of : (ℕ → Bool) → ℕ → List InstRow → List (NameId × InstId)
names_of unit k [] = []
names_of unit k (r ∷ rs) = if unit r.unit.0 then (r.name, record { 0 = k }) ∷ names_of unit (k + 1) rs else names_of unit (k + 1) rs

abbrev is_beside : ℕ → ℕ → NameId × InstId → Bool
is_beside name i g = g.0.0 == name && g.1.0 == i

first_beside : (a c : Bool) → c ≡ false → ((a && true) || c) ≡ a
first_beside true c e = refl
first_beside false c e = e

not_beside : (a c : Bool) → ((a && false) || c) ≡ c
not_beside true c = refl
not_beside false c = refl

-- the first of them is at k, where its unit passes
listed_first : (unit : ℕ → Bool) (k : ℕ) (r : InstRow) (rs : List InstRow) (name n : ℕ) → n ≡ k → list_any (is_beside name n) (names_of unit (k + 1) rs) ≡ false → list_any (is_beside name n) (names_of unit k (r ∷ rs)) ≡ (unit r.unit.0 && r.name.0 == name)
listed_first unit k r rs name n e rest = by (unit r.unit.0)
  where
    by : (c : Bool) → list_any (is_beside name n) (if c then (r.name, record { 0 = k }) ∷ names_of unit (k + 1) rs else names_of unit (k + 1) rs) ≡ (c && r.name.0 == name)
    by true = ap (λ a. (r.name.0 == name && a) || list_any (is_beside name n) (names_of unit (k + 1) rs)) (eq-eqb k n (sym e)) ∙ first_beside (r.name.0 == name) (list_any (is_beside name n) (names_of unit (k + 1) rs)) rest
    by false = rest

-- and no other is
listed_other : (unit : ℕ → Bool) (k : ℕ) (r : InstRow) (rs : List InstRow) (name n : ℕ) → (k ≡ n → ⊥) → list_any (is_beside name n) (names_of unit k (r ∷ rs)) ≡ list_any (is_beside name n) (names_of unit (k + 1) rs)
listed_other unit k r rs name n e = by (unit r.unit.0)
  where
    by : (c : Bool) → list_any (is_beside name n) (if c then (r.name, record { 0 = k }) ∷ names_of unit (k + 1) rs else names_of unit (k + 1) rs) ≡ list_any (is_beside name n) (names_of unit (k + 1) rs)
    by true = ap (λ a. (r.name.0 == name && a) || list_any (is_beside name n) (names_of unit (k + 1) rs)) (ne_eqb k n e) ∙ not_beside (r.name.0 == name) (list_any (is_beside name n) (names_of unit (k + 1) rs))
    by false = refl

-- a number below all is none of theirs
below_none : (unit : ℕ → Bool) (k : ℕ) (rows : List InstRow) (name n : ℕ) → n < k → list_any (is_beside name n) (names_of unit k rows) ≡ false
below_none unit k [] name n b = refl
below_none unit k (r ∷ rs) name n b = listed_other unit k r rs name n (λ e. absurd (omega (arith, b, e))) ∙ below_none unit (k + 1) rs name n (omega (arith, b))

listed_from : (unit : ℕ → Bool) (k : ℕ) (rows : List InstRow) (name i n : ℕ) → n ≡ k + i → list_any (is_beside name n) (names_of unit k rows) ≡ is_named unit rows name i
listed_from unit k [] name i n e = refl
listed_from unit k (r ∷ rs) name zero n e = listed_first unit k r rs name n (omega (arith, e)) (below_none unit (k + 1) rs name n (omega (arith, e)))
listed_from unit k (r ∷ rs) name (suc i) n e = listed_other unit k r rs name n (λ s. absurd (omega (arith, e, s))) ∙ listed_from unit (k + 1) rs name i n (omega (arith, e))

pub listed : (unit : ℕ → Bool) (rows : List InstRow) (name i : ℕ) → list_any (is_beside name i) (names_of unit 0 rows) ≡ is_named unit rows name i
listed unit rows name i = listed_from unit 0 rows name i i (omega arith)
