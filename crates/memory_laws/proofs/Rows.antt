-- The row of a name, and the verdict on a definition of it.
use Rattle.std.proofs.Common.{◌≡◌, ℕ, suc, ◌+◌, Bool, true, false, not, ◌&&◌, ◌||◌, ◌==◌, nat_eq, List, [], ◌∷◌, slice_get, ◌⊎◌, inl, inr, arith, sym, refl, ap, ◌∙◌, Option, Some, None}
use Rattle.std.specs.Bool.{if◌then◌else◌}
use Rattle.std.specs.List.{list_any}
use Rattle.std.specs.Option.{option_map_or}
use Rattle.std.proofs.lemmas.Bool.{both_ways, and_parts, and_from, eqb-true, eq-eqb, or_cases}
use Rattle.std.proofs.lemmas.Option.{none-some, same_Some}
use Rattle.session_model.proofs.FirstRows.{first_found}
use Rattle.orc_ids.specs.declared.flags.SymFlags.{SymFlags}
use Rattle.orc_ids.specs.declared.ids.NameId.{NameId}
use Rattle.session_model.specs.Answer.{clash}
use Rattle.session_model.specs.Change.{is_strong, replaced_by, verdict_on}
use Rattle.session_model.specs.Match.{first_row, row_of}
use Rattle.session_model.specs.Plain.{unsearched_at}
use Rattle.session_model.specs.declared.rows.InstRow.{InstRow}
use Rattle.session_model.specs.declared.rows.Row.{Row}
use Rattle.session_model.specs.declared.rows.Verdict.TheVariants.{Kept, Replaces, Discarded, Clashes}
use Rattle.closure_laws.specs.Names.{is_present_as}

-- Lists

-- one that passes, where any does
pub any_parts : {X : Type 0} (test : X → Bool) (xs : List X) → list_any test xs ≡ true → (j : ℕ) × (x : X) × (slice_get xs j ≡ Some x) × (test x ≡ true)
any_parts test [] e = absurd (both_ways false refl e)
any_parts {X} test (x ∷ xs) e = split (or_cases (test x) (list_any test xs) e) (any_parts test xs)
  where
    split : (test x ≡ true) ⊎ (list_any test xs ≡ true) → (list_any test xs ≡ true → (j : ℕ) × (y : X) × (slice_get xs j ≡ Some y) × (test y ≡ true)) → (j : ℕ) × (y : X) × (slice_get (x ∷ xs) j ≡ Some y) × (test y ≡ true)
    split (inl t) rest = (0, x, refl, t)
    split (inr t) rest = let p = rest t in (suc p.0, p.1, p.2, p.3)

-- Rows

-- what it is to be present as a name in a dylib
pub record IsNamedRow (d name : ℕ) (r : InstRow) : Type 0 where
  pub present : r.present ≡ true
  pub dylib : r.dylib.0 ≡ d
  pub name_is : r.name.0 ≡ name

pub named_parts : (d name : ℕ) (r : InstRow) → is_present_as d name r ≡ true → IsNamedRow d name r
named_parts d name r e =
    let a = and_parts (r.present && r.dylib.0 == d) (r.name.0 == name) e in
    let b = and_parts r.present (r.dylib.0 == d) a.0 in
    record { present = b.0; dylib = eqb-true r.dylib.0 d b.1; name_is = eqb-true r.name.0 name a.1 }

pub named_from : (d name : ℕ) (r : InstRow) → r.present ≡ true → r.dylib.0 ≡ d → r.name.0 ≡ name → is_present_as d name r ≡ true
named_from d name r p e f = and_from (r.present && r.dylib.0 == d) (r.name.0 == name) (and_from r.present (r.dylib.0 == d) p (eq-eqb r.dylib.0 d e)) (eq-eqb r.name.0 name f)

-- the row of a name is that of an instance which is present as it
pub record IsRowOf (rows : List InstRow) (d name : ℕ) (row : Row) : Type 0 where
  pub inst : InstRow
  pub there : slice_get rows row.inst.0 ≡ Some inst
  pub named : is_present_as d name inst ≡ true
  pub flags : row.flags ≡ inst.flags

first_parts : (test : InstRow → Bool) (k : ℕ) (rows : List InstRow) (x : Row) → first_row test k rows ≡ Some x → (n : ℕ) × (x.inst.0 ≡ k + n) × (r : InstRow) × (slice_get rows n ≡ Some r) × (test r ≡ true) × (x.flags ≡ r.flags)
first_parts test k [] x e = absurd (none-some x e)
first_parts test k (q ∷ qs) x e = split (test q) refl e (first_parts test (k + 1) qs x)
  where
    At : ℕ → List InstRow → Type 0
    At j rows = (n : ℕ) × (x.inst.0 ≡ j + n) × (r : InstRow) × (slice_get rows n ≡ Some r) × (test r ≡ true) × (x.flags ≡ r.flags)

    later : At (k + 1) qs → At k (q ∷ qs)
    later p = (suc p.0, (omega (arith, p.1)), p.2, p.3, p.4, p.5)

    here : x.inst.0 ≡ k → x.inst.0 ≡ k + 0
    here e = omega (arith, e)

    split : (b : Bool) → test q ≡ b → (if b then Some (record { inst = record { 0 = k }; flags = q.flags }) else first_row test (k + 1) qs) ≡ Some x → (first_row test (k + 1) qs ≡ Some x → At (k + 1) qs) → At k (q ∷ qs)
    split false t e rest = later (rest e)
    split true t e rest =
        let is : record { inst = record { 0 = k }; flags = q.flags } ≡ x = same_Some (record { inst = record { 0 = k }; flags = q.flags }) x e in
        (0, here (ap (λ (z : Row). z.inst.0) (sym is)), q, refl, t, ap (λ (z : Row). z.flags) (sym is))

pub row_parts : (rows : List InstRow) (d name : ℕ) (row : Row) → row_of rows d name ≡ Some row → IsRowOf rows d name row
row_parts rows d name row e =
    let p = first_parts (is_present_as d name) 0 rows row e in
    record { inst = p.2; there = ap (slice_get rows) (omega (arith, p.1)) ∙ p.3; named = p.4; flags = p.5 }

-- a name that an instance is present as has a row
pub row_found : (rows : List InstRow) (d name i : ℕ) (r : InstRow) → slice_get rows i ≡ Some r → is_present_as d name r ≡ true → (row : Row) × (row_of rows d name ≡ Some row)
row_found rows d name i r e t = first_found (is_present_as d name) 0 rows i r e t

-- Verdicts

-- a weak definition is discarded over another one
pub weak_discarded : (rows : List InstRow) (flags : SymFlags) (old : Row) → is_strong flags ≡ false → verdict_on rows flags old ≡ Discarded
weak_discarded rows flags old weak = ap (λ (b : Bool). if not b then Discarded else (if is_strong old.flags || not (unsearched_at rows old.inst.0) then Clashes old.inst else Replaces old.inst)) weak

-- a strong one that doesn't clash replaces it, and that one is weak
pub strong_replaces : (rows : List InstRow) (name : NameId) (flags : SymFlags) (old : Row) → is_strong flags ≡ true → clash name (verdict_on rows flags old) ≡ None → (verdict_on rows flags old ≡ Replaces old.inst) × (is_strong old.flags ≡ false)
strong_replaces rows name flags old strong = split (is_strong flags) strong (is_strong old.flags) (not (unsearched_at rows old.inst.0))
  where
    by_test : (c : Bool) → clash name (if c then Clashes old.inst else Replaces old.inst) ≡ None → ((if c then Clashes old.inst else Replaces old.inst) ≡ Replaces old.inst) × (c ≡ false)
    by_test true e = absurd cc
    by_test false e = (refl, refl)

    weaker : (a b : Bool) → (a || b) ≡ false → a ≡ false
    weaker true b e = e
    weaker false b e = refl

    split : (s : Bool) → s ≡ true → (a b : Bool) → clash name (if not s then Discarded else (if a || b then Clashes old.inst else Replaces old.inst)) ≡ None → ((if not s then Discarded else (if a || b then Clashes old.inst else Replaces old.inst)) ≡ Replaces old.inst) × (a ≡ false)
    split false is a b e = absurd (both_ways false refl is)
    split true is a b e = let p = by_test (a || b) e in (p.0, weaker a b p.1)

-- only a strong definition replaces one, and it is the name's
pub replaces_parts : (rows : List InstRow) (flags : SymFlags) (o : Option Row) (i : ℕ) → option_map_or (nat_eq i) (replaced_by (option_map_or (verdict_on rows flags) o Kept)) false ≡ true → (old : Row) × (o ≡ Some old) × (old.inst.0 ≡ i) × (is_strong flags ≡ true)
replaces_parts rows flags None i e = absurd (both_ways false refl e)
replaces_parts rows flags (Some old) i e = split (is_strong flags) refl (is_strong old.flags || not (unsearched_at rows old.inst.0)) e
  where
    split : (s : Bool) → is_strong flags ≡ s → (c : Bool) → option_map_or (nat_eq i) (replaced_by (if not s then Discarded else (if c then Clashes old.inst else Replaces old.inst))) false ≡ true → (x : Row) × (Some old ≡ Some x) × (x.inst.0 ≡ i) × (is_strong flags ≡ true)
    split false is c e = absurd (both_ways false refl e)
    split true is true e = absurd (both_ways false refl e)
    split true is false e = (old, refl, sym (eqb-true i old.inst.0 e), is)
