-- The tables of all dylibs, after a define and after a removal.
use Rattle.std.proofs.Common.{◌≡◌, ◌<◌, ◌⊎◌, inl, inr, ℕ, zero, suc, Bool, true, false, ◌&&◌, ◌||◌, ◌==◌, not, List, [], ◌∷◌, ◌++◌, Option, Some, None, slice_get, length, refl, sym, ap, ◌∙◌, arith, subst}
use Rattle.std.specs.Option.{option_map_or}
use Rattle.std.proofs.lemmas.Bool.{cases_eq, eqb-true}
use Rattle.std.proofs.lemmas.List.{length-append}
use Rattle.std.proofs.lemmas.List.Folds.{list_any-append}
use Rattle.orc_ids.specs.declared.ids.InstId.{InstId}
use Rattle.orc_ids.specs.declared.ids.NameId.{NameId}
use Rattle.session_model.specs.Change.{kept_names, verdicts, defined, is_unit_of, new_dylib, removed}
use Rattle.session_model.specs.Lists.{only_if, or_else}
use Rattle.session_model.specs.Match.{row_of}
use Rattle.session_model.specs.Plain.{Plain}
use Rattle.session_model.specs.declared.rows.Row.{Row}
use Rattle.jit_dylib.specs.Laws.{IsTableOf, NamesGone, DefinesAsTheSession, DefinesNothingElsewhere, DropsAsTheSession, IsTrackerOf, ShelfMakes, ShelfDefines, ShelfDrops}
use Rattle.jit_dylib.specs.Rows.{Rows, row_at, fresh_rows, is_gone, left_row}
use Rattle.jit_dylib.specs.Shelf.{Shelf, table_of, ChangesOnlyTable}
use Rattle.jit_dylib.proofs.Session.{rows_defined, rows_elsewhere, rows_removed, verdicts_same}

-- the table of one dylib

pub table_defined : DefinesAsTheSession
table_defined m d t u old new is one added name =
    added name
    ∙ (ap (λ vs. or_else (row_at (fresh_rows (length m.rows) u.offers (kept_names vs)) name) (row_at old name)) (verdicts_same m.rows d old u.offers is)
    ∙ (ap (or_else _) (is name) ∙ sym (rows_defined m.rows d (length m.units) name u.offers one)))

pub table_elsewhere : DefinesNothingElsewhere
table_elsewhere m d e t u table apart is one name = is name ∙ sym (rows_elsewhere m.rows d e (length m.units) name u.offers one apart)

pub table_dropped : DropsAsTheSession
table_dropped m t d gone old new is one named left name = left name ∙ (ap (left_row gone name) (is name) ∙ sym (rows_removed m t d name gone one named))

-- rows that go one after the other

left_both : (more : List (NameId × InstId)) (name : ℕ) (r : Row) (a b : Bool) → is_gone more name r ≡ b → only_if (not (a || b)) r ≡ left_row more name (only_if (not a) r)
left_both more name r true b is = refl
left_both more name r false b is = sym (ap (λ x. only_if (not x) r) is)

pub left_twice : (gone more : List (NameId × InstId)) (name : ℕ) (old : Option Row) → left_row (gone ++ more) name old ≡ left_row more name (left_row gone name old)
left_twice gone more name None = refl
left_twice gone more name (Some r) =
    ap (λ b. only_if (not b) r) (list_any-append (λ (g : NameId × InstId). g.0.0 == name && g.1.0 == r.inst.0) gone more)
    ∙ left_both more name r (is_gone gone name r) (is_gone more name r) refl

-- all tables

same_table : (d e : ℕ) (old new : Shelf) → ChangesOnlyTable d old new → (e ≡ d → ⊥) → table_of old e ≡ table_of new e
same_table d e old new only apart = sym (ap (λ (t : Option Rows). option_map_or (λ x. x) t []) (only.others e apart))

pub shelf_defined : ShelfDefines
shelf_defined m d t u old new is one added only = record { dylibs = only.dylibs ∙ is.dylibs; tables = λ e there. split e there (cases_eq e d) }
  where
    split : (e : ℕ) → e < length m.dylibs → (e ≡ d) ⊎ (e ≡ d → ⊥) → IsTableOf (defined d t u (verdicts m.rows d u.offers) m).rows e (table_of new e)
    split e there (inl same) =
        subst (λ k. IsTableOf (defined d t u (verdicts m.rows d u.offers) m).rows k (table_of new k)) (sym same)
        (table_defined m d t u (table_of old d) (table_of new d) (is.tables d (subst (λ k. k < length m.dylibs) same there)) (one d) added)
    split e there (inr apart) =
        subst (IsTableOf (defined d t u (verdicts m.rows d u.offers) m).rows e) (same_table d e old new only apart)
        (table_elsewhere m d e t u (table_of old e) apart (is.tables e there) (one e))

none_gone : (m : Plain) (t d e : ℕ) → IsTrackerOf m t d → (e ≡ d → ⊥) → NamesGone m t e []
none_gone m t d e its apart name i r at present = split (is_unit_of m t r.unit.0) refl
  where
    split : (b : Bool) → is_unit_of m t r.unit.0 ≡ b → false ≡ is_unit_of m t r.unit.0
    split false other = sym other
    split true own = absurd (apart (sym (eqb-true r.dylib.0 e (grind (arith, present))) ∙ its i r at (grind (arith, present)) own))

none_left : (old : Option Row) (name : ℕ) → old ≡ left_row [] name old
none_left None name = refl
none_left (Some r) name = refl

pub shelf_dropped : ShelfDrops
shelf_dropped m t d gone old new is one its named left only = record { dylibs = only.dylibs ∙ is.dylibs; tables = λ e there. split e there (cases_eq e d) }
  where
    split : (e : ℕ) → e < length m.dylibs → (e ≡ d) ⊎ (e ≡ d → ⊥) → IsTableOf (removed t m).rows e (table_of new e)
    split e there (inl same) =
        subst (λ k. IsTableOf (removed t m).rows k (table_of new k)) (sym same)
        (table_dropped m t d gone (table_of old d) (table_of new d) (is.tables d (subst (λ k. k < length m.dylibs) same there)) (one d) named left)
    split e there (inr apart) =
        subst (IsTableOf (removed t m).rows e) (same_table d e old new only apart)
        (table_dropped m t e [] (table_of old e) (table_of old e) (is.tables e there) (one e) (none_gone m t d e its apart) (λ name. none_left (row_at (table_of old e) name) name))

-- one more dylib

table_before : (ts : List Rows) (k : ℕ) → k < length ts → slice_get (ts ++ [] ∷ []) k ≡ slice_get ts k
table_before [] k less = absurd (omega (arith, less))
table_before (t ∷ ts) zero less = refl
table_before (t ∷ ts) (suc k) less = table_before ts k (omega (arith, less))

last_table : (ts : List Rows) (k : ℕ) → k ≡ length ts → slice_get (ts ++ [] ∷ []) k ≡ Some []
last_table [] k is = ap (slice_get ([] ∷ [])) is
last_table (t ∷ ts) k is = ap (slice_get ((t ∷ ts) ++ [] ∷ [])) is ∙ last_table ts (length ts) refl

pub shelf_made : ShelfMakes
shelf_made m name old new is many free made added = record {
  dylibs = made ∙ ap (λ xs. xs ++ new_dylib (length xs) name.0 ∷ []) is.dylibs;
  tables = λ d there. split d there (cases_eq d (length m.dylibs));
}
  where
    count : length old.tables ≡ length m.dylibs
    count = many ∙ ap length is.dylibs

    table_is : (d : ℕ) (o : Option Rows) → slice_get (old.tables ++ [] ∷ []) d ≡ o → table_of new d ≡ option_map_or (λ t. t) o []
    table_is d o at = ap (λ (ts : List Rows). option_map_or (λ t. t) (slice_get ts d) []) added ∙ ap (λ (o : Option Rows). option_map_or (λ t. t) o []) at

    split : (d : ℕ) → d < length (m.dylibs ++ new_dylib (length m.dylibs) name.0 ∷ []) → (d ≡ length m.dylibs) ⊎ (d ≡ length m.dylibs → ⊥) → IsTableOf m.rows d (table_of new d)
    split d there (inl last) = subst (IsTableOf m.rows d) (sym (table_is d (Some []) (last_table old.tables d (omega (arith, last, count))))) (λ n. sym (ap (λ k. row_of m.rows k n) last ∙ free n))
    split d there (inr apart) =
        let less : d < length m.dylibs = omega (arith, there, apart, length-append m.dylibs (new_dylib (length m.dylibs) name.0 ∷ [])) in
        subst (IsTableOf m.rows d) (sym (table_is d (slice_get old.tables d) (table_before old.tables d (omega (arith, less, count))))) (is.tables d less)
