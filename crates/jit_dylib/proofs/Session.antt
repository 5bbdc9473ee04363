-- The rows of a session that defines a unit, by name.
use Rattle.std.proofs.Common.{◌≡◌, ◌⊎◌, inl, inr, ℕ, suc, ◌+◌, Bool, true, false, ◌&&◌, ◌||◌, ◌==◌, not, List, [], ◌∷◌, ◌++◌, Option, Some, None, nat_eq, cond, slice_get, length, map, refl, sym, ap, ◌∙◌, arith, subst}
use Rattle.std.specs.Prelude.{is_some, option_and_then}
use Rattle.std.specs.Bool.{if◌then◌else◌}
use Rattle.std.specs.List.{list_any}
use Rattle.std.specs.Option.{option_map_or}
use Rattle.std.proofs.lemmas.Option.{none-some, same_Some}
use Rattle.std.proofs.lemmas.Bool.{cases_eq, ne_eqb, eq-eqb, eqb-true}
use Rattle.session_model.proofs.Changes.{numbered_length}
use Rattle.session_model.proofs.FirstRows.{no_first}
use Rattle.orc_ids.specs.declared.flags.SymFlags.{SymFlags}
use Rattle.orc_ids.specs.declared.ids.InstId.{InstId}
use Rattle.orc_ids.specs.declared.ids.NameId.{NameId}
use Rattle.session_model.specs.Answer.{clash}
use Rattle.session_model.specs.Change.{is_strong, verdict_on, verdict, verdicts, is_kept, replaced_by, kept_names, is_replaced, unreplaced_row, new_row, new_rows, is_unit_of, removed_row, removed, hit_row, tracker_roots}
use Rattle.session_model.specs.Lists.{first_some, numbered, only_if, or_else}
use Rattle.session_model.specs.Match.{row_of, first_row}
use Rattle.session_model.specs.Plain.{Plain, unsearched_at}
use Rattle.session_model.specs.declared.rows.InstRow.{InstRow}
use Rattle.session_model.specs.declared.rows.Row.{Row}
use Rattle.session_model.specs.declared.rows.Verdict.{Verdict}
use Rattle.session_model.specs.declared.rows.Verdict.TheVariants.{Kept, Replaces, Discarded, Clashes}
use Rattle.jit_dylib.specs.Rows.{Rows, row_at, verdicts_at, first_clash, fresh_rows, left_row}
use Rattle.jit_dylib.specs.Laws.{IsTableOf, is_present_as, HasOneRowEach, NamesGone}

-- the first row

first_step : (test : InstRow → Bool) (k : ℕ) (r : InstRow) (rs : List InstRow) (b : Bool) → test r ≡ b → first_row test k (r ∷ rs) ≡ (if b then Some (record { inst = record { 0 = k }; flags = r.flags }) else first_row test (k + 1) rs)
first_step test k r rs b e = ap (λ c. if c then Some (record { inst = record { 0 = k }; flags = r.flags }) else first_row test (k + 1) rs) e

record IsFirst (test : InstRow → Bool) (rows : List InstRow) (i : ℕ) : Type 0 where
  row : InstRow
  there : slice_get rows i ≡ Some row
  passes : test row ≡ true

first_there : (test : InstRow → Bool) (k : ℕ) (rows : List InstRow) (x : Row) → first_row test k rows ≡ Some x → (i : ℕ) × (x.inst.0 ≡ k + i) × IsFirst test rows i
first_there test k [] x is = absurd (none-some x is)
first_there test k (r ∷ rs) x is = split (test r) refl (first_there test (k + 1) rs x)
  where
    split : (b : Bool) → test r ≡ b → (first_row test (k + 1) rs ≡ Some x → (i : ℕ) × (x.inst.0 ≡ k + 1 + i) × IsFirst test rs i) → (i : ℕ) × (x.inst.0 ≡ k + i) × IsFirst test (r ∷ rs) i
    split true t rest =
        let e : k ≡ x.inst.0 = ap (λ (y : Row). y.inst.0) (same_Some (record { inst = record { 0 = k }; flags = r.flags }) x (sym (first_step test k r rs true t) ∙ is)) in
        (0, omega (arith, e), record { row = r; there = refl; passes = t })
    split false f rest =
        let h = rest (sym (first_step test k r rs false f) ∙ is) in
        (suc h.0, omega (arith, h.1), record { row = h.2.row; there = h.2.there; passes = h.2.passes })

first_append : (test : InstRow → Bool) (k : ℕ) (xs ys : List InstRow) (n : ℕ) → n ≡ k + length xs → first_row test k (xs ++ ys) ≡ or_else (first_row test k xs) (first_row test n ys)
first_append test k [] ys n e = ap (λ j. first_row test j ys) (let s : k ≡ n = omega (arith, e) in s)
first_append test k (x ∷ xs) ys n e = split (test x) refl (first_append test (k + 1) xs ys n (omega (arith, e)))
  where
    split : (b : Bool) → test x ≡ b → first_row test (k + 1) (xs ++ ys) ≡ or_else (first_row test (k + 1) xs) (first_row test n ys) → first_row test k (x ∷ xs ++ ys) ≡ or_else (first_row test k (x ∷ xs)) (first_row test n ys)
    split true t ih = first_step test k x (xs ++ ys) true t ∙ sym (ap (λ o. or_else o (first_row test n ys)) (first_step test k x xs true t))
    split false f ih = first_step test k x (xs ++ ys) false f ∙ (ih ∙ sym (ap (λ o. or_else o (first_row test n ys)) (first_step test k x xs false f)))

-- a replaced row is no longer present

abbrev unless_gone : (ℕ → Bool) → Option Row → Option Row
unless_gone goes old = option_and_then (λ x. only_if (not (goes x.inst.0)) x) old

-- each row stays as it is for the test, but that those go that `goes` says
record Hides (test : InstRow → Bool) (goes : ℕ → Bool) (f : ℕ → InstRow → InstRow) (k : ℕ) (rows : List InstRow) : Type 0 where
  each : (i j : ℕ) (r : InstRow) → j ≡ k + i → slice_get rows i ≡ Some r → test (f j r) ≡ (test r && not (goes j))
  flags : (j : ℕ) (r : InstRow) → (f j r).flags ≡ r.flags

and_last : (p q a b : Bool) → ((p && not q) && a && b) ≡ ((p && a && b) && not q)
and_last false q a b = refl
and_last true true true true = refl
and_last true true true false = refl
and_last true true false b = refl
and_last true false true true = refl
and_last true false true false = refl
and_last true false false b = refl

replaced_test : (found : List Verdict) (d name k : ℕ) (r : InstRow) → is_present_as d name (unreplaced_row found k r) ≡ (is_present_as d name r && not (is_replaced found k))
replaced_test found d name k r = and_last r.present (is_replaced found k) (r.dylib.0 == d) (r.name.0 == name)

abbrev HasOne : (InstRow → Bool) → List InstRow → Type 0
HasOne test rows = (i j : ℕ) (r s : InstRow) → slice_get rows i ≡ Some r → slice_get rows j ≡ Some s → test r ≡ true → test s ≡ true → i ≡ j

rest_has_one : (test : InstRow → Bool) (r : InstRow) (rs : List InstRow) → HasOne test (r ∷ rs) → HasOne test rs
rest_has_one test r rs one = λ i j s z at_i at_j p q. omega (arith, one (suc i) (suc j) s z at_i at_j p q)

others_fail : (test : InstRow → Bool) (r : InstRow) (rs : List InstRow) → HasOne test (r ∷ rs) → test r ≡ true → (i : ℕ) (s : InstRow) → slice_get rs i ≡ Some s → test s ≡ false
others_fail test r rs one t i s at = split (test s) refl
  where
    split : (b : Bool) → test s ≡ b → test s ≡ false
    split true u = absurd (omega (arith, one 0 (suc i) r s refl at t u))
    split false f = f

hidden_rows : (test : InstRow → Bool) (goes : ℕ → Bool) (f : ℕ → InstRow → InstRow) (k : ℕ) (rows : List InstRow) → Hides test goes f k rows → HasOne test rows →
    first_row test k (numbered f k rows) ≡ unless_gone goes (first_row test k rows)
hidden_rows test goes f k [] h one = refl
hidden_rows test goes f k (r ∷ rs) h one =
    split (test r) refl (goes k) refl (hidden_rows test goes f (k + 1) rs (record { each = λ i j s e at. h.each (suc i) j s (omega (arith, e)) at; flags = h.flags }) (rest_has_one test r rs one))
  where
    split : (b : Bool) → test r ≡ b → (c : Bool) → goes k ≡ c → first_row test (k + 1) (numbered f (k + 1) rs) ≡ unless_gone goes (first_row test (k + 1) rs) →
        first_row test k (f k r ∷ numbered f (k + 1) rs) ≡ unless_gone goes (first_row test k (r ∷ rs))
    split false t c g rest =
        first_step test k (f k r) (numbered f (k + 1) rs) false (h.each 0 k r (omega arith) refl ∙ ap (λ x. x && not (goes k)) t)
        ∙ (rest ∙ sym (ap (unless_gone goes) (first_step test k r rs false t)))
    split true t false g rest =
        first_step test k (f k r) (numbered f (k + 1) rs) true (h.each 0 k r (omega arith) refl ∙ (ap (λ x. x && not (goes k)) t ∙ ap not g))
        ∙ (ap (λ (fl : SymFlags). Some (record { inst = record { 0 = k }; flags = fl })) (h.flags k r)
        ∙ (sym (ap (λ x. only_if (not x) (record { inst = record { 0 = k }; flags = r.flags })) g) ∙ sym (ap (unless_gone goes) (first_step test k r rs true t))))
    split true t true g rest =
        first_step test k (f k r) (numbered f (k + 1) rs) false (h.each 0 k r (omega arith) refl ∙ (ap (λ x. x && not (goes k)) t ∙ ap not g))
        ∙ (rest ∙ (ap (unless_gone goes) (no_first test (k + 1) rs (others_fail test r rs one t))
        ∙ (sym (ap (λ x. only_if (not x) (record { inst = record { 0 = k }; flags = r.flags })) g) ∙ sym (ap (unless_gone goes) (first_step test k r rs true t)))))

-- the rows of the names that stay

new_test : (d u j n : ℕ) (o : NameId × SymFlags) (b : Bool) → nat_eq n o.0.0 ≡ b → is_present_as d n (new_row d u j o) ≡ b
new_test d u j n o true e = grind (arith, eq-eqb d d refl, eq-eqb o.0.0 n (sym (eqb-true n o.0.0 e)))
new_test d u j n o false e = split (cases_eq o.0.0 n)
  where
    split : (o.0.0 ≡ n) ⊎ (o.0.0 ≡ n → ⊥) → is_present_as d n (new_row d u j o) ≡ false
    split (inl is) = absurd (grind (arith, e, eq-eqb n o.0.0 (sym is)))
    split (inr apart) = grind (arith, eq-eqb d d refl, ne_eqb o.0.0 n apart)

new_is_fresh : (d u n k j : ℕ) (offers : List (NameId × SymFlags)) (found : List Verdict) → first_row (is_present_as d n) k (new_rows d u j offers found) ≡ row_at (fresh_rows k offers (kept_names found)) n
new_is_fresh d u n k j [] [] = refl
new_is_fresh d u n k j [] (v ∷ vs) = refl
new_is_fresh d u n k j (o ∷ os) [] = refl
new_is_fresh d u n k j (o ∷ os) (v ∷ vs) = split (is_kept v) (λ i. new_is_fresh d u n i (j + 1) os vs)
  where
    split : (b : Bool) → ((i : ℕ) → first_row (is_present_as d n) i (new_rows d u (j + 1) os vs) ≡ row_at (fresh_rows i os (kept_names vs)) n) →
        first_row (is_present_as d n) k (if b then new_row d u j o ∷ new_rows d u (j + 1) os vs else new_rows d u (j + 1) os vs) ≡ row_at (fresh_rows k (o ∷ os) (b ∷ kept_names vs)) n
    split true rest =
        first_step (is_present_as d n) k (new_row d u j o) (new_rows d u (j + 1) os vs) (nat_eq n o.0.0) (new_test d u j n o (nat_eq n o.0.0) refl)
        ∙ ap (λ (other : Option Row). if nat_eq n o.0.0 then Some (record { inst = record { 0 = k }; flags = o.1 }) else other) (rest (k + 1))
    split false rest = rest k

-- a name's row is replaced where the name has a fresh one

apart_rows : (rows : List InstRow) (d n o : ℕ) (x y : Row) → row_of rows d n ≡ Some x → row_of rows d o ≡ Some y → (n ≡ o → ⊥) → x.inst.0 ≡ y.inst.0 → ⊥
apart_rows rows d n o x y is_x is_y apart same =
    let at_x = first_there (is_present_as d n) 0 rows x is_x in
    let at_y = first_there (is_present_as d o) 0 rows y is_y in
    let e : at_x.0 ≡ at_y.0 = omega (arith, at_x.1, at_y.1, same) in
    let r : at_x.2.row ≡ at_y.2.row = same_Some at_x.2.row at_y.2.row (sym at_x.2.there ∙ (ap (slice_get rows) e ∙ at_y.2.there)) in
    apart (sym (name_of d n at_x.2.row at_x.2.passes) ∙ (ap (λ (s : InstRow). s.name.0) r ∙ name_of d o at_y.2.row at_y.2.passes))
  where
    name_of : (d n : ℕ) (r : InstRow) → is_present_as d n r ≡ true → r.name.0 ≡ n
    name_of d n r t = eqb-true r.name.0 n (grind (arith, t))

-- an instance that no offered name stands for isn't replaced
not_replaced : (rows : List InstRow) (d i : ℕ) (o : NameId × SymFlags) → ((y : Row) → row_of rows d o.0.0 ≡ Some y → i ≡ y.inst.0 → ⊥) → option_map_or (nat_eq i) (replaced_by (verdict rows d o)) false ≡ false
not_replaced rows d i o apart = split (row_of rows d o.0.0) refl
  where
    over : (y : Row) → row_of rows d o.0.0 ≡ Some y → (s c : Bool) → option_map_or (nat_eq i) (replaced_by (if not s then Discarded else (if c then Clashes y.inst else Replaces y.inst))) false ≡ false
    over y at false c = refl
    over y at true true = refl
    over y at true false = ne_eqb i y.inst.0 (apart y at)

    split : (e : Option Row) → row_of rows d o.0.0 ≡ e → option_map_or (nat_eq i) (replaced_by (option_map_or (verdict_on rows o.1) e Kept)) false ≡ false
    split None at = refl
    split (Some y) at = over y at (is_strong o.1) (is_strong y.flags || not (unsearched_at rows y.inst.0))

-- the row is replaced where its name has a fresh one, wherever these are numbered from
abbrev ReplacesAsFresh : List InstRow → ℕ → ℕ → Row → List (NameId × SymFlags) → Type 0
ReplacesAsFresh rows d n x offers = (k : ℕ) → is_replaced (verdicts rows d offers) x.inst.0 ≡ is_some (row_at (fresh_rows k offers (kept_names (verdicts rows d offers))) n)

replaced_is_fresh : (rows : List InstRow) (d n : ℕ) (x : Row) (next : ℕ) (offers : List (NameId × SymFlags)) → row_of rows d n ≡ Some x →
    is_replaced (verdicts rows d offers) x.inst.0 ≡ is_some (row_at (fresh_rows next offers (kept_names (verdicts rows d offers))) n)
replaced_is_fresh rows d n x next [] is = refl
replaced_is_fresh rows d n x next (o ∷ os) is = split (cases_eq n o.0.0) (λ k. replaced_is_fresh rows d n x k os is)
  where
    own : (s c : Bool) → nat_eq n o.0.0 ≡ true → ReplacesAsFresh rows d n x os →
        let v = if not s then Discarded else (if c then Clashes x.inst else Replaces x.inst) in is_replaced (v ∷ verdicts rows d os) x.inst.0 ≡ is_some (row_at (fresh_rows next (o ∷ os) (is_kept v ∷ kept_names (verdicts rows d os))) n)
    own false c e rest = rest next
    own true true e rest = rest next
    own true false e rest =
        ap (λ b. b || is_replaced (verdicts rows d os) x.inst.0) (eq-eqb x.inst.0 x.inst.0 refl)
        ∙ sym (ap (λ b. is_some (cond b (Some (record { inst = record { 0 = next }; flags = o.1 })) (row_at (fresh_rows (next + 1) os (kept_names (verdicts rows d os))) n))) e)

    skipped : (b : Bool) → nat_eq n o.0.0 ≡ false → ReplacesAsFresh rows d n x os → is_replaced (verdicts rows d os) x.inst.0 ≡ is_some (row_at (fresh_rows next (o ∷ os) (b ∷ kept_names (verdicts rows d os))) n)
    skipped true e rest = rest (next + 1) ∙ sym (ap (λ b. is_some (cond b (Some (record { inst = record { 0 = next }; flags = o.1 })) (row_at (fresh_rows (next + 1) os (kept_names (verdicts rows d os))) n))) e)
    skipped false e rest = rest next

    split : (n ≡ o.0.0) ⊎ (n ≡ o.0.0 → ⊥) → ReplacesAsFresh rows d n x os → is_replaced (verdict rows d o ∷ verdicts rows d os) x.inst.0 ≡ is_some (row_at (fresh_rows next (o ∷ os) (is_kept (verdict rows d o) ∷ kept_names (verdicts rows d os))) n)
    split (inl same) rest =
        subst (λ v. is_replaced (v ∷ verdicts rows d os) x.inst.0 ≡ is_some (row_at (fresh_rows next (o ∷ os) (is_kept v ∷ kept_names (verdicts rows d os))) n))
        (sym (ap (λ e. option_map_or (verdict_on rows o.1) e Kept) (sym (ap (row_of rows d) same) ∙ is)))
        (own (is_strong o.1) (is_strong x.flags || not (unsearched_at rows x.inst.0)) (eq-eqb n o.0.0 same) rest)
    split (inr apart) rest =
        ap (λ b. b || is_replaced (verdicts rows d os) x.inst.0) (not_replaced rows d x.inst.0 o (λ y at. apart_rows rows d n o.0.0 x y is at apart))
        ∙ skipped (is_kept (verdict rows d o)) (ne_eqb n o.0.0 apart) rest

-- what is left of the old row, then the fresh one; or the fresh one, then the old

either_order : (found : List Verdict) (old fresh : Option Row) → ((x : Row) → old ≡ Some x → is_replaced found x.inst.0 ≡ is_some fresh) → or_else (unless_gone (is_replaced found) old) fresh ≡ or_else fresh old
either_order found None None h = refl
either_order found None (Some f) h = refl
either_order found (Some x) None h = ap (λ b. or_else (only_if (not b) x) None) (h x refl)
either_order found (Some x) (Some f) h = ap (λ b. or_else (only_if (not b) x) (Some f)) (h x refl)

hides_replaced : (found : List Verdict) (d n : ℕ) (rows : List InstRow) → Hides (is_present_as d n) (is_replaced found) (unreplaced_row found) 0 rows
hides_replaced found d n rows = record { each = λ i j r e at. replaced_test found d n j r; flags = λ j r. refl }

pub rows_defined : (rows : List InstRow) (d u n : ℕ) (offers : List (NameId × SymFlags)) → HasOneRowEach rows d →
    row_of (numbered (unreplaced_row (verdicts rows d offers)) 0 rows ++ new_rows d u 0 offers (verdicts rows d offers)) d n
    ≡ or_else (row_at (fresh_rows (length rows) offers (kept_names (verdicts rows d offers))) n) (row_of rows d n)
rows_defined rows d u n offers one =
    let found = verdicts rows d offers in
    let test = is_present_as d n in
    let fresh = row_at (fresh_rows (length rows) offers (kept_names found)) n in
    first_append test 0 (numbered (unreplaced_row found) 0 rows) (new_rows d u 0 offers found) (length rows) (sym (numbered_length (unreplaced_row found) 0 rows) ∙ (let z : length (numbered (unreplaced_row found) 0 rows) ≡ 0 + length (numbered (unreplaced_row found) 0 rows) = omega arith in z))
    ∙ (ap (λ o. or_else o (first_row test (length rows) (new_rows d u 0 offers found))) (hidden_rows test (is_replaced found) (unreplaced_row found) 0 rows (hides_replaced found d n rows) (one n))
    ∙ (ap (or_else (unless_gone (is_replaced found) (row_of rows d n))) (new_is_fresh d u n (length rows) 0 offers found)
    ∙ either_order found (row_of rows d n) fresh (λ x is. replaced_is_fresh rows d n x (length rows) offers is)))

-- judging over the session's rows

pub verdicts_same : (rows : List InstRow) (d : ℕ) (t : Rows) (offers : List (NameId × SymFlags)) → IsTableOf rows d t → verdicts_at rows t offers ≡ verdicts rows d offers
verdicts_same rows d t [] is = refl
verdicts_same rows d t (o ∷ os) is =
    ap (λ e. option_map_or (verdict_on rows o.1) e Kept ∷ verdicts_at rows t os) (is o.0.0) ∙ ap (λ vs. verdict rows d o ∷ vs) (verdicts_same rows d t os is)

pub clash_same : (rows : List InstRow) (d : ℕ) (t : Rows) (offers : List (NameId × SymFlags)) → IsTableOf rows d t → first_clash rows t offers ≡ first_some (λ (o : NameId × SymFlags). clash o.0 (verdict rows d o)) offers
clash_same rows d t [] is = refl
clash_same rows d t (o ∷ os) is =
    ap (λ e. or_else (clash o.0 (option_map_or (verdict_on rows o.1) e Kept)) (first_clash rows t os)) (is o.0.0)
    ∙ ap (or_else (clash o.0 (verdict rows d o))) (clash_same rows d t os is)

-- a define in another dylib

dylib_of : (d n : ℕ) (r : InstRow) → is_present_as d n r ≡ true → r.dylib.0 ≡ d
dylib_of d n r t = eqb-true r.dylib.0 d (grind (arith, t))

none_replaced : (rows : List InstRow) (d j : ℕ) (r : InstRow) (offers : List (NameId × SymFlags)) → slice_get rows j ≡ Some r → (r.dylib.0 ≡ d → ⊥) → is_replaced (verdicts rows d offers) j ≡ false
none_replaced rows d j r [] at apart = refl
none_replaced rows d j r (o ∷ os) at apart =
    ap (λ b. b || is_replaced (verdicts rows d os) j) (not_replaced rows d j o (λ y is same. own y is same)) ∙ none_replaced rows d j r os at apart
  where
    own : (y : Row) → row_of rows d o.0.0 ≡ Some y → j ≡ y.inst.0 → ⊥
    own y is same =
        let found = first_there (is_present_as d o.0.0) 0 rows y is in
        let e : j ≡ found.0 = omega (arith, found.1, same) in
        let s : r ≡ found.2.row = same_Some r found.2.row (sym at ∙ (ap (slice_get rows) e ∙ found.2.there)) in
        apart (ap (λ (x : InstRow). x.dylib.0) s ∙ dylib_of d o.0.0 found.2.row found.2.passes)

none_new : (d e u n k j : ℕ) (offers : List (NameId × SymFlags)) (found : List Verdict) → (d ≡ e → ⊥) → first_row (is_present_as e n) k (new_rows d u j offers found) ≡ None
none_new d e u n k j [] found apart = refl
none_new d e u n k j (o ∷ os) [] apart = refl
none_new d e u n k j (o ∷ os) (v ∷ vs) apart = split (is_kept v) (λ i. none_new d e u n i (j + 1) os vs apart)
  where
    split : (b : Bool) → ((i : ℕ) → first_row (is_present_as e n) i (new_rows d u (j + 1) os vs) ≡ None) →
        first_row (is_present_as e n) k (if b then new_row d u j o ∷ new_rows d u (j + 1) os vs else new_rows d u (j + 1) os vs) ≡ None
    split true rest = first_step (is_present_as e n) k (new_row d u j o) (new_rows d u (j + 1) os vs) false (grind (arith, ne_eqb d e apart)) ∙ rest (k + 1)
    split false rest = rest k

all_there : (old : Option Row) → unless_gone (λ i. false) old ≡ old
all_there None = refl
all_there (Some x) = refl

or_nothing : (old : Option Row) → or_else old None ≡ old
or_nothing None = refl
or_nothing (Some x) = refl

hides_nothing : (rows : List InstRow) (d e n : ℕ) (offers : List (NameId × SymFlags)) → (e ≡ d → ⊥) → Hides (is_present_as e n) (λ i. false) (unreplaced_row (verdicts rows d offers)) 0 rows
hides_nothing rows d e n offers apart = record { each = λ i j r is at. split j r (ap (slice_get rows) (let z : j ≡ i = omega (arith, is) in z) ∙ at) (is_present_as e n r) refl; flags = λ j r. refl }
  where
    split : (j : ℕ) (r : InstRow) → slice_get rows j ≡ Some r → (b : Bool) → is_present_as e n r ≡ b → is_present_as e n (unreplaced_row (verdicts rows d offers) j r) ≡ (is_present_as e n r && true)
    split j r at false t = replaced_test (verdicts rows d offers) e n j r ∙ (ap (λ x. x && not (is_replaced (verdicts rows d offers) j)) t ∙ sym (ap (λ x. x && true) t))
    split j r at true t =
        let stays = none_replaced rows d j r offers at (λ same. apart (sym (dylib_of e n r t) ∙ same)) in
        replaced_test (verdicts rows d offers) e n j r ∙ ap (λ x. is_present_as e n r && not x) stays

pub rows_elsewhere : (rows : List InstRow) (d e u n : ℕ) (offers : List (NameId × SymFlags)) → HasOneRowEach rows e → (e ≡ d → ⊥) →
    row_of (numbered (unreplaced_row (verdicts rows d offers)) 0 rows ++ new_rows d u 0 offers (verdicts rows d offers)) e n ≡ row_of rows e n
rows_elsewhere rows d e u n offers one apart =
    let found = verdicts rows d offers in
    let test = is_present_as e n in
    first_append test 0 (numbered (unreplaced_row found) 0 rows) (new_rows d u 0 offers found) (length rows) (sym (numbered_length (unreplaced_row found) 0 rows) ∙ (let z : length (numbered (unreplaced_row found) 0 rows) ≡ 0 + length (numbered (unreplaced_row found) 0 rows) = omega arith in z))
    ∙ (ap (or_else (first_row test 0 (numbered (unreplaced_row found) 0 rows))) (none_new d e u n (length rows) 0 offers found (λ same. apart (sym same)))
    ∙ (or_nothing (first_row test 0 (numbered (unreplaced_row found) 0 rows))
    ∙ (hidden_rows test (λ i. false) (unreplaced_row found) 0 rows (hides_nothing rows d e n offers apart) (one n)
    ∙ all_there (first_row test 0 rows))))

-- a removal

map-numbered : {X Y Z : Type 0} (g : Y → Z) (f : ℕ → X → Y) (k : ℕ) (xs : List X) → map g (numbered f k xs) ≡ numbered (λ i x. g (f i x)) k xs
map-numbered g f k [] = refl
map-numbered g f k (x ∷ xs) = ap (λ ys. g (f k x) ∷ ys) (map-numbered g f (k + 1) xs)

abbrev dropped_row : Plain → ℕ → ℕ → InstRow → InstRow
dropped_row m t i r = removed_row m t (hit_row (tracker_roots m t) m.rows i r)

abbrev goes_by : List (NameId × InstId) → ℕ → ℕ → Bool
goes_by gone n i = list_any (λ (g : NameId × InstId). g.0.0 == n && g.1.0 == i) gone

hides_removed : (m : Plain) (t d n : ℕ) (gone : List (NameId × InstId)) → NamesGone m t d gone → Hides (is_present_as d n) (goes_by gone n) (dropped_row m t) 0 m.rows
hides_removed m t d n gone named = record { each = λ i j r is at. split j r (ap (slice_get m.rows) (let z : j ≡ i = omega (arith, is) in z) ∙ at) (is_present_as d n r) refl; flags = λ j r. refl }
  where
    split : (j : ℕ) (r : InstRow) → slice_get m.rows j ≡ Some r → (b : Bool) → is_present_as d n r ≡ b → is_present_as d n (dropped_row m t j r) ≡ (is_present_as d n r && not (goes_by gone n j))
    split j r at false p = and_last r.present (is_unit_of m t r.unit.0) (r.dylib.0 == d) (r.name.0 == n) ∙ (ap (λ x. x && not (is_unit_of m t r.unit.0)) p ∙ sym (ap (λ x. x && not (goes_by gone n j)) p))
    split j r at true p = and_last r.present (is_unit_of m t r.unit.0) (r.dylib.0 == d) (r.name.0 == n) ∙ ap (λ x. is_present_as d n r && not x) (sym (named n j r at p))

pub rows_removed : (m : Plain) (t d n : ℕ) (gone : List (NameId × InstId)) → HasOneRowEach m.rows d → NamesGone m t d gone → row_of (removed t m).rows d n ≡ left_row gone n (row_of m.rows d n)
rows_removed m t d n gone one named =
    ap (first_row (is_present_as d n) 0) (map-numbered (removed_row m t) (hit_row (tracker_roots m t) m.rows) 0 m.rows)
    ∙ hidden_rows (is_present_as d n) (goes_by gone n) (dropped_row m t) 0 m.rows (hides_removed m t d n gone named) (one n)
