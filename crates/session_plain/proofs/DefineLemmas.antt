-- The rows of a unit's kept names, one offer at a time.
use Rattle.std.proofs.Common.{◌≡◌, ℕ, ◌+◌, Bool, true, false, List, [], ◌∷◌, ◌++◌, drop, refl, ap, sym, ◌∙◌, append_assoc, zero, suc, add-one}
use Rattle.std.specs.Prelude.{slice_get, Some, None, if◌then◌else◌}
use Rattle.std.proofs.lemmas.Option.{none-some}
use Rattle.list_laws.proofs.Lists.{drop_some}
use Rattle.orc_ids.specs.declared.flags.SymFlags.{SymFlags}
use Rattle.orc_ids.specs.declared.ids.NameId.{NameId}
use Rattle.session_model.specs.Change.{is_kept, new_row, new_rows}
use Rattle.session_model.specs.declared.rows.InstRow.{InstRow}
use Rattle.session_model.specs.declared.rows.Verdict.{Verdict}

row_kept : (b : Bool) (row : InstRow) (old rest : List InstRow) → ((if b then old ++ row ∷ [] else old) ++ rest) ≡ (old ++ (if b then row ∷ rest else rest))
row_kept true row old rest = append_assoc old (row ∷ []) rest
row_kept false row old rest = refl

-- without verdicts no name is kept
no_rows : (d u k : ℕ) (offers : List (NameId × SymFlags)) → new_rows d u k offers [] ≡ []
no_rows d u k [] = refl
no_rows d u k (o ∷ os) = refl

no_more_suc : {X : Type 0} (xs : List X) (k : ℕ) → slice_get xs k ≡ None → drop k xs ≡ []
no_more_suc [] zero e = refl
no_more_suc [] (suc k) e = refl
no_more_suc (x ∷ xs) zero e = absurd (none-some x (sym e))
no_more_suc (x ∷ xs) (suc k) e = no_more_suc xs k e

next_none : {X : Type 0} (xs : List X) (k : ℕ) → slice_get xs k ≡ None → drop (suc k) xs ≡ []
next_none [] k e = refl
next_none (x ∷ xs) zero e = absurd (none-some x (sym e))
next_none (x ∷ xs) (suc k) e = next_none xs k e

-- an offer without a verdict
pub offer_unjudged : (d u k : ℕ) (offers : List (NameId × SymFlags)) (found : List Verdict) (old : List InstRow) → slice_get found k ≡ None →
    old ++ new_rows d u (k + 1) (drop (k + 1) offers) (drop (k + 1) found) ≡ old ++ new_rows d u k (drop k offers) (drop k found)
offer_unjudged d u k offers found old e =
    ap (λ vs. old ++ new_rows d u (k + 1) (drop (k + 1) offers) vs) (ap (λ n. drop n found) (add-one k) ∙ next_none found k e)
    ∙ (ap (λ rs. old ++ rs) (no_rows d u (k + 1) (drop (k + 1) offers) ∙ sym (no_rows d u k (drop k offers)))
    ∙ ap (λ vs. old ++ new_rows d u k (drop k offers) vs) (sym (no_more_suc found k e)))

-- one that is judged
pub offer_judged : (d u k : ℕ) (o : NameId × SymFlags) (offers : List (NameId × SymFlags)) (v : Verdict) (found : List Verdict) (kept : Bool) (row : InstRow) (old new : List InstRow) → slice_get offers k ≡ Some o → slice_get found k ≡ Some v →
    kept ≡ is_kept v → row ≡ new_row d u k o → new ≡ (if kept then old ++ row ∷ [] else old) →
    new ++ new_rows d u (k + 1) (drop (k + 1) offers) (drop (k + 1) found) ≡ old ++ new_rows d u k (drop k offers) (drop k found)
offer_judged d u k o offers v found kept row old new there judged keeps row_is is =
    let rest : List InstRow = new_rows d u (k + 1) (drop (k + 1) offers) (drop (k + 1) found) in
    ap (λ xs. xs ++ rest) (is ∙ (ap (λ b. if b then old ++ row ∷ [] else old) keeps ∙ ap (λ r. if is_kept v then old ++ r ∷ [] else old) row_is))
    ∙ (row_kept (is_kept v) (new_row d u k o) old rest
    ∙ sym (ap (λ xs. old ++ new_rows d u k xs (drop k found)) (drop_some offers k o there) ∙ ap (λ vs. old ++ new_rows d u k (o ∷ drop (k + 1) offers) vs) (drop_some found k v judged)))
