-- The rows of a new unit.
use Rattle.std.proofs.Common.{◌≡◌, ℕ, zero, suc, ◌+◌, ◌≤◌, Bool, true, false, List, [], ◌∷◌, ◌++◌, drop, length, slice_get, Some, refl, ap, ap₂, sym, ◌∙◌, arith, append_assoc}
use Rattle.std.proofs.lemmas.List.{length-append}
use Rattle.std.proofs.lemmas.Option.{none-some, same_Some}
use Rattle.list_laws.proofs.Lists.{drop_some}
use Rattle.orc_ids.specs.declared.flags.SymFlags.{SymFlags}
use Rattle.orc_ids.specs.declared.ids.NameId.{NameId}
use Rattle.session_model.specs.Change.{new_row}
use Rattle.session_model.specs.declared.rows.InstRow.{InstRow}
use Rattle.instances.specs.Table.{fresh_rows}

one_more : (d u k : ℕ) (offer : NameId × SymFlags) (offers : List (NameId × SymFlags)) (flag : Bool) (live : List Bool) → fresh_rows d u k (offer ∷ []) (flag ∷ []) ++ fresh_rows d u (k + 1) offers live ≡ fresh_rows d u k (offer ∷ offers) (flag ∷ live)
one_more d u k offer offers true live = refl
one_more d u k offer offers false live = refl

-- what is still to come follows what is there
pub fresh_more : (d u k : ℕ) (offers : List (NameId × SymFlags)) (live : List Bool) (offer : NameId × SymFlags) (flag : Bool) (now : List InstRow) → slice_get offers k ≡ Some offer → slice_get live k ≡ Some flag →
    (now ++ fresh_rows d u k (offer ∷ []) (flag ∷ [])) ++ fresh_rows d u (k + 1) (drop (k + 1) offers) (drop (k + 1) live) ≡ now ++ fresh_rows d u k (drop k offers) (drop k live)
fresh_more d u k offers live offer flag now a b =
    append_assoc now (fresh_rows d u k (offer ∷ []) (flag ∷ [])) (fresh_rows d u (k + 1) (drop (k + 1) offers) (drop (k + 1) live))
    ∙ ap (λ xs. now ++ xs) (one_more d u k offer (drop (k + 1) offers) flag (drop (k + 1) live))
    ∙ ap₂ (λ xs ys. now ++ fresh_rows d u k xs ys) (sym (drop_some offers k offer a)) (sym (drop_some live k flag b))

at_most_one : (d u k : ℕ) (offer : NameId × SymFlags) (flag : Bool) → length (fresh_rows d u k (offer ∷ []) (flag ∷ [])) ≤ 1
at_most_one d u k offer true = omega arith
at_most_one d u k offer false = omega arith

pub one_longer : (d u k : ℕ) (offer : NameId × SymFlags) (flag : Bool) (now new : List InstRow) → new ≡ now ++ fresh_rows d u k (offer ∷ []) (flag ∷ []) → length new ≤ length now + 1
one_longer d u k offer flag now new e = let one = at_most_one d u k offer flag in omega (arith, one, ap length e, length-append now (fresh_rows d u k (offer ∷ []) (flag ∷ [])))

-- each is of the unit
pub fresh_unit : (d u k : ℕ) (offers : List (NameId × SymFlags)) (live : List Bool) (i : ℕ) (r : InstRow) → slice_get (fresh_rows d u k offers live) i ≡ Some r → r.unit.0 ≡ u
fresh_unit d u k [] live i r e = absurd (none-some r e)
fresh_unit d u k (offer ∷ offers) [] i r e = absurd (none-some r e)
fresh_unit d u k (offer ∷ offers) (true ∷ live) zero r e = ap (λ (x : InstRow). x.unit.0) (sym (same_Some (new_row d u k offer) r e))
fresh_unit d u k (offer ∷ offers) (true ∷ live) (suc i) r e = fresh_unit d u (k + 1) offers live i r e
fresh_unit d u k (offer ∷ offers) (false ∷ live) i r e = fresh_unit d u (k + 1) offers live i r e

pub fresh_length : (d u k : ℕ) (offers : List (NameId × SymFlags)) (live : List Bool) → length (fresh_rows d u k offers live) ≤ length offers
fresh_length d u k [] live = omega arith
fresh_length d u k (offer ∷ offers) [] = omega arith
fresh_length d u k (offer ∷ offers) (true ∷ live) = let b = fresh_length d u (k + 1) offers live in omega (arith, b)
fresh_length d u k (offer ∷ offers) (false ∷ live) = let b = fresh_length d u (k + 1) offers live in omega (arith, b)
