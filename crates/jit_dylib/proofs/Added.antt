-- Rows that are added one by one, where no name is offered twice.
use Rattle.std.proofs.Common.{◌≡◌, ◌<◌, ◌≤◌, ◌⊎◌, inl, inr, ℕ, suc, ◌+◌, Bool, true, false, List, [], ◌∷◌, Some, None, cond, slice_get, get_or, length, drop, unwrap_or, subst, refl, sym, ap, ◌∙◌, arith}
use Rattle.std.specs.Bool.{if◌then◌else◌}
use Rattle.std.proofs.lemmas.Option.{unwrap_or-slice_get}
use Rattle.std.proofs.lemmas.Bool.{cases_eq, ne_eqb, eq-eqb}
use Rattle.std.proofs.lemmas.List.{drop_more}
use Rattle.orc_ids.specs.declared.flags.SymFlags.{SymFlags}
use Rattle.orc_ids.specs.declared.ids.NameId.{NameId}
use Rattle.session_model.specs.Lists.{or_else}
use Rattle.jit_dylib.specs.Rows.{Rows, row_at, fresh_rows, AreAdded, NamesDiffer}

-- the names behind the first one
pub rest_differ : (o : NameId × SymFlags) (os : List (NameId × SymFlags)) → NamesDiffer (o ∷ os) → NamesDiffer os
rest_differ o os differ = λ j k a b at_j at_k same. omega (arith, differ (suc j) (suc k) a b at_j at_k same)

first_differs : (o : NameId × SymFlags) (os : List (NameId × SymFlags)) → NamesDiffer (o ∷ os) → (k : ℕ) (p : NameId × SymFlags) → slice_get os k ≡ Some p → o.0.0 ≡ p.0.0 → ⊥
first_differs o os differ k p at same = omega (arith, differ 0 (suc k) o p refl at (ap (λ (n : ℕ). record { 0 = n }) same))

-- a name that isn't offered has no fresh row
no_row : (next : ℕ) (os : List (NameId × SymFlags)) (live : List Bool) (name : ℕ) → ((k : ℕ) (p : NameId × SymFlags) → slice_get os k ≡ Some p → name ≡ p.0.0 → ⊥) → row_at (fresh_rows next os live) name ≡ None
no_row next [] live name none = refl
no_row next (o ∷ os) [] name none = refl
no_row next (o ∷ os) (true ∷ live) name none =
    ap (λ b. cond b (Some (record { inst = record { 0 = next }; flags = o.1 })) (row_at (fresh_rows (next + 1) os live) name)) (ne_eqb name o.0.0 (none 0 o refl))
    ∙ no_row (next + 1) os live name (λ k p at. none (suc k) p at)
no_row next (o ∷ os) (false ∷ live) name none = no_row next os live name (λ k p at. none (suc k) p at)

-- with the row of the first offer put, the others' are left to be put
pub one_more : (next : ℕ) (o : NameId × SymFlags) (os : List (NameId × SymFlags)) (b : Bool) (live : List Bool) (old new : Rows) → NamesDiffer (o ∷ os) → AreAdded (fresh_rows next (o ∷ []) (b ∷ [])) old new →
    (name : ℕ) → or_else (row_at (fresh_rows (if b then next + 1 else next) os live) name) (row_at new name) ≡ or_else (row_at (fresh_rows next (o ∷ os) (b ∷ live)) name) (row_at old name)
one_more next o os false live old new differ added name = ap (or_else (row_at (fresh_rows next os live) name)) (added name)
one_more next o os true live old new differ added name = split (cases_eq name o.0.0)
  where
    split : (name ≡ o.0.0) ⊎ (name ≡ o.0.0 → ⊥) → or_else (row_at (fresh_rows (next + 1) os live) name) (row_at new name) ≡ or_else (row_at (fresh_rows next (o ∷ os) (true ∷ live)) name) (row_at old name)
    split (inl is) = grind (arith, added name, eq-eqb name o.0.0 is, no_row (next + 1) os live name (λ k p at same. first_differs o os differ k p at (sym is ∙ same)))
    split (inr apart) = grind (arith, added name, ne_eqb name o.0.0 apart)

-- the row of the offer at a place, put behind those before it
pub more_at : (at next result : ℕ) (offers : List (NameId × SymFlags)) (d : NameId × SymFlags) (b : Bool) (live : List Bool) (old new : Rows) → at < length offers → length live ≡ length offers →
    b ≡ unwrap_or (slice_get live at) false → result ≡ (if b then next + 1 else next) → NamesDiffer (drop at offers) → AreAdded (fresh_rows next (get_or offers at d ∷ []) (b ∷ [])) old new →
    (name : ℕ) → or_else (row_at (fresh_rows result (drop (at + 1) offers) (drop (at + 1) live)) name) (row_at new name) ≡ or_else (row_at (fresh_rows next (drop at offers) (drop at live)) name) (row_at old name)
more_at at next result offers d b live old new less same flag number differ added name =
    rw (number, drop_more offers at d less, drop_more live at false (omega (arith, less, same)), ← unwrap_or-slice_get live at false, ← flag)
    (one_more next (get_or offers at d) (drop (at + 1) offers) b (drop (at + 1) live) old new (subst NamesDiffer (drop_more offers at d less) differ) added name)

pub names_behind : (offers : List (NameId × SymFlags)) (at : ℕ) → at < length offers → NamesDiffer (drop at offers) → NamesDiffer (drop (at + 1) offers)
names_behind [] at less differ = absurd (omega (arith, less))
names_behind (o ∷ os) at less differ = rest_differ _ _ (subst NamesDiffer (drop_more (o ∷ os) at o less) differ)

-- at most one number more
pub next_within : (b : Bool) (next result most : ℕ) → result ≡ (if b then next + 1 else next) → next ≤ most → result ≤ most + 1
next_within true next result most is less = omega (arith, is, less)
next_within false next result most is less = omega (arith, is, less)
