-- Some instances go, and those of a new unit come.
use Rattle.std.proofs.Common.{◌≡◌, ℕ, ◌+◌, Bool, cond, true, false, List, [], ◌∷◌, ◌++◌, length, refl, ap, ap₂, sym, ◌∙◌, arith}
use Rattle.std.specs.Prelude.{count_by}
use Rattle.std.proofs.lemmas.List.{length-append}
use Rattle.std.proofs.lemmas.List.Sums.{sum_by-cons}
use Rattle.list_laws.proofs.Lists.{list_same}
use Rattle.orc_ids.specs.declared.flags.SymFlags.{SymFlags}
use Rattle.orc_ids.specs.declared.ids.InstId.{InstId}
use Rattle.orc_ids.specs.declared.ids.NameId.{NameId}
use Rattle.session_model.specs.Lists.{numbered}
use Rattle.session_model.specs.declared.rows.InstRow.{InstRow}
use Rattle.session_laws.proofs.Declared.{numbered_at, numbered_length}
use Rattle.instances.specs.Table.{fresh_rows, replaced_row, AreChanged}

-- the rows with those gone
pub rows_gone : (gone : List InstId) (old new : List InstRow) → AreChanged (replaced_row gone) old new → new ≡ numbered (replaced_row gone) 0 old
rows_gone gone old new h = list_same new (numbered (replaced_row gone) 0 old) (λ i. h i ∙ sym (numbered_at (replaced_row gone) old i))

pub gone_length : (gone : List InstId) (old new : List InstRow) → AreChanged (replaced_row gone) old new → length new ≡ length old
gone_length gone old new h = ap length (rows_gone gone old new h) ∙ numbered_length (replaced_row gone) 0 old

-- each name that stays has one
pub fresh_count : (d u k : ℕ) (offers : List (NameId × SymFlags)) (live : List Bool) → length live ≡ length offers → length (fresh_rows d u k offers live) ≡ count_by (λ (b : Bool). b) live
fresh_count d u k [] [] h = refl
fresh_count d u k [] (b ∷ bs) h = absurd (omega (arith, h))
fresh_count d u k (o ∷ os) [] h = absurd (omega (arith, h))
fresh_count d u k (o ∷ os) (true ∷ bs) h = omega (arith, fresh_count d u (k + 1) os bs (omega (arith, h)), sum_by-cons (λ (b : Bool). cond b 1 0) true bs)
fresh_count d u k (o ∷ os) (false ∷ bs) h = omega (arith, fresh_count d u (k + 1) os bs (omega (arith, h)), sum_by-cons (λ (b : Bool). cond b 1 0) false bs)

-- how many there are then
pub exchanged_length : (d u : ℕ) (gone : List InstId) (offers : List (NameId × SymFlags)) (live : List Bool) (old mid new : List InstRow) → AreChanged (replaced_row gone) old mid → new ≡ mid ++ fresh_rows d u 0 offers live → length live ≡ length offers → length new ≡ length old + count_by (λ (b : Bool). b) live
exchanged_length d u gone offers live old mid new h e same = ap length e ∙ (length-append mid (fresh_rows d u 0 offers live) ∙ ap₂ (λ m n. m + n) (gone_length gone old mid h) (fresh_count d u 0 offers live same))
