-- The units that the parts hold are those that the session keeps.
use Rattle.std.proofs.Common.{◌≡◌, ℕ, ◌+◌, suc, Bool, List, [], ◌∷◌, slice_get, Option, Some, None, option_map, cond, refl, ap, sym, ◌∙◌}
use Rattle.std.specs.Prelude.{count_by, is_some}
use Rattle.std.proofs.lemmas.List.Sums.{sum_by-cons}
use Rattle.std.proofs.lemmas.Option.{none-some, same_Some}
use Rattle.session_model.specs.Meaning.{Meaning}
use Rattle.session_model.specs.Plain.{Plain, UnitRow, kept}
use Rattle.mat_unit.specs.Changes.{is_held}
use Rattle.mat_unit.specs.Roster.{held}
use Rattle.mat_unit.specs.Rows.{unit_row}
use Rattle.mat_unit.specs.declared.unit.Unit.{Unit as OneUnit}
use Rattle.session_parts.specs.Units.{AreUnits, tracker_at}

-- elements that pass alike are as many
pub counts_alike : {X Y : Type 0} (p : X → Bool) (q : Y → Bool) (xs : List X) (ys : List Y) → ((k : ℕ) → option_map p (slice_get xs k) ≡ option_map q (slice_get ys k)) → count_by p xs ≡ count_by q ys
counts_alike p q [] [] same = refl
counts_alike p q [] (y ∷ ys) same = absurd (none-some (q y) (same 0))
counts_alike p q (x ∷ xs) [] same = absurd (none-some (p x) (sym (same 0)))
counts_alike p q (x ∷ xs) (y ∷ ys) same = sum_by-cons (λ z. cond (p z) 1 0) x xs
    ∙ ap (λ (b : Bool). cond b 1 0 + count_by p xs) (same_Some (p x) (q y) (same 0))
    ∙ ap (λ n. cond (q y) 1 0 + n) (counts_alike p q xs ys (λ k. same (suc k)))
    ∙ sym (sum_by-cons (λ z. cond (q z) 1 0) y ys)

pub held_are_kept : {U : Type 0} (means : U → Meaning) (units : List (OneUnit U)) (m : Plain) → AreUnits means units m.units m.trackers → held units ≡ kept m
held_are_kept {U} means units m a = counts_alike is_held (λ x. is_some x.seat) units m.units (λ u. seat (tracker_at m.units u) (slice_get units u) ∙ sym (ap (option_map (λ (x : UnitRow). is_some x.seat)) (a.rows u)))
  where
    seat : (t : ℕ) (o : Option (OneUnit U)) → option_map is_held o ≡ option_map (λ (x : UnitRow). is_some x.seat) (option_map (unit_row means t) o)
    seat t None = refl
    seat t (Some x) = refl
