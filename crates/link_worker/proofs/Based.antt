-- Where a unit is that has a base.
use Rattle.std.proofs.Common.{◌≡◌, ℕ, ◌<◌, ◌^◌, ◌==◌, true, false, List, [], length, slice_get, ◌⊎◌, inl, inr, refl, ap, subst, ◌∙◌, arith, Option, Some, None, is_some, unwrap_or, option_map, option_and_then}
use Rattle.std.specs.Bool.{if◌then◌else◌}
use Rattle.std.proofs.lemmas.Bool.{both_ways, cases_Bool}
use Rattle.std.proofs.lemmas.Option.{none-some}
use Rattle.orc_ids.specs.declared.place.Shape.{Shape}
use Rattle.session_model.specs.Change.{changed, settled, new_unit, resolved_unit, target_address}
use Rattle.session_model.specs.History.{IsLegal}
use Rattle.session_model.specs.Meaning.{Meaning}
use Rattle.session_model.specs.Plain.{Plain, UnitRow, is_alias, unit_shape}
use Rattle.session_model.specs.State.{state}
use Rattle.session_model.specs.declared.entry.Entry.{Entry}
use Rattle.session_model.specs.declared.rows.Verdict.{Verdict}
use Rattle.session_laws.specs.Placements.{AreApart}
use Rattle.session_laws.proofs.Declared.{placements_lie_apart, Moves, Stays, Loses, Claims, Starts, Finishes, Places, Resolves, Waits, Links, Emits, Fails, Goes, Changes, Leaves, Runs, Here, On, UnitsMove, change_moves, settled_run, Doing, Other, doing_of}
use Rattle.closure_laws.proofs.Declared.{kept_by_changes}

-- what has a base is an alias, or needs memory
abbrev IsBased : UnitRow → Type 0
IsBased x = is_some x.base ≡ true → (is_alias x ≡ true) ⊎ (is_some (unit_shape x) ≡ true)

move_based : (doing : Doing) (m : Plain) (u : ℕ) (x y : UnitRow) → IsBased x → Moves doing m u x y → IsBased y
move_based doing m u x _ w Stays = w
move_based doing m u x _ w (Loses vs p b) = λ e. absurd (both_ways (is_some x.base) (ap is_some b) e)
move_based doing m u x _ w (Claims p) = w
move_based doing m u x _ w (Starts s p) = w
move_based doing m u x _ w (Finishes s how p) = w
move_based doing m u x _ w (Places base shape d p t f) = λ e. inr (ap is_some t)
move_based doing m u x _ w (Resolves d c) = λ e. split (cases_Bool (is_alias x)) e
  where
    split : (is_alias x ≡ true) ⊎ (is_alias x ≡ false) → is_some (resolved_unit x).base ≡ true → (is_alias x ≡ true) ⊎ (is_some (unit_shape x) ≡ true)
    split (inl a) e = inl a
    split (inr a) e = w (subst (λ b. is_some (if b then Some (target_address x) else x.base) ≡ true) a e)
move_based doing m u x _ w (Waits found c f) = w
move_based doing m u x _ w (Links p) = w
move_based doing m u x _ w (Emits groups c o) = w
move_based doing m u x _ w Fails = λ e. absurd (both_ways false refl e)
move_based doing m u x _ w (Goes t g) = λ e. absurd (both_ways (is_some (if x.tracker == t then None else x.base)) (ap (λ b. is_some (if b then None else x.base)) g) e)
move_based doing m u x _ w (Changes t to) = w
move_based doing m u x _ w (Leaves s) = w

run_based : (doing : Doing) (m : Plain) (u : ℕ) (x y : UnitRow) → IsBased x → Runs doing m u x y → IsBased y
run_based doing m u x _ w Here = w
run_based doing m u x _ w (On y z a b) = move_based doing m u y z (run_based doing m u x y w a) b

abbrev AllBased : List UnitRow → Type 0
AllBased units = (u : ℕ) (x : UnitRow) → slice_get units u ≡ Some x → IsBased x

moves_based : (doing : Doing) (m : Plain) (new : List UnitRow) → UnitsMove doing m new → AllBased m.units → AllBased new
moves_based doing m new f w u y t = split (f u y t)
  where
    split : ((x : UnitRow) × (slice_get m.units u ≡ Some x) × Runs doing m u x y) ⊎ ((k : ℕ) × (v : Meaning) × (vs : List Verdict) × (y ≡ new_unit k v vs) × (u ≡ length m.units)) → IsBased y
    split (inl p) = run_based doing m u p.0 y (w u p.0 p.1) p.2
    split (inr p) = λ e. absurd (both_ways (is_some y.base) (ap (λ (z : UnitRow). is_some z.base) p.3) e)

all_based : (jmax : ℕ) (h : List (Entry Meaning)) → IsLegal jmax h → AllBased (state h).units
all_based jmax h l = kept_by_changes (λ rows units queries. AllBased units)
    (λ m s c sound g w. moves_based (doing_of c) m (changed c m).units (change_moves m s c sound g) w)
    (λ m sound w. moves_based Other m (settled m).units (λ u y t. inl (settled_run m u y t)) w)
    jmax [] h l (λ u x t. absurd (none-some x t))

-- what is no alias and has a base lies in code memory
low_at : (units : List UnitRow) (u : ℕ) (x : UnitRow) → AreApart units → slice_get units u ≡ Some x → is_alias x ≡ false → IsBased x → (o : Option ℕ) → x.base ≡ o → unwrap_or o 0 < 2 ^ 62
low_at units u x apart t plain based None e = omega arith
low_at units u x apart t plain based (Some b) e = split (based (ap is_some e))
  where
    shaped : (o : Option Shape) → unit_shape x ≡ o → is_some o ≡ true → b < 2 ^ 62
    shaped None s i = absurd (both_ways false refl i)
    shaped (Some shape) s i =
        let p = apart.inside u x (record { base = b; need = shape.need }) t
        (ap (λ o. option_and_then (λ base. option_map (λ (q : Shape). record { base = base; need = q.need }) (unit_shape x)) o) e ∙ ap (λ o. option_map (λ (q : Shape). record { base = b; need = q.need }) o) s) in
        omega (arith, p.1)

    split : (is_alias x ≡ true) ⊎ (is_some (unit_shape x) ≡ true) → b < 2 ^ 62
    split (inl a) = absurd (both_ways (is_alias x) plain a)
    split (inr s) = shaped (unit_shape x) refl s

pub low_base : (jmax : ℕ) (h : List (Entry Meaning)) → IsLegal jmax h → (u : ℕ) (x : UnitRow) → slice_get (state h).units u ≡ Some x → is_alias x ≡ false → unwrap_or x.base 0 < 2 ^ 62
low_base jmax h l u x t plain = low_at (state h).units u x (placements_lie_apart jmax h l) t plain (all_based jmax h l u x t) x.base refl
