-- An alias has no base before its link query's end was handed out.
use Rattle.std.proofs.Common.{◌≡◌, ℕ, true, false, List, [], length, slice_get, ◌⊎◌, inl, inr, refl, ap, ◌∙◌, Some, None, is_some}
use Rattle.std.specs.Bool.{if◌then◌else◌}
use Rattle.std.proofs.lemmas.Bool.{both_ways}
use Rattle.std.proofs.lemmas.Option.{none-some}
use Rattle.session_model.specs.Change.{changed, settled, new_unit, resolved_unit}
use Rattle.session_model.specs.History.{IsLegal}
use Rattle.session_model.specs.Meaning.{Meaning}
use Rattle.session_model.specs.Plain.{Plain, UnitRow, is_alias}
use Rattle.session_model.specs.State.{state}
use Rattle.session_model.specs.declared.entry.Entry.{Entry}
use Rattle.session_model.specs.declared.rows.UnitPhase.TheVariants as phase
use Rattle.session_model.specs.declared.rows.Verdict.{Verdict}
use Rattle.session_laws.proofs.Declared.{Moves, Stays, Loses, Claims, Starts, Finishes, Places, Resolves, Waits, Links, Emits, Fails, Goes, Changes, Leaves, Runs, Here, On, UnitsMove, change_moves, settled_run, Doing, Other, doing_of, linkable, resolvable}
use Rattle.closure_laws.proofs.Declared.{kept_by_changes, is_unbound, never, shapeless}

abbrev pub IsUnbased : UnitRow → Type 0
IsUnbased x = is_alias x ≡ true → is_unbound x.phase ≡ true → x.base ≡ None

move_unbased : (doing : Doing) (m : Plain) (u : ℕ) (x y : UnitRow) → IsUnbased x → Moves doing m u x y → IsUnbased y
move_unbased doing m u x _ w Stays = w
move_unbased doing m u x _ w (Loses vs p b) = w
move_unbased doing m u x _ w (Claims p) = λ a e. w a (ap is_unbound p)
move_unbased doing m u x _ w (Starts s p) = λ a e. w a (ap is_unbound p)
move_unbased doing m u x _ w (Finishes s how p) = λ a e. absurd (both_ways false refl e)
move_unbased doing m u x _ w (Places base shape d p t f) = λ a e. shapeless x a (ap is_some t)
move_unbased doing m u x _ w (Resolves d c) = λ a e. split a (resolvable x c) e
  where
    split : is_alias x ≡ true → ((is_alias x ≡ true) × (x.phase ≡ phase.Finishing)) ⊎ ((is_alias x ≡ false) × ((x.phase ≡ phase.Placed) ⊎ (x.phase ≡ phase.Started))) → is_unbound (if is_alias x then x.phase else phase.Linking) ≡ true → (resolved_unit x).base ≡ None
    split a (inl p) e = never is_unbound (if is_alias x then x.phase else phase.Linking) phase.Finishing (ap (λ b. if b then x.phase else phase.Linking) a ∙ p.1) refl e
    split a (inr p) e = absurd (both_ways (is_alias x) p.0 a)
move_unbased doing m u x _ w (Waits found c f) = λ a e. w a (early (linkable x c))
  where
    early : ((is_alias x ≡ true) × (x.phase ≡ phase.Started)) ⊎ ((is_alias x ≡ false) × (x.phase ≡ phase.Linking)) → is_unbound x.phase ≡ true
    early (inl p) = ap is_unbound p.1
    early (inr p) = ap is_unbound p.1
move_unbased doing m u x _ w (Links p) = λ a e. w a (ap is_unbound p)
move_unbased doing m u x _ w (Emits groups c o) = λ a e. absurd (both_ways false refl e)
move_unbased doing m u x _ w Fails = λ a e. refl
move_unbased doing m u x _ w (Goes t g) = λ a e. ap (λ b. if b then None else x.base) g
move_unbased doing m u x _ w (Changes t to) = w
move_unbased doing m u x _ w (Leaves s) = w

run_unbased : (doing : Doing) (m : Plain) (u : ℕ) (x y : UnitRow) → IsUnbased x → Runs doing m u x y → IsUnbased y
run_unbased doing m u x _ w Here = w
run_unbased doing m u x _ w (On y z a b) = move_unbased doing m u y z (run_unbased doing m u x y w a) b

abbrev AllUnbased : List UnitRow → Type 0
AllUnbased units = (u : ℕ) (x : UnitRow) → slice_get units u ≡ Some x → IsUnbased x

moves_unbased : (doing : Doing) (m : Plain) (new : List UnitRow) → UnitsMove doing m new → AllUnbased m.units → AllUnbased new
moves_unbased doing m new f w u y t = split (f u y t)
  where
    split : ((x : UnitRow) × (slice_get m.units u ≡ Some x) × Runs doing m u x y) ⊎ ((k : ℕ) × (v : Meaning) × (vs : List Verdict) × (y ≡ new_unit k v vs) × (u ≡ length m.units)) → IsUnbased y
    split (inl p) = run_unbased doing m u p.0 y (w u p.0 p.1) p.2
    split (inr p) = λ a e. ap (λ (z : UnitRow). z.base) p.3

pub all_unbased : (jmax : ℕ) (h : List (Entry Meaning)) → IsLegal jmax h → AllUnbased (state h).units
all_unbased jmax h l = kept_by_changes (λ rows units queries. AllUnbased units)
    (λ m s c sound g w. moves_unbased (doing_of c) m (changed c m).units (change_moves m s c sound g) w)
    (λ m sound w. moves_unbased Other m (settled m).units (λ u y t. inl (settled_run m u y t)) w)
    jmax [] h l (λ u x t. absurd (none-some x t))
