-- What a unit has at each of its phases.
use Rattle.std.proofs.Common.{◌≡◌, ℕ, Bool, true, false, not, ◌&&◌, ◌||◌, List, [], length, slice_get, ◌⊎◌, inl, inr, subst, sym, refl, ap, ◌∙◌, Option, Some, None, is_some}
use Rattle.std.specs.Prelude.{is_none}
use Rattle.std.specs.Bool.{if◌then◌else◌}
use Rattle.std.proofs.lemmas.Bool.{both_ways, and_parts, or_cases}
use Rattle.std.proofs.lemmas.Option.{none-some}
use Rattle.orc_ids.specs.declared.place.Shape.{Shape}
use Rattle.session_model.specs.Answer.{is_stage, can_resolve, can_link, can_emit}
use Rattle.session_model.specs.Change.{changed, settled, new_unit, resolved_unit, target_address}
use Rattle.session_model.specs.History.{IsLegal}
use Rattle.session_model.specs.Meaning.{Meaning}
use Rattle.session_model.specs.Memory.{is_done}
use Rattle.session_model.specs.Plain.{Plain, UnitRow, is_alias, unit_shape}
use Rattle.session_model.specs.State.{state}
use Rattle.session_model.specs.declared.entry.Entry.{Entry}
use Rattle.session_model.specs.declared.rows.UnitPhase.{UnitPhase}
use Rattle.session_model.specs.declared.rows.UnitPhase.TheVariants as stage
use Rattle.session_model.specs.declared.rows.Verdict.{Verdict}
use Rattle.session_laws.proofs.Declared.{Moves, Stays, Loses, Claims, Starts, Finishes, Places, Resolves, Waits, Links, Emits, Fails, Goes, Changes, Leaves, Runs, Here, On, UnitsMove, change_moves, settled_run, Doing, Other, doing_of, linkable, emittable, resolvable, placed_stage}
use Rattle.closure_laws.proofs.Histories.{kept_by_changes}

-- the phases before its bindings are handed out
abbrev pub is_unbound : UnitPhase → Bool
is_unbound stage.Finishing = false
is_unbound stage.Done = false
is_unbound stage.Failed = false
is_unbound stage.Defunct = false
is_unbound _ = true

-- the phases from its place on, until it ends
abbrev pub is_placed : UnitPhase → Bool
is_placed stage.Placed = true
is_placed stage.Linking = true
is_placed stage.Waiting = true
is_placed stage.Linked = true
is_placed stage.Finishing = true
is_placed stage.Done = true
is_placed _ = false

abbrev pub is_unclaimed : UnitPhase → Bool
is_unclaimed stage.Unclaimed = true
is_unclaimed _ = false

-- A unit has no query before a lookup asks for it, and no bindings before it is finished. One with a
-- shape has its base once it is placed; and one that is done was bound, and has a base if it is an alias.
pub record IsWorking (x : UnitRow) : Type 0 where
  pub unasked : is_unclaimed x.phase ≡ true → x.query ≡ None
  pub unbound : is_unbound x.phase ≡ true → x.bound ≡ None
  pub based : is_placed x.phase ≡ true → is_some (unit_shape x) ≡ true → is_some x.base ≡ true
  pub bound : is_done x.phase ≡ true → is_some x.bound ≡ true
  pub alias : is_done x.phase ≡ true → is_alias x ≡ true → is_some x.base ≡ true

-- a phase at which a test fails
pub never : {P : Type 0} (test : UnitPhase → Bool) (p q : UnitPhase) → p ≡ q → test q ≡ false → test p ≡ true → P
never test p q e f t = absurd (both_ways (test q) f (ap test (sym e) ∙ t))

pub new_works : (t : ℕ) (v : Meaning) (vs : List Verdict) → IsWorking (new_unit t v vs)
new_works t v vs = record { unasked = λ e. refl; unbound = λ e. refl; based = λ e. absurd (both_ways false refl e); bound = λ e. absurd (both_ways false refl e); alias = λ e. absurd (both_ways false refl e) }

-- an alias has no shape
pub shapeless : {P : Type 0} (x : UnitRow) → is_alias x ≡ true → is_some (unit_shape x) ≡ true → P
shapeless x a s = absurd (both_ways false refl (sym (ap (λ b. is_some (if b then None else x.meaning.shape x.live)) a) ∙ s))

-- a unit that is linked from was placed if it has a shape
link_based : (x : UnitRow) → IsWorking x → can_link x ≡ true → is_some (unit_shape x) ≡ true → is_some x.base ≡ true
link_based x w c s = split (linkable x c)
  where
    split : ((is_alias x ≡ true) × (x.phase ≡ stage.Started)) ⊎ ((is_alias x ≡ false) × (x.phase ≡ stage.Linking)) → is_some x.base ≡ true
    split (inl p) = shapeless x p.0 s
    split (inr p) = w.based (ap is_placed p.1) s

-- and has no bindings yet
pub link_unbound : (x : UnitRow) → IsWorking x → can_link x ≡ true → x.bound ≡ None
link_unbound x w c = split (linkable x c)
  where
    split : ((is_alias x ≡ true) × (x.phase ≡ stage.Started)) ⊎ ((is_alias x ≡ false) × (x.phase ≡ stage.Linking)) → x.bound ≡ None
    split (inl p) = w.unbound (ap is_unbound p.1)
    split (inr p) = w.unbound (ap is_unbound p.1)

-- a resolve that isn't an alias's is of a unit that has no shape, or was placed
resolve_based : (x : UnitRow) → IsWorking x → can_resolve x ≡ true → is_some (unit_shape x) ≡ true → is_some x.base ≡ true
resolve_based x w c s = split (is_alias x) refl c
  where
    started : is_none (unit_shape x) ≡ true → is_some x.base ≡ true
    started n = by_shape (unit_shape x) n s
      where
        by_shape : (o : Option Shape) → is_none o ≡ true → is_some o ≡ true → is_some x.base ≡ true
        by_shape None a b = absurd (both_ways false refl b)
        by_shape (Some q) a b = absurd (both_ways false refl a)

    placed : (is_stage stage.Placed x.phase ≡ true) ⊎ (is_stage stage.Started x.phase && is_none (unit_shape x) ≡ true) → is_some x.base ≡ true
    placed (inl e) = w.based (ap is_placed (placed_stage x.phase e)) s
    placed (inr e) = started (and_parts (is_stage stage.Started x.phase) (is_none (unit_shape x)) e).1

    split : (b : Bool) → is_alias x ≡ b → (if b then is_stage stage.Finishing x.phase && is_some x.bound && is_none x.base else is_stage stage.Placed x.phase || is_stage stage.Started x.phase && is_none (unit_shape x)) ≡ true → is_some x.base ≡ true
    split true e d = shapeless x e s
    split false e d = placed (or_cases (is_stage stage.Placed x.phase) (is_stage stage.Started x.phase && is_none (unit_shape x)) d)

-- a resolved unit is linked next, or it is an alias, and finished next
resolved_works : (x : UnitRow) → IsWorking x → can_resolve x ≡ true → IsWorking (resolved_unit x)
resolved_works x w c = split (is_alias x) refl (resolvable x c) (resolve_based x w c)
  where
    early : (x.phase ≡ stage.Placed) ⊎ (x.phase ≡ stage.Started) → x.bound ≡ None
    early (inl p) = w.unbound (ap is_unbound p)
    early (inr p) = w.unbound (ap is_unbound p)

    split : (b : Bool) → is_alias x ≡ b → ((is_alias x ≡ true) × (x.phase ≡ stage.Finishing)) ⊎ ((is_alias x ≡ false) × ((x.phase ≡ stage.Placed) ⊎ (x.phase ≡ stage.Started))) → (is_some (unit_shape x) ≡ true → is_some x.base ≡ true) →
        IsWorking (record x { phase = if b then x.phase else stage.Linking; base = if b then Some (target_address x) else x.base })
    split true a (inl p) f = record {
      unasked = λ e. never is_unclaimed x.phase stage.Finishing p.1 refl e;
      unbound = λ e. never is_unbound x.phase stage.Finishing p.1 refl e;
      based = λ e s. refl;
      bound = λ e. never is_done x.phase stage.Finishing p.1 refl e;
      alias = λ e s. refl;
    }
    split true a (inr p) f = absurd (both_ways (is_alias x) p.0 a)
    split false a (inl p) f = absurd (both_ways (is_alias x) a p.0)
    split false a (inr p) f = record {
      unasked = λ e. absurd (both_ways false refl e);
      unbound = λ e. early p.1;
      based = λ e s. f s;
      bound = λ e. absurd (both_ways false refl e);
      alias = λ e. absurd (both_ways false refl e);
    }

emitted_parts : (x : UnitRow) → can_emit x ≡ true → (is_some x.bound ≡ true) × (is_alias x ≡ true → is_some x.base ≡ true)
emitted_parts x c = let p = and_parts (is_stage stage.Finishing x.phase && is_some x.bound) (not (is_alias x) || is_some x.base) c in
    ((and_parts (is_stage stage.Finishing x.phase) (is_some x.bound) p.0).1, λ a. by_alias (is_alias x) a p.1)
  where
    by_alias : (b : Bool) → b ≡ true → (not b || is_some x.base) ≡ true → is_some x.base ≡ true
    by_alias true a d = d
    by_alias false a d = absurd (both_ways false refl a)

move_works : (doing : Doing) (m : Plain) (u : ℕ) (x y : UnitRow) → IsWorking x → Moves doing m u x y → IsWorking y
move_works doing m u x _ w Stays = w
move_works doing m u x _ w (Loses vs p b) = record {
  unasked = w.unasked;
  unbound = w.unbound;
  based = λ e. never is_placed x.phase stage.Unclaimed p refl e;
  bound = w.bound;
  alias = w.alias;
}
move_works doing m u x _ w (Claims p) = record { unasked = λ e. absurd (both_ways false refl e); unbound = λ e. w.unbound (ap is_unbound p); based = λ e. absurd (both_ways false refl e); bound = λ e. absurd (both_ways false refl e); alias = λ e. absurd (both_ways false refl e) }
move_works doing m u x _ w (Starts s p) = record { unasked = λ e. absurd (both_ways false refl e); unbound = λ e. w.unbound (ap is_unbound p); based = λ e. absurd (both_ways false refl e); bound = λ e. absurd (both_ways false refl e); alias = λ e. absurd (both_ways false refl e) }
move_works doing m u x _ w (Finishes s how p) = record { unasked = λ e. absurd (both_ways false refl e); unbound = λ e. absurd (both_ways false refl e); based = λ e f. w.based (ap is_placed p) f; bound = λ e. absurd (both_ways false refl e); alias = λ e. absurd (both_ways false refl e) }
move_works doing m u x _ w (Places base shape d p t f) = record { unasked = λ e. absurd (both_ways false refl e); unbound = λ e. w.unbound (ap is_unbound p); based = λ e s. refl; bound = λ e. absurd (both_ways false refl e); alias = λ e. absurd (both_ways false refl e) }
move_works doing m u x _ w (Resolves d c) = resolved_works x w c
move_works doing m u x _ w (Waits found c f) = record { unasked = λ e. absurd (both_ways false refl e); unbound = λ e. link_unbound x w c; based = λ e s. link_based x w c s; bound = λ e. absurd (both_ways false refl e); alias = λ e. absurd (both_ways false refl e) }
move_works doing m u x _ w (Links p) = record { unasked = λ e. absurd (both_ways false refl e); unbound = λ e. w.unbound (ap is_unbound p); based = λ e f. w.based (ap is_placed p) f; bound = λ e. absurd (both_ways false refl e); alias = λ e. absurd (both_ways false refl e) }
move_works doing m u x _ w (Emits groups c o) = record { unasked = λ e. absurd (both_ways false refl e); unbound = λ e. absurd (both_ways false refl e); based = λ e f. w.based (ap is_placed (emittable x c)) f; bound = λ e. (emitted_parts x c).0; alias = λ e a. (emitted_parts x c).1 a }
move_works doing m u x _ w Fails = record { unasked = λ e. absurd (both_ways false refl e); unbound = λ e. absurd (both_ways false refl e); based = λ e. absurd (both_ways false refl e); bound = λ e. absurd (both_ways false refl e); alias = λ e. absurd (both_ways false refl e) }
move_works doing m u x _ w (Goes t g) = subst (λ b. IsWorking (record x { phase = if b then stage.Defunct else x.phase; base = if b then None else x.base })) (sym g)
    (record { unasked = λ e. absurd (both_ways false refl e); unbound = λ e. absurd (both_ways false refl e); based = λ e. absurd (both_ways false refl e); bound = λ e. absurd (both_ways false refl e); alias = λ e. absurd (both_ways false refl e) })
move_works doing m u x _ w (Changes t to) = record { unasked = w.unasked; unbound = w.unbound; based = w.based; bound = w.bound; alias = w.alias }
move_works doing m u x _ w (Leaves s) = record { unasked = w.unasked; unbound = w.unbound; based = w.based; bound = w.bound; alias = w.alias }

run_works : (doing : Doing) (m : Plain) (u : ℕ) (x y : UnitRow) → IsWorking x → Runs doing m u x y → IsWorking y
run_works doing m u x _ w Here = w
run_works doing m u x _ w (On y z a b) = move_works doing m u y z (run_works doing m u x y w a) b

abbrev pub AllWork : List UnitRow → Type 0
AllWork units = (u : ℕ) (x : UnitRow) → slice_get units u ≡ Some x → IsWorking x

moves_work : (doing : Doing) (m : Plain) (new : List UnitRow) → UnitsMove doing m new → AllWork m.units → AllWork new
moves_work doing m new f w u y t = split (f u y t)
  where
    split : ((x : UnitRow) × (slice_get m.units u ≡ Some x) × Runs doing m u x y) ⊎ ((k : ℕ) × (v : Meaning) × (vs : List Verdict) × (y ≡ new_unit k v vs) × (u ≡ length m.units)) → IsWorking y
    split (inl p) = run_works doing m u p.0 y (w u p.0 p.1) p.2
    split (inr p) = subst IsWorking (sym p.3) (new_works p.0 p.1 p.2)

pub all_work : (jmax : ℕ) (h : List (Entry Meaning)) → IsLegal jmax h → AllWork (state h).units
all_work jmax h l = kept_by_changes (λ rows units queries. AllWork units)
    (λ m s c sound g w. moves_work (doing_of c) m (changed c m).units (change_moves m s c sound g) w)
    (λ m sound w. moves_work Other m (settled m).units (λ u y t. inl (settled_run m u y t)) w)
    jmax [] h l (λ u x t. absurd (none-some x t))
