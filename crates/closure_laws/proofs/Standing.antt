-- An alias that has a base stands at its target's address.
use Rattle.std.proofs.Common.{◌≡◌, ℕ, Bool, true, false, ◌&&◌, ◌||◌, List, [], ◌∷◌, length, slice_get, ◌⊎◌, inl, inr, subst, sym, refl, ap, ◌∙◌, Option, Some, None, is_some, option_map, unwrap_or, arith}
use Rattle.std.specs.Prelude.{is_none, IfSome}
use Rattle.std.specs.Bool.{if◌then◌else◌}
use Rattle.std.proofs.lemmas.Bool.{both_ways, and_parts}
use Rattle.std.proofs.lemmas.Option.{none-some, same_Some}
use Rattle.orc_ids.specs.declared.ids.DylibId.{DylibId}
use Rattle.orc_ids.specs.declared.ids.InstId.{InstId}
use Rattle.orc_ids.specs.declared.lookup.Wanted.{Wanted}
use Rattle.session_model.specs.Lists.{first_some}
use Rattle.session_model.specs.Answer.{is_stage, can_resolve}
use Rattle.session_model.specs.Change.{changed, settled, new_unit, resolved_unit, target_address}
use Rattle.session_model.specs.History.{IsLegal}
use Rattle.session_model.specs.Meaning.{Meaning, Bindings, IsAlias, IsLawful}
use Rattle.session_model.specs.Plain.{Plain, UnitRow, is_alias, unit_shape}
use Rattle.session_model.specs.State.{state}
use Rattle.session_model.specs.declared.entry.Entry.{Entry}
use Rattle.session_model.specs.declared.rows.UnitPhase.TheVariants as stage
use Rattle.session_model.specs.declared.rows.Verdict.{Verdict}
use Rattle.session_laws.proofs.Declared.{Moves, Stays, Loses, Claims, Starts, Finishes, Places, Resolves, Waits, Links, Emits, Fails, Goes, Changes, Leaves, Runs, Here, On, UnitsMove, change_moves, settled_run, Doing, Other, doing_of, linkable, resolvable}
use Rattle.closure_laws.proofs.Ends.{bound_addresses_are_kept}
use Rattle.closure_laws.proofs.Histories.{kept_by_changes}
use Rattle.closure_laws.proofs.Linking.{done_is_bound, some_there, unbound_is_weak}
use Rattle.closure_laws.proofs.Working.{is_unbound, never, shapeless}
use Rattle.closure_laws.specs.Aliases.{StandsAt, AliasesStand}
use Rattle.closure_laws.specs.Bindings.{IsAt}
use Rattle.closure_laws.specs.Bound.{IsBound}

-- a lawful unit that has a source has the form of an alias
pub lawful_alias : (u : Meaning) → IsLawful u → is_some u.source ≡ true → IsAlias u
lawful_alias u lawful = by_source u.source lawful.alias
  where
    by_source : (o : Option DylibId) → IfSome o (λ d. IsAlias u) → is_some o ≡ true → IsAlias u
    by_source None a e = absurd (both_ways false refl e)
    by_source (Some d) a e = a

-- an alias has no base before it is bound, and then its target's address
record IsTargeted (x : UnitRow) : Type 0 where
  unbased : is_alias x ≡ true → is_unbound x.phase ≡ true → x.base ≡ None
  target : is_alias x ≡ true → (n : ℕ) → x.base ≡ Some n → (is_some x.bound ≡ true) × (n ≡ target_address x)

resolved_targeted : (x : UnitRow) → IsTargeted x → can_resolve x ≡ true → IsTargeted (resolved_unit x)
resolved_targeted x w c = split (is_alias x) refl (resolvable x c) c
  where
    split : (b : Bool) → is_alias x ≡ b → ((is_alias x ≡ true) × (x.phase ≡ stage.Finishing)) ⊎ ((is_alias x ≡ false) × ((x.phase ≡ stage.Placed) ⊎ (x.phase ≡ stage.Started))) →
        (if b then is_stage stage.Finishing x.phase && is_some x.bound && is_none x.base else is_stage stage.Placed x.phase || is_stage stage.Started x.phase && is_none (unit_shape x)) ≡ true →
        IsTargeted (record x { phase = if b then x.phase else stage.Linking; base = if b then Some (target_address x) else x.base })
    split true a (inl p) d = record {
      unbased = λ b e. never is_unbound x.phase stage.Finishing p.1 refl e;
      target = λ b n e. ((and_parts (is_stage stage.Finishing x.phase) (is_some x.bound) (and_parts (is_stage stage.Finishing x.phase && is_some x.bound) (is_none x.base) d).0).1, sym (same_Some (target_address x) n e));
    }
    split true a (inr p) d = absurd (both_ways (is_alias x) p.0 a)
    split false a p d = record { unbased = λ b e. absurd (both_ways (is_alias x) a b); target = λ b n e. absurd (both_ways (is_alias x) a b) }

-- one without a base
baseless : (x : UnitRow) → x.base ≡ None → IsTargeted x
baseless x e = record { unbased = λ a f. e; target = λ a n f. absurd (none-some n (sym e ∙ f)) }

move_targeted : (doing : Doing) (m : Plain) (u : ℕ) (x y : UnitRow) → IsTargeted x → Moves doing m u x y → IsTargeted y
move_targeted doing m u x _ w Stays = w
move_targeted doing m u x _ w (Loses vs p b) = record { unbased = w.unbased; target = w.target }
move_targeted doing m u x _ w (Claims p) = record { unbased = λ a e. w.unbased a (ap is_unbound p); target = w.target }
move_targeted doing m u x _ w (Starts s p) = record { unbased = λ a e. w.unbased a (ap is_unbound p); target = w.target }
move_targeted doing m u x _ w (Finishes s how p) = record { unbased = λ a e. w.unbased a (ap is_unbound p); target = λ a n e. absurd (none-some n (sym (w.unbased a (ap is_unbound p)) ∙ e)) }
move_targeted doing m u x _ w (Places base shape d p t f) = record { unbased = λ a e. shapeless x a (ap is_some t); target = λ a n e. shapeless x a (ap is_some t) }
move_targeted doing m u x _ w (Resolves d c) = resolved_targeted x w c
move_targeted doing m u x _ w (Waits found c f) = record { unbased = λ a e. w.unbased a (early (linkable x c)); target = w.target }
  where
    early : ((is_alias x ≡ true) × (x.phase ≡ stage.Started)) ⊎ ((is_alias x ≡ false) × (x.phase ≡ stage.Linking)) → is_unbound x.phase ≡ true
    early (inl p) = ap is_unbound p.1
    early (inr p) = ap is_unbound p.1
move_targeted doing m u x _ w (Links p) = record { unbased = λ a e. w.unbased a (ap is_unbound p); target = w.target }
move_targeted doing m u x _ w (Emits groups c o) = record { unbased = λ a e. absurd (both_ways false refl e); target = w.target }
move_targeted doing m u x _ w Fails = baseless _ refl
move_targeted doing m u x _ w (Goes t g) = baseless _ (ap (λ b. if b then None else x.base) g)
move_targeted doing m u x _ w (Changes t to) = record { unbased = w.unbased; target = w.target }
move_targeted doing m u x _ w (Leaves s) = record { unbased = w.unbased; target = w.target }

run_targeted : (doing : Doing) (m : Plain) (u : ℕ) (x y : UnitRow) → IsTargeted x → Runs doing m u x y → IsTargeted y
run_targeted doing m u x _ w Here = w
run_targeted doing m u x _ w (On y z a b) = move_targeted doing m u y z (run_targeted doing m u x y w a) b

abbrev AllTargeted : List UnitRow → Type 0
AllTargeted units = (u : ℕ) (x : UnitRow) → slice_get units u ≡ Some x → IsTargeted x

moves_targeted : (doing : Doing) (m : Plain) (new : List UnitRow) → UnitsMove doing m new → AllTargeted m.units → AllTargeted new
moves_targeted doing m new f w u y t = split (f u y t)
  where
    split : ((x : UnitRow) × (slice_get m.units u ≡ Some x) × Runs doing m u x y) ⊎ ((k : ℕ) × (v : Meaning) × (vs : List Verdict) × (y ≡ new_unit k v vs) × (u ≡ length m.units)) → IsTargeted y
    split (inl p) = run_targeted doing m u p.0 y (w u p.0 p.1) p.2
    split (inr p) = baseless y (ap (λ (z : UnitRow). z.base) p.3)

all_targeted : (jmax : ℕ) (h : List (Entry Meaning)) → IsLegal jmax h → AllTargeted (state h).units
all_targeted jmax h l = kept_by_changes (λ rows units queries. AllTargeted units)
    (λ m s c sound g w. moves_targeted (doing_of c) m (changed c m).units (change_moves m s c sound g) w)
    (λ m sound w. moves_targeted Other m (settled m).units (λ u y t. inl (settled_run m u y t)) w)
    jmax [] h l (λ u x t. absurd (none-some x t))

pub aliases_stand : AliasesStand
aliases_stand jmax h l u address x t alias lawful based = by_bound b.0 b.1 (is.binds b.0 b.1 ∙ ap length (lawful.externals x.live))
  where
    is : IsBound (state h).queries x
    is = done_is_bound jmax h l u x t

    w : (is_some x.bound ≡ true) × (address ≡ target_address x)
    w = (all_targeted jmax h l u x t).target alias address based

    b : (b : Bindings) × (x.bound ≡ Some b)
    b = some_there x.bound w.0

    first : Wanted
    first = record { name = lawful.target; weak = false }

    by_bound : (b : Bindings) → x.bound ≡ Some b → length b ≡ 1 → StandsAt (state h).rows x address
    by_bound [] e n = absurd (cc)
    by_bound (o ∷ p ∷ ps) e n = absurd (omega (arith, n))
    by_bound (None ∷ []) e n = absurd (both_ways false refl (unbound_is_weak jmax h l u 0 x (None ∷ []) first t e (ap (λ ws. slice_get ws 0) (lawful.externals x.live)) refl))
    by_bound (Some p ∷ []) e n = record {
      target = p.0;
      bound = e ∙ ap (λ (a : ℕ). Some (Some (p.0, a) ∷ [])) (sym at);
      there = subst (IsAt (state h).rows p.0.0) (sym at) (bound_addresses_are_kept jmax h l u x (Some p ∷ []) t e 0 p.0 p.1 refl);
    }
      where
        at : address ≡ p.1
        at = w.1 ∙ ap (λ o. unwrap_or (first_some (λ (c : Option (InstId × ℕ)). option_map (λ q. q.1) c) (unwrap_or o [])) 0) e
