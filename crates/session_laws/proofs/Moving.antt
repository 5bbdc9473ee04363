-- What a change does to one unit: each way in which its row moves on.
use Rattle.std.proofs.Common.{◌≡◌, ℕ, Bool, true, false, ◌==◌, map, List, [], length, slice_get, ◌⊎◌, inl, inr, subst, sym, refl, ap, ◌∙◌, Option, Some, None}
use Rattle.std.specs.Option.{option_map_or}
use Rattle.std.proofs.lemmas.Bool.{both_ways}
use Rattle.orc_ids.specs.declared.groups.Group.{Group}
use Rattle.orc_ids.specs.declared.ids.InstId.{InstId}
use Rattle.orc_ids.specs.declared.place.Shape.{Shape}
use Rattle.session_model.specs.Lists.{changed_at, numbered}
use Rattle.session_model.specs.Answer.{IsFree, can_resolve, can_link, can_emit}
use Rattle.session_model.specs.Meaning.{Meaning}
use Rattle.session_model.specs.Plain.{Plain, UnitRow, GenRow, unit_shape, is_unsearched}
use Rattle.session_model.specs.Change.{changed, verdicts, defined, spent, all_claimed, claimed, linked, link_matches, settled, finish_listed, waits_for, without_replaced, new_unit, listed_unit, started_unit, finishing_unit, placed_unit, resolved_unit, resolved_row, waiting_unit, linked_unit, done_unit, failed_unit, removed_unit, moved_unit, moved_generator, gone_tracker, let_go_unit}
use Rattle.session_model.specs.Query.{is_met}
use Rattle.session_model.specs.declared.change.Change.{Change}
use Rattle.session_model.specs.declared.change.Change.TheVariants.{Nothing, MakeDylib, MakeTracker, SetOrder, Attach, Define, Generate, Spend, Ask, Start, Finish, Place, Resolve, Link, Emit, Fail, Move, Remove, LetGo}
use Rattle.session_model.specs.declared.entry.Finishing.{Finishing}
use Rattle.session_model.specs.declared.rows.InstRow.{InstRow}
use Rattle.session_model.specs.declared.rows.Query.{Query}
use Rattle.session_model.specs.declared.rows.UnitPhase.{UnitPhase}
use Rattle.session_model.specs.declared.rows.UnitPhase.TheVariants as stage
use Rattle.session_model.specs.declared.rows.Verdict.{Verdict}
use Rattle.session_laws.proofs.Defining.{claims_keep, claim_sound, waiting_parts, IsHere}
use Rattle.session_laws.proofs.Elements.{changed_cases, pushed_cases, mapped_parts, numbered_length, numbered_parts, same_element}
use Rattle.session_laws.proofs.Facts.{unsearched_unclaimed}
use Rattle.session_laws.proofs.Invariant.{good_here, claims_leave}
use Rattle.session_laws.proofs.Losing.{unremoved}
use Rattle.session_laws.proofs.Living.{live_kept}
use Rattle.session_laws.proofs.Replies.{Guard, IsOwnEmission}
use Rattle.session_laws.proofs.Rising.{start_listed, finish_linked}
use Rattle.session_laws.proofs.RowStages.{unclaimed_row, linkable_held}
use Rattle.session_laws.proofs.Settling.{chosen, settling_keeps}
use Rattle.session_laws.specs.Sound.{IsSound, AllMatched, is_early, is_held_phase, row_stage}

-- what a change does that others don't
pub data Doing : Type 0 where
  Placing : Doing
  Resolving : Doing
  Other : Doing

-- one step of unit u, from row x; only a place gives it a range, and only a resolve an address
pub data Moves (doing : Doing) (m : Plain) (u : ℕ) (x : UnitRow) : UnitRow → Type 0 where
  Stays : Moves doing m u x x
  Loses : (vs : List Verdict) → x.phase ≡ stage.Unclaimed → x.base ≡ None → Moves doing m u x (without_replaced m.rows vs u x)
  Claims : x.phase ≡ stage.Unclaimed → Moves doing m u x (listed_unit x)
  Starts : (s : ℕ) → x.phase ≡ stage.Listed → Moves doing m u x (started_unit s x)
  Finishes : (s : ℕ) (how : Finishing) → x.phase ≡ stage.Linked → Moves doing m u x (finishing_unit s how x)
  Places : (base : ℕ) (shape : Shape) → doing ≡ Placing → x.phase ≡ stage.Started → unit_shape x ≡ Some shape → IsFree m.units shape base → Moves doing m u x (placed_unit base x)
  Resolves : doing ≡ Resolving → can_resolve x ≡ true → Moves doing m u x (resolved_unit x)
  Waits : (found : List (Option InstId)) → can_link x ≡ true → found ≡ link_matches m x → Moves doing m u x (waiting_unit (length m.queries) x)
  Links : x.phase ≡ stage.Waiting → Moves doing m u x (linked_unit x)
  Emits : (groups : List Group) → can_emit x ≡ true → IsOwnEmission m u x groups → Moves doing m u x (done_unit x)
  Fails : Moves doing m u x (failed_unit x)
  Goes : (t : ℕ) → (x.tracker == t) ≡ true → Moves doing m u x (removed_unit t x)
  Changes : (t to : ℕ) → Moves doing m u x (moved_unit t to x)
  Leaves : (s : ℕ) → Moves doing m u x (let_go_unit s x)

pub data Runs (doing : Doing) (m : Plain) (u : ℕ) (x : UnitRow) : UnitRow → Type 0 where
  Here : Runs doing m u x x
  On : (y z : UnitRow) → Runs doing m u x y → Moves doing m u y z → Runs doing m u x z

-- each unit was there and moved on
abbrev pub UnitsRun : Doing → Plain → List UnitRow → Type 0
UnitsRun doing m new = (u : ℕ) (y : UnitRow) → slice_get new u ≡ Some y → (x : UnitRow) × (slice_get m.units u ≡ Some x) × Runs doing m u x y

-- or it is new
abbrev pub UnitsMove : Doing → Plain → List UnitRow → Type 0
UnitsMove doing m new = (u : ℕ) (y : UnitRow) → slice_get new u ≡ Some y →
    ((x : UnitRow) × (slice_get m.units u ≡ Some x) × Runs doing m u x y) ⊎ ((t : ℕ) × (v : Meaning) × (vs : List Verdict) × (y ≡ new_unit t v vs) × (u ≡ length m.units))

runs_same : (doing : Doing) (m : Plain) → UnitsRun doing m m.units
runs_same doing m u y e = (y, e, Here)

runs_one : (doing : Doing) (m : Plain) (u : ℕ) (x y : UnitRow) → Moves doing m u x y → Runs doing m u x y
runs_one doing m u x y a = On x y Here a

-- one unit of a list that ran moves on
runs_changed : (doing : Doing) (m : Plain) (units : List UnitRow) (v : ℕ) (f : UnitRow → UnitRow) → UnitsRun doing m units → ((x : UnitRow) → slice_get units v ≡ Some x → Moves doing m v x (f x)) → UnitsRun doing m (changed_at v f units)
runs_changed doing m units v f old step u y e = split (changed_cases v f units u y e)
  where
    split : ((u ≡ v) × ((z : UnitRow) × (slice_get units u ≡ Some z) × (y ≡ f z))) ⊎ ((u ≡ v → ⊥) × (slice_get units u ≡ Some y)) → (x : UnitRow) × (slice_get m.units u ≡ Some x) × Runs doing m u x y
    split (inr p) = old u y p.1
    split (inl p) = let o = old u p.1.0 p.1.1 in
        let a = step p.1.0 (ap (slice_get units) (sym p.0) ∙ p.1.1) in
        (o.0, o.1, On p.1.0 y o.2 (subst (λ k. Moves doing m k p.1.0 y) (sym p.0) (subst (Moves doing m v p.1.0) (sym p.1.2) a)))

runs_mapped : (doing : Doing) (m : Plain) (f : UnitRow → UnitRow) → ((u : ℕ) (x : UnitRow) → Moves doing m u x (f x)) → UnitsRun doing m (map f m.units)
runs_mapped doing m f step u y e = let p = mapped_parts f m.units u y e in (p.0, p.1, subst (Runs doing m u p.0) (sym p.2) (runs_one doing m u p.0 (f p.0) (step u p.0)))

moves_run : (doing : Doing) (m : Plain) (new : List UnitRow) → UnitsRun doing m new → UnitsMove doing m new
moves_run doing m new f u y e = inl (f u y e)

claims_run : (doing : Doing) (m : Plain) (os : List (Option InstId)) → IsSound m → AllMatched (IsHere m.rows) os → UnitsRun doing m (all_claimed os m).units
claims_run doing m os s here = (claims_keep (λ n. IsSound n × UnitsRun doing m n.units) step os m here (s, runs_same doing m)).1
  where
    step : (i : ℕ) (r : InstRow) (n : Plain) → IsSound n × UnitsRun doing m n.units → slice_get n.rows i ≡ Some r → r.present ≡ true → is_unsearched r.phase ≡ true → IsSound (claimed r.unit.0 n) × UnitsRun doing m (claimed r.unit.0 n).units
    step i r n p e present unsearched = let y = (p.0.rows_fit i r e).here present in (
      claim_sound i r n p.0 e present unsearched,
      runs_changed doing m n.units r.unit.0 listed_unit p.1 (λ x t. Claims (ap (λ (z : UnitRow). z.phase) (sym (same_element (slice_get n.units r.unit.0) y.0 x y.1 t)) ∙ unclaimed_row y.0 (unsearched_unclaimed (row_stage y.0) r.phase y.2 unsearched))),
    )

is_unclaimed : (p : UnitPhase) → (p ≡ stage.Unclaimed) ⊎ (p ≡ stage.Unclaimed → ⊥)
is_unclaimed stage.Unclaimed = inl refl
is_unclaimed stage.Listed = inr (λ e. cc)
is_unclaimed stage.Started = inr (λ e. cc)
is_unclaimed stage.Placed = inr (λ e. cc)
is_unclaimed stage.Linking = inr (λ e. cc)
is_unclaimed stage.Waiting = inr (λ e. cc)
is_unclaimed stage.Linked = inr (λ e. cc)
is_unclaimed stage.Finishing = inr (λ e. cc)
is_unclaimed stage.Done = inr (λ e. cc)
is_unclaimed stage.Failed = inr (λ e. cc)
is_unclaimed stage.Defunct = inr (λ e. cc)

-- where the other units are defined
defined_move : (doing : Doing) (m : Plain) (d t : ℕ) (v : Meaning) → IsSound m → UnitsMove doing m (defined d t v (verdicts m.rows d v.offers) m).units
defined_move doing m d t v s u y e = split (pushed_cases (numbered (without_replaced m.rows vs) 0 m.units) (new_unit t v vs) u y e)
  where
    vs : List Verdict
    vs = verdicts m.rows d v.offers

    at_unclaimed : (x : UnitRow) → slice_get m.units u ≡ Some x → (x.phase ≡ stage.Unclaimed) ⊎ (x.phase ≡ stage.Unclaimed → ⊥) → Moves doing m u x (without_replaced m.rows vs u x)
    at_unclaimed x t (inl a) = Loses vs a ((s.units_fit u x t).early (ap is_early a))
    at_unclaimed x t (inr a) = subst (Moves doing m u x) (sym (live_kept m d v.offers u x s t a)) Stays

    split : (slice_get (numbered (without_replaced m.rows vs) 0 m.units) u ≡ Some y) ⊎ ((u ≡ length (numbered (without_replaced m.rows vs) 0 m.units)) × (y ≡ new_unit t v vs)) →
        ((x : UnitRow) × (slice_get m.units u ≡ Some x) × Runs doing m u x y) ⊎ ((k : ℕ) × (w : Meaning) × (ws : List Verdict) × (y ≡ new_unit k w ws) × (u ≡ length m.units))
    split (inr a) = inr (t, v, vs, a.1, a.0 ∙ numbered_length (without_replaced m.rows vs) 0 m.units)
    split (inl a) = let p = numbered_parts (without_replaced m.rows vs) m.units u y a in
        inl (p.0, p.1, subst (Runs doing m u p.0) (sym p.2) (runs_one doing m u p.0 (without_replaced m.rows vs u p.0) (at_unclaimed p.0 p.1 (is_unclaimed p.0.phase))))

abbrev pub doing_of : Change Meaning → Doing
doing_of (Place u base) = Placing
doing_of (Resolve u) = Resolving
doing_of _ = Other

-- the unit of a guard is the one that is changed
held_is : (m : Plain) (u : ℕ) (x y : UnitRow) → slice_get m.units u ≡ Some x → slice_get m.units u ≡ Some y → x ≡ y
held_is m u x y a b = same_element (slice_get m.units u) x y a b

pub change_moves : (m : Plain) (s : ℕ) (c : Change Meaning) → IsSound m → Guard m s c → UnitsMove (doing_of c) m (changed c m).units
change_moves m s Nothing h g = moves_run Other m m.units (runs_same Other m)
change_moves m s (MakeDylib name) h g = moves_run Other m m.units (runs_same Other m)
change_moves m s (MakeTracker d) h g = moves_run Other m m.units (runs_same Other m)
change_moves m s (SetOrder d order) h g = moves_run Other m m.units (runs_same Other m)
change_moves m s (Attach d t u) h g = moves_run Other m m.units (runs_same Other m)
change_moves m s (Define d t u found) h g = subst (λ vs. UnitsMove Other m (defined d.0 t.0 u vs m).units) (sym g) (defined_move Other m d.0 t.0 u h)
change_moves m s (Generate k found) h g = subst (λ vs. UnitsMove Other m (changed (Generate k vs) m).units) (sym g) (split (slice_get m.generators k.0))
  where
    split : (o : Option GenRow) → UnitsMove Other m (option_map_or (λ x. spent k.0 (defined x.dylib x.tracker x.meaning (option_map_or (λ (y : GenRow). verdicts m.rows y.dylib y.meaning.offers) o []) m)) o m).units
    split None = moves_run Other m m.units (runs_same Other m)
    split (Some x) = defined_move Other m x.dylib x.tracker x.meaning h
change_moves m s (Spend k) h g = moves_run Other m m.units (runs_same Other m)
change_moves m s (Ask found lev n) h g = moves_run Other m (all_claimed found m).units (claims_run Other m found h (good_here m found g))
change_moves m s (Start t u) h g = moves_run Other m (changed_at u.0 (started_unit t.0) m.units) (runs_changed Other m m.units u.0 (started_unit t.0) (runs_same Other m)
    (λ x e. let y = start_listed m u.0 g.1 h g.2 in Starts t.0 (ap (λ (z : UnitRow). z.phase) (held_is m u.0 x y.0 e y.1) ∙ y.2)))
change_moves m s (Finish t u how) h g = moves_run Other m (changed_at u.0 (finishing_unit t.0 how) m.units) (runs_changed Other m m.units u.0 (finishing_unit t.0 how) (runs_same Other m)
    (λ x e. let y = finish_linked m u.0 g.1 h g.2 in Finishes t.0 how (ap (λ (z : UnitRow). z.phase) (held_is m u.0 x y.0 e y.1) ∙ y.2)))
change_moves m s (Place u base) h g = moves_run Placing m (changed_at u.0 (placed_unit base) m.units) (runs_changed Placing m m.units u.0 (placed_unit base) (runs_same Placing m)
    (λ x e. let is = held_is m u.0 x g.0 e g.1 in Places base g.3.1.0 refl (ap (λ (z : UnitRow). z.phase) is ∙ g.3.0) (ap unit_shape is ∙ g.3.1.1) g.3.1.2))
change_moves m s (Resolve u) h g = subst (λ o. UnitsMove Resolving m (option_map_or (λ (x : UnitRow). record m { rows = map (resolved_row u.0 (resolved_unit x)) m.rows; units = changed_at u.0 resolved_unit m.units }) o m).units) (sym g.1)
    (moves_run Resolving m (changed_at u.0 resolved_unit m.units) (runs_changed Resolving m m.units u.0 resolved_unit (runs_same Resolving m) (λ x e. Resolves refl (ap can_resolve (held_is m u.0 x g.0 e g.1) ∙ g.3))))
change_moves m s (Link u found) h g = moves_run Other m (linked u.0 found m).units (runs_changed Other m (all_claimed found m).units u.0 (waiting_unit (length m.queries)) (claims_run Other m found h (good_here m found g.3.3))
    (λ x e. let is = same_element (slice_get (all_claimed found m).units u.0) x g.0 e (claims_leave m u.0 g.0 found h g.1 (λ a. both_ways (is_held_phase g.0.phase) (ap is_held_phase a) (linkable_held g.0 g.3.0)) (good_here m found g.3.3)) in
    Waits found (ap can_link is ∙ g.3.0) (g.3.1 ∙ ap (link_matches m) (sym is))))
change_moves m s (Emit u groups) h g = moves_run Other m (changed_at u.0 done_unit m.units) (runs_changed Other m m.units u.0 done_unit (runs_same Other m)
    (λ x e. let is = held_is m u.0 x g.0 e g.1 in Emits groups (ap can_emit is ∙ g.3.2) (subst (λ (z : UnitRow). IsOwnEmission m u.0 z groups) (sym is) g.3.3)))
change_moves m s (Fail u) h g = moves_run Other m (changed_at u.0 failed_unit m.units) (runs_changed Other m m.units u.0 failed_unit (runs_same Other m) (λ x e. Fails))
change_moves m s (Move t to) h g = chosen (λ n. UnitsMove Other m n.units) (t.0 == to.0) m (record m { units = map (moved_unit t.0 to.0) m.units; generators = map (moved_generator t.0 to.0) m.generators; trackers = changed_at t.0 gone_tracker m.trackers })
    (λ b. moves_run Other m m.units (runs_same Other m)) (λ b. moves_run Other m (map (moved_unit t.0 to.0) m.units) (runs_mapped Other m (moved_unit t.0 to.0) (λ u x. Changes t.0 to.0)))
change_moves m s (Remove t) h g = moves_run Other m (map (removed_unit t.0) m.units) (runs_mapped Other m (removed_unit t.0) (λ u x. step u x (x.tracker == t.0) refl))
  where
    step : (u : ℕ) (x : UnitRow) (b : Bool) → (x.tracker == t.0) ≡ b → Moves Other m u x (removed_unit t.0 x)
    step u x true e = Goes t.0 e
    step u x false e = subst (Moves Other m u x) (sym (unremoved t.0 x e)) Stays
change_moves m s (LetGo t u) h g = moves_run Other m (changed_at u.0 (let_go_unit t.0) m.units) (runs_changed Other m m.units u.0 (let_go_unit t.0) (runs_same Other m) (λ x e. Leaves t.0))

-- settling links units that wait
pub settled_run : (m : Plain) → UnitsRun Other m (settled m).units
settled_run m = settling_keeps (λ n. UnitsRun Other m n.units) step 0 m.queries m (runs_same Other m)
  where
    step : (u k : ℕ) (q : Query) (n : Plain) → UnitsRun Other m n.units → waits_for n u k ≡ true → is_met n.rows q ≡ true → q.unit ≡ Some u → UnitsRun Other m (finish_listed u n).units
    step u k q n p w b e = let y = waiting_parts n u k w in runs_changed Other m n.units u linked_unit p (λ x t. Links (ap (λ (z : UnitRow). z.phase) (same_element (slice_get n.units u) x y.0 t y.1) ∙ y.2))
