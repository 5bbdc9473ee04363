-- A unit has one link query at most, and none before it is linked.
use Rattle.std.proofs.Common.{◌≡◌, ℕ, ◌+◌, ◌==◌, Bool, true, false, map, List, [], ◌∷◌, ◌++◌, length, slice_get, ◌⊎◌, inl, inr, subst, sym, refl, ap, ◌∙◌, Option, Some, None}
use Rattle.std.specs.Bool.{if◌then◌else◌}
use Rattle.std.specs.Option.{option_map_or}
use Rattle.std.proofs.lemmas.Bool.{both_ways}
use Rattle.std.proofs.lemmas.Option.{none-some, same_Some}
use Rattle.orc_ids.specs.declared.ids.InstId.{InstId}
use Rattle.orc_ids.specs.declared.lookup.Level.{Level}
use Rattle.orc_ids.specs.declared.lookup.Level.TheVariants as level
use Rattle.session_model.specs.Lists.{changed_at}
use Rattle.session_model.specs.Answer.{can_resolve, can_link}
use Rattle.session_model.specs.Change.{changed, settled, defined, spent, all_claimed, lodged, new_unit, resolved_unit, resolved_row, waiting_unit, moved_unit, moved_generator, gone_tracker}
use Rattle.session_model.specs.History.{IsLegal}
use Rattle.session_model.specs.Meaning.{Meaning}
use Rattle.session_model.specs.Plain.{Plain, UnitRow, GenRow, is_alias}
use Rattle.session_model.specs.State.{state}
use Rattle.session_model.specs.declared.change.Change.{Change}
use Rattle.session_model.specs.declared.change.Change.TheVariants.{Nothing, MakeDylib, MakeTracker, SetOrder, Attach, Define, Generate, Spend, Ask, Start, Finish, Place, Resolve, Link, Emit, Fail, Move, Remove, LetGo}
use Rattle.session_model.specs.declared.entry.Entry.{Entry}
use Rattle.session_model.specs.declared.rows.InstRow.{InstRow}
use Rattle.session_model.specs.declared.rows.Query.{Query}
use Rattle.session_model.specs.declared.rows.UnitPhase.TheVariants as stage
use Rattle.session_model.specs.declared.rows.Verdict.{Verdict}
use Rattle.session_laws.proofs.Declared.{same_element, none_there, element_below, changed_some, pushed_cases, all_claimed_queries, good_here, claims_leave, Moves, Stays, Loses, Claims, Starts, Finishes, Places, Resolves, Waits, Links, Emits, Fails, Goes, Changes, Leaves, Runs, Here, On, UnitsMove, change_moves, settled_run, Doing, Other, doing_of, Guard, change_rises, linkable, linkable_held, resolvable, chosen, settled_queries}
use Rattle.session_laws.specs.Sound.{IsSound, is_held_phase}
use Rattle.closure_laws.proofs.Fields.{IsNew, HasFields, LinksTo, change_fields, settled_fields}
use Rattle.closure_laws.proofs.Histories.{kept_by_changes}
use Rattle.closure_laws.proofs.NamesOnce.{settled_there}
use Rattle.closure_laws.proofs.Working.{never}
use Rattle.closure_laws.specs.Queries.{is_unlinked, UnlinkedHasNoQuery, UnitIsLinkedOnce, LinkedUnitIsThere}

-- Before its link

abbrev IsUnasked : UnitRow → Type 0
IsUnasked x = is_unlinked x.phase ≡ true → x.query ≡ None

resolved_unasked : (x : UnitRow) → IsUnasked x → can_resolve x ≡ true → IsUnasked (resolved_unit x)
resolved_unasked x w c = split (is_alias x) refl (resolvable x c)
  where
    split : (b : Bool) → is_alias x ≡ b → ((is_alias x ≡ true) × (x.phase ≡ stage.Finishing)) ⊎ ((is_alias x ≡ false) × ((x.phase ≡ stage.Placed) ⊎ (x.phase ≡ stage.Started))) → is_unlinked (if b then x.phase else stage.Linking) ≡ true → x.query ≡ None
    split true a (inl p) e = never is_unlinked x.phase stage.Finishing p.1 refl e
    split false a (inl p) e = absurd (both_ways (is_alias x) a p.0)
    split b a (inr (f, inl p)) e = w (ap is_unlinked p)
    split b a (inr (f, inr p)) e = w (ap is_unlinked p)

move_unasked : (doing : Doing) (m : Plain) (u : ℕ) (x y : UnitRow) → IsUnasked x → Moves doing m u x y → IsUnasked y
move_unasked doing m u x _ w Stays = w
move_unasked doing m u x _ w (Loses vs p b) = w
move_unasked doing m u x _ w (Claims p) = λ e. w (ap is_unlinked p)
move_unasked doing m u x _ w (Starts s p) = λ e. w (ap is_unlinked p)
move_unasked doing m u x _ w (Finishes s how p) = λ e. absurd (both_ways false refl e)
move_unasked doing m u x _ w (Places base shape d p t f) = λ e. w (ap is_unlinked p)
move_unasked doing m u x _ w (Resolves d c) = resolved_unasked x w c
move_unasked doing m u x _ w (Waits found c f) = λ e. absurd (both_ways false refl e)
move_unasked doing m u x _ w (Links p) = λ e. absurd (both_ways false refl e)
move_unasked doing m u x _ w (Emits groups c o) = λ e. absurd (both_ways false refl e)
move_unasked doing m u x _ w Fails = λ e. absurd (both_ways false refl e)
move_unasked doing m u x _ w (Goes t g) = λ e. absurd (both_ways false refl (ap (λ b. is_unlinked (if b then stage.Defunct else x.phase)) (sym g) ∙ e))
move_unasked doing m u x _ w (Changes t to) = w
move_unasked doing m u x _ w (Leaves s) = w

run_unasked : (doing : Doing) (m : Plain) (u : ℕ) (x y : UnitRow) → IsUnasked x → Runs doing m u x y → IsUnasked y
run_unasked doing m u x _ w Here = w
run_unasked doing m u x _ w (On y z a b) = move_unasked doing m u y z (run_unasked doing m u x y w a) b

abbrev AllUnasked : List UnitRow → Type 0
AllUnasked units = (u : ℕ) (x : UnitRow) → slice_get units u ≡ Some x → IsUnasked x

moves_unasked : (doing : Doing) (m : Plain) (new : List UnitRow) → UnitsMove doing m new → AllUnasked m.units → AllUnasked new
moves_unasked doing m new f w u y t = split (f u y t)
  where
    split : ((x : UnitRow) × (slice_get m.units u ≡ Some x) × Runs doing m u x y) ⊎ ((k : ℕ) × (v : Meaning) × (vs : List Verdict) × (y ≡ new_unit k v vs) × (u ≡ length m.units)) → IsUnasked y
    split (inl p) = run_unasked doing m u p.0 y (w u p.0 p.1) p.2
    split (inr p) = λ e. ap (λ (z : UnitRow). z.query) p.3

-- Its one query

-- the unit that a change links
abbrev linked_by : Change Meaning → Option ℕ
linked_by (Link v found) = Some v.0
linked_by _ = None

-- the queries stay, or one more is lodged, for that unit
abbrev Lodges : Plain → Change Meaning → List Query → Type 0
Lodges m c qs = (qs ≡ m.queries) ⊎ ((q : Query) × (qs ≡ m.queries ++ q ∷ []) × (q.unit ≡ linked_by c))

lodges_one : (m : Plain) (c : Change Meaning) (found : List (Option InstId)) (lev : Level) (n : Option ℕ) → Lodges m c (lodged found lev (linked_by c) n m).queries
lodges_one m c found lev n = inr (record { asked = m.entries + 1; matched = found; level = lev; unit = linked_by c; note = n }, ap (λ qs. qs ++ record { asked = m.entries + 1; matched = found; level = lev; unit = linked_by c; note = n } ∷ []) (all_claimed_queries found m), refl)

lodges : (m : Plain) (c : Change Meaning) → Lodges m c (changed c m).queries
lodges m Nothing = inl refl
lodges m (MakeDylib name) = inl refl
lodges m (MakeTracker d) = inl refl
lodges m (SetOrder d order) = inl refl
lodges m (Attach d t u) = inl refl
lodges m (Define d t u found) = inl refl
lodges m (Generate k found) = split (slice_get m.generators k.0)
  where
    split : (o : Option GenRow) → Lodges m (Generate k found) (option_map_or (λ x. spent k.0 (defined x.dylib x.tracker x.meaning found m)) o m).queries
    split None = inl refl
    split (Some x) = inl refl
lodges m (Spend k) = inl refl
lodges m (Ask found lev n) = lodges_one m (Ask found lev n) found lev n
lodges m (Start t u) = inl refl
lodges m (Finish t u how) = inl refl
lodges m (Place u base) = inl refl
lodges m (Resolve u) = split (slice_get m.units u.0)
  where
    split : (o : Option UnitRow) → Lodges m (Resolve u) (option_map_or (λ (x : UnitRow). record m { rows = map (resolved_row u.0 (resolved_unit x)) m.rows; units = changed_at u.0 resolved_unit m.units }) o m).queries
    split None = inl refl
    split (Some x) = inl refl
lodges m (Link v found) = lodges_one m (Link v found) found level.Resolved None
lodges m (Emit u groups) = inl refl
lodges m (Fail u) = inl refl
lodges m (Move t to) = chosen (λ n. Lodges m (Move t to) n.queries) (t.0 == to.0) m (record m { units = map (moved_unit t.0 to.0) m.units; generators = map (moved_generator t.0 to.0) m.generators; trackers = changed_at t.0 gone_tracker m.trackers }) (λ b. inl refl) (λ b. inl refl)
lodges m (Remove t) = inl refl
lodges m (LetGo t u) = inl refl

-- the unit has this query
abbrev HasQuery : List UnitRow → ℕ → ℕ → Type 0
HasQuery units u k = (x : UnitRow) × (slice_get units u ≡ Some x) × (x.query ≡ Some k)

abbrev AllLinked : List UnitRow → List Query → Type 0
AllLinked units queries = (k u : ℕ) (q : Query) → slice_get queries k ≡ Some q → q.unit ≡ Some u → HasQuery units u k

-- a unit that has a query isn't linked
query_kept : (m : Plain) (s : ℕ) (c : Change Meaning) → IsSound m → Guard m s c → AllUnasked m.units → (u k : ℕ) → HasQuery m.units u k → HasQuery (changed c m).units u k
query_kept m s c h g unasked u k p = split (change_fields m c u y.0 y.1)
  where
    y : (y : UnitRow) × (slice_get (changed c m).units u ≡ Some y)
    y = let z = change_rises m s c h g u p.0 p.1 in (z.0, z.1)

    unlinked : (x : UnitRow) → can_link x ≡ true → is_unlinked x.phase ≡ true
    unlinked x e = by_kind (linkable x e)
      where
        by_kind : ((is_alias x ≡ true) × (x.phase ≡ stage.Started)) ⊎ ((is_alias x ≡ false) × (x.phase ≡ stage.Linking)) → is_unlinked x.phase ≡ true
        by_kind (inl a) = ap is_unlinked a.1
        by_kind (inr a) = ap is_unlinked a.1

    by_query : (x : UnitRow) → slice_get m.units u ≡ Some x → (y.0.query ≡ x.query) ⊎ LinksTo m c u y.0 → HasQuery (changed c m).units u k
    by_query x t (inl e) = (y.0, y.1, e ∙ (ap (λ (z : UnitRow). z.query) (same_element (slice_get m.units u) x p.0 t p.1) ∙ p.2))
    by_query x t (inr l) =
        let a = subst (Guard m s) l.2 g in
        let is = same_element (slice_get m.units u) a.0 p.0 (ap (slice_get m.units) (sym l.3) ∙ a.1) p.1 in
        absurd (none-some k (sym (unasked u p.0 p.1 (unlinked p.0 (ap can_link (sym is) ∙ a.3.0))) ∙ p.2))

    split : ((x : UnitRow) × (slice_get m.units u ≡ Some x) × HasFields m c u x y.0) ⊎ IsNew m c u y.0 → HasQuery (changed c m).units u k
    split (inl q) = by_query q.0 q.1 q.2.query
    split (inr q) = none_there (slice_get m.units u) p.0 q.1 p.1

-- one that is linked has the new one
query_given : (m : Plain) (s : ℕ) (c : Change Meaning) → IsSound m → Guard m s c → (u : ℕ) → linked_by c ≡ Some u → HasQuery (changed c m).units u (length m.queries)
query_given m s (Link v found) h g u is =
    let there = claims_leave m v.0 g.0 found h g.1 (λ e. both_ways (is_held_phase g.0.phase) (ap is_held_phase e) (linkable_held g.0 g.3.0)) (good_here m found g.3.3) in
    subst (λ k. HasQuery (changed (Link v found) m).units k (length m.queries)) (same_Some v.0 u is)
    (waiting_unit (length m.queries) g.0, changed_some v.0 (waiting_unit (length m.queries)) (all_claimed found m).units g.0 there, refl)
query_given m s _ h g u is = absurd (none-some u is)

abbrev Linked : List InstRow → List UnitRow → List Query → Type 0
Linked rows units queries = AllUnasked units × AllLinked units queries

linked_changed : (m : Plain) (s : ℕ) (c : Change Meaning) → IsSound m → Guard m s c → Linked m.rows m.units m.queries → Linked (changed c m).rows (changed c m).units (changed c m).queries
linked_changed m s c h g old = (moves_unasked (doing_of c) m (changed c m).units (change_moves m s c h g) old.0, λ k u q e its. split k u q e its (lodges m c))
  where
    split : (k u : ℕ) (q : Query) → slice_get (changed c m).queries k ≡ Some q → q.unit ≡ Some u → Lodges m c (changed c m).queries → HasQuery (changed c m).units u k
    split k u q e its (inl same) = query_kept m s c h g old.0 u k (old.1 k u q (ap (λ qs. slice_get qs k) (sym same) ∙ e) its)
    split k u q e its (inr p) = by_place (pushed_cases m.queries p.0 k q (ap (λ qs. slice_get qs k) (sym p.1) ∙ e))
      where
        by_place : (slice_get m.queries k ≡ Some q) ⊎ ((k ≡ length m.queries) × (q ≡ p.0)) → HasQuery (changed c m).units u k
        by_place (inl a) = query_kept m s c h g old.0 u k (old.1 k u q a its)
        by_place (inr a) = subst (HasQuery (changed c m).units u) (sym a.0) (query_given m s c h g u (sym p.2 ∙ (ap (λ (z : Query). z.unit) (sym a.1) ∙ its)))

linked_settled : (m : Plain) → IsSound m → Linked m.rows m.units m.queries → Linked (settled m).rows (settled m).units (settled m).queries
linked_settled m h old = (moves_unasked Other m (settled m).units (λ u y t. inl (settled_run m u y t)) old.0, λ k u q e its. kept k u (old.1 k u q (ap (λ qs. slice_get qs k) (sym (settled_queries m)) ∙ e) its))
  where
    kept : (k u : ℕ) → HasQuery m.units u k → HasQuery (settled m).units u k
    kept k u p =
        let y = settled_there m u p.0 p.1 in
        let x = settled_fields m u y.0 y.1 in
        (y.0, y.1, x.2.query ∙ (ap (λ (z : UnitRow). z.query) (same_element (slice_get m.units u) x.0 p.0 x.1 p.1) ∙ p.2))

all_linked : (jmax : ℕ) (h : List (Entry Meaning)) → IsLegal jmax h → Linked (state h).rows (state h).units (state h).queries
all_linked jmax h l = kept_by_changes Linked linked_changed linked_settled jmax [] h l ((λ u x t. absurd (none-some x t)), (λ k u q e. absurd (none-some q e)))

pub unlinked_has_no_query : UnlinkedHasNoQuery
unlinked_has_no_query jmax h l = (all_linked jmax h l).0

pub unit_is_linked_once : UnitIsLinkedOnce
unit_is_linked_once jmax h l k u q x e its t = let p = (all_linked jmax h l).1 k u q e its in
    ap (λ (z : UnitRow). z.query) (same_element (slice_get (state h).units u) x p.0 t p.1) ∙ p.2

pub linked_unit_is_there : LinkedUnitIsThere
linked_unit_is_there jmax h l k u q e its = let p = (all_linked jmax h l).1 k u q e its in element_below (state h).units u p.0 p.1
