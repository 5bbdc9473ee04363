-- Where the link query, the bindings and the live names of a unit come from at one entry, and what gives
-- a unit up.
use Rattle.std.proofs.Common.{◌≡◌, ℕ, Bool, true, false, ◌==◌, map, List, [], ◌∷◌, length, slice_get, ◌⊎◌, inl, inr, arith, subst, sym, refl, ap, ◌∙◌, Option, Some, None}
use Rattle.std.specs.Bool.{if◌then◌else◌}
use Rattle.std.specs.Option.{option_map_or}
use Rattle.std.proofs.lemmas.Bool.{both_ways, eqb-true}
use Rattle.orc_ids.specs.declared.ids.InstId.{InstId}
use Rattle.orc_ids.specs.declared.ids.SeatNo.{SeatNo}
use Rattle.orc_ids.specs.declared.ids.TrackId.{TrackId}
use Rattle.orc_ids.specs.declared.ids.UnitId.{UnitId}
use Rattle.session_model.specs.Lists.{numbered, changed_at}
use Rattle.session_model.specs.Meaning.{Meaning}
use Rattle.session_model.specs.Plain.{Plain, UnitRow, GenRow, is_alias, is_unsearched}
use Rattle.session_model.specs.Change.{change_of, changed, settled, finish_listed, waits_for, defined, spent, all_claimed, claimed_for, claimed, linked, without_replaced, bindings_of, new_unit, listed_unit, started_unit, finishing_unit, placed_unit, resolved_unit, resolved_row, waiting_unit, linked_unit, done_unit, failed_unit, removed_unit, moved_unit, moved_generator, gone_tracker, let_go_unit}
use Rattle.session_model.specs.Query.{is_met}
use Rattle.session_model.specs.State.{after}
use Rattle.session_model.specs.declared.change.Change.{Change}
use Rattle.session_model.specs.declared.change.Change.TheVariants.{Nothing, MakeDylib, MakeTracker, SetOrder, Attach, Define, Generate, Spend, Ask, Start, Finish, Place, Resolve, Link, Emit, Fail, Move, Remove, LetGo}
use Rattle.session_model.specs.declared.entry.Entry.{Entry}
use Rattle.session_model.specs.declared.entry.Finishing.{Finishing}
use Rattle.session_model.specs.declared.rows.InstRow.{InstRow}
use Rattle.session_model.specs.declared.rows.Query.{Query}
use Rattle.session_model.specs.declared.rows.UnitPhase.TheVariants as stage
use Rattle.session_model.specs.declared.rows.Verdict.{Verdict}
use Rattle.session_laws.proofs.Declared.{none_past, numbered_length, changed_cases, pushed_cases, mapped_parts, numbered_parts, is_link, chosen, settling_keeps}

-- only a link gives a unit a query
abbrev pub LinksTo : Plain → Change Meaning → ℕ → UnitRow → Type 0
LinksTo m c u y = (v : UnitId) × (found : List (Option InstId)) × (c ≡ Link v found) × (v.0 ≡ u) × (y.query ≡ Some (length m.queries))

-- only the take of a job Finish gives it bindings
abbrev pub BindsBy : Change Meaning → ℕ → UnitRow → Type 0
BindsBy c u y = (t : SeatNo) × (v : UnitId) × (how : Finishing) × (c ≡ Finish t v how) × (v.0 ≡ u) × (y.bound ≡ bindings_of how)

pub link_isnt_finish : {P : Type 0} (c : Change Meaning) (u : UnitId) (found : List (Option InstId)) (t : SeatNo) (v : UnitId) (how : Finishing) → c ≡ Link u found → c ≡ Finish t v how → P
link_isnt_finish c u found t v how a b = absurd (both_ways (is_link c) (ap is_link b) (ap is_link a))

-- only a move gives it another tracker
abbrev pub MovesTo : Change Meaning → UnitRow → UnitRow → Type 0
MovesTo c x y = (t : TrackId) × (to : TrackId) × (c ≡ Move t to) × (x.tracker ≡ t.0) × (y.tracker ≡ to.0)

-- only the fail of a unit gives it up
abbrev pub FailsBy : Change Meaning → ℕ → Type 0
FailsBy c u = (v : UnitId) × (c ≡ Fail v) × (v.0 ≡ u)

-- only a definition changes which names are live
abbrev pub is_define : Change Meaning → Bool
is_define (Define d t u found) = true
is_define (Generate k found) = true
is_define _ = false

pub record HasFields (m : Plain) (c : Change Meaning) (u : ℕ) (x y : UnitRow) : Type 0 where
  pub query : (y.query ≡ x.query) ⊎ LinksTo m c u y
  pub bound : (y.bound ≡ x.bound) ⊎ BindsBy c u y
  pub live : is_define c ≡ false → y.live ≡ x.live
  pub meaning : y.meaning ≡ x.meaning
  pub tracker : (y.tracker ≡ x.tracker) ⊎ MovesTo c x y
  pub failed : y.phase ≡ stage.Failed → (x.phase ≡ stage.Failed) ⊎ FailsBy c u

-- a step that leaves all of them
pub record SameFields (x y : UnitRow) : Type 0 where
  pub query : y.query ≡ x.query
  pub bound : y.bound ≡ x.bound
  pub live : y.live ≡ x.live
  pub meaning : y.meaning ≡ x.meaning
  pub tracker : y.tracker ≡ x.tracker
  pub failed : y.phase ≡ stage.Failed → x.phase ≡ stage.Failed

-- each unit was there
abbrev pub FieldsKept : Plain → Change Meaning → List UnitRow → Type 0
FieldsKept m c new = (u : ℕ) (y : UnitRow) → slice_get new u ≡ Some y → (x : UnitRow) × (slice_get m.units u ≡ Some x) × HasFields m c u x y

-- a new unit has no query and no bindings
abbrev pub IsNew : Plain → Change Meaning → ℕ → UnitRow → Type 0
IsNew m c u y = (is_define c ≡ true) × (slice_get m.units u ≡ None) × (y.query ≡ None) × (y.bound ≡ None)

-- or it is new
abbrev pub FieldsFrom : Plain → Change Meaning → List UnitRow → Type 0
FieldsFrom m c new = (u : ℕ) (y : UnitRow) → slice_get new u ≡ Some y → ((x : UnitRow) × (slice_get m.units u ≡ Some x) × HasFields m c u x y) ⊎ IsNew m c u y

abbrev pub LeavesFields : (UnitRow → UnitRow) → Type 0
LeavesFields f = (x : UnitRow) → SameFields x (f x)

as_it_was : (m : Plain) (c : Change Meaning) (u : ℕ) (x : UnitRow) → HasFields m c u x x
as_it_was m c u x = record { query = inl refl; bound = inl refl; live = λ d. refl; meaning = refl; tracker = inl refl; failed = λ e. inl e }

fields_same : (m : Plain) (c : Change Meaning) → FieldsKept m c m.units
fields_same m c u y e = (y, e, as_it_was m c u y)

fields_on : (m : Plain) (c : Change Meaning) (u : ℕ) (x z y : UnitRow) → HasFields m c u x z → SameFields z y → HasFields m c u x y
fields_on m c u x z y h s = record { query = on_query h.query; bound = on_bound h.bound; live = λ d. s.live ∙ h.live d; meaning = s.meaning ∙ h.meaning; tracker = on_tracker h.tracker; failed = λ e. h.failed (s.failed e) }
  where
    on_tracker : (z.tracker ≡ x.tracker) ⊎ MovesTo c x z → (y.tracker ≡ x.tracker) ⊎ MovesTo c x y
    on_tracker (inl e) = inl (s.tracker ∙ e)
    on_tracker (inr p) = inr (p.0, p.1, p.2, p.3, s.tracker ∙ p.4)

    on_query : (z.query ≡ x.query) ⊎ LinksTo m c u z → (y.query ≡ x.query) ⊎ LinksTo m c u y
    on_query (inl e) = inl (s.query ∙ e)
    on_query (inr p) = inr (p.0, p.1, p.2, p.3, s.query ∙ p.4)

    on_bound : (z.bound ≡ x.bound) ⊎ BindsBy c u z → (y.bound ≡ x.bound) ⊎ BindsBy c u y
    on_bound (inl e) = inl (s.bound ∙ e)
    on_bound (inr p) = inr (p.0, p.1, p.2, p.3, p.4, s.bound ∙ p.5)

fields_changed : (m : Plain) (c : Change Meaning) (units : List UnitRow) (v : ℕ) (f : UnitRow → UnitRow) → LeavesFields f → FieldsKept m c units → FieldsKept m c (changed_at v f units)
fields_changed m c units v f same old u y e = split (changed_cases v f units u y e)
  where
    split : ((u ≡ v) × ((z : UnitRow) × (slice_get units u ≡ Some z) × (y ≡ f z))) ⊎ ((u ≡ v → ⊥) × (slice_get units u ≡ Some y)) → (x : UnitRow) × (slice_get m.units u ≡ Some x) × HasFields m c u x y
    split (inl p) = let x = old u p.1.0 p.1.1 in (x.0, x.1, fields_on m c u x.0 p.1.0 y x.2 (subst (SameFields p.1.0) (sym p.1.2) (same p.1.0)))
    split (inr p) = old u y p.1

fields_mapped : (m : Plain) (c : Change Meaning) (f : UnitRow → UnitRow) → LeavesFields f → FieldsKept m c (map f m.units)
fields_mapped m c f same u y e = let p = mapped_parts f m.units u y e in
    (p.0, p.1, fields_on m c u p.0 p.0 y (as_it_was m c u p.0) (subst (SameFields p.0) (sym p.2) (same p.0)))

fields_kept : (m : Plain) (c : Change Meaning) (new : List UnitRow) → FieldsKept m c new → FieldsFrom m c new
fields_kept m c new f u y e = inl (f u y e)

fields_defined : (m : Plain) (c : Change Meaning) (d t : ℕ) (v : Meaning) (vs : List Verdict) → is_define c ≡ true → FieldsFrom m c (defined d t v vs m).units
fields_defined m c d t v vs defines u y e = split (pushed_cases (numbered (without_replaced m.rows vs) 0 m.units) (new_unit t v vs) u y e)
  where
    split : (slice_get (numbered (without_replaced m.rows vs) 0 m.units) u ≡ Some y) ⊎ ((u ≡ length (numbered (without_replaced m.rows vs) 0 m.units)) × (y ≡ new_unit t v vs)) → ((x : UnitRow) × (slice_get m.units u ≡ Some x) × HasFields m c u x y) ⊎ IsNew m c u y
    split (inl a) = let p = numbered_parts (without_replaced m.rows vs) m.units u y a in
        inl (
          p.0,
          p.1,
          record {
            query = inl (ap (λ (z : UnitRow). z.query) p.2);
            bound = inl (ap (λ (z : UnitRow). z.bound) p.2);
            live = λ n. absurd (both_ways (is_define c) n defines);
            meaning = ap (λ (z : UnitRow). z.meaning) p.2;
            tracker = inl (ap (λ (z : UnitRow). z.tracker) p.2);
            failed = λ e. inl (ap (λ (z : UnitRow). z.phase) (sym p.2) ∙ e);
          },
        )
    split (inr a) = inr (defines, none_past m.units u (omega (arith, a.0, numbered_length (without_replaced m.rows vs) 0 m.units)), ap (λ (z : UnitRow). z.query) a.1, ap (λ (z : UnitRow). z.bound) a.1)

fields_claim : (m : Plain) (c : Change Meaning) (i : InstId) (n : Plain) → FieldsKept m c n.units → FieldsKept m c (claimed_for i n).units
fields_claim m c i n old = split (slice_get n.rows i.0)
  where
    split : (o : Option InstRow) → FieldsKept m c (option_map_or (λ (r : InstRow). if is_unsearched r.phase then claimed r.unit.0 n else n) o n).units
    split None = old
    split (Some r) = chosen (λ k. FieldsKept m c k.units) (is_unsearched r.phase) (claimed r.unit.0 n) n (λ b. fields_changed m c n.units r.unit.0 listed_unit (λ x. record { query = refl; bound = refl; live = refl; meaning = refl; tracker = refl; failed = λ e. absurd (cc) }) old) (λ b. old)

fields_claims : (m : Plain) (c : Change Meaning) (os : List (Option InstId)) (n : Plain) → FieldsKept m c n.units → FieldsKept m c (all_claimed os n).units
fields_claims m c [] n old = old
fields_claims m c (None ∷ os) n old = fields_claims m c os n old
fields_claims m c (Some i ∷ os) n old = fields_claims m c os (claimed_for i n) (fields_claim m c i n old)

fields_linked : (m : Plain) (v : UnitId) (found : List (Option InstId)) → FieldsKept m (Link v found) (linked v.0 found m).units
fields_linked m v found u y e = split (changed_cases v.0 (waiting_unit (length m.queries)) (all_claimed found m).units u y e)
  where
    claims : FieldsKept m (Link v found) (all_claimed found m).units
    claims = fields_claims m (Link v found) found m (fields_same m (Link v found))

    waits : {P : Type 0} → stage.Waiting ≡ stage.Failed → P
    waits e = absurd (cc)

    unbound : (x z : UnitRow) → (z.bound ≡ x.bound) ⊎ BindsBy (Link v found) u z → z.bound ≡ x.bound
    unbound x z (inl b) = b
    unbound x z (inr b) = link_isnt_finish (Link v found) v found b.0 b.1 b.2 refl b.3

    unmoved : (x z : UnitRow) → (z.tracker ≡ x.tracker) ⊎ MovesTo (Link v found) x z → z.tracker ≡ x.tracker
    unmoved x z (inl t) = t
    unmoved x z (inr p) = absurd (both_ways true (ap is_link p.2) refl)

    split : ((u ≡ v.0) × ((z : UnitRow) × (slice_get (all_claimed found m).units u ≡ Some z) × (y ≡ waiting_unit (length m.queries) z))) ⊎ ((u ≡ v.0 → ⊥) × (slice_get (all_claimed found m).units u ≡ Some y)) → (x : UnitRow) × (slice_get m.units u ≡ Some x) × HasFields m (Link v found) u x y
    split (inl p) = let x = claims u p.1.0 p.1.1 in
        (x.0, x.1, record { query = inr (v, found, refl, sym p.0, ap (λ (w : UnitRow). w.query) p.1.2); bound = inl (ap (λ (w : UnitRow). w.bound) p.1.2 ∙ unbound x.0 p.1.0 x.2.bound); live = λ d. ap (λ (w : UnitRow). w.live) p.1.2 ∙ x.2.live d; meaning = ap (λ (w : UnitRow). w.meaning) p.1.2 ∙ x.2.meaning; tracker = inl (ap (λ (w : UnitRow). w.tracker) p.1.2 ∙ unmoved x.0 p.1.0 x.2.tracker); failed = λ e. waits (ap (λ (w : UnitRow). w.phase) (sym p.1.2) ∙ e) })
    split (inr p) = claims u y p.1

fields_finishing : (m : Plain) (t : SeatNo) (v : UnitId) (how : Finishing) → FieldsKept m (Finish t v how) (changed_at v.0 (finishing_unit t.0 how) m.units)
fields_finishing m t v how u y e = split (changed_cases v.0 (finishing_unit t.0 how) m.units u y e)
  where
    finishes : {P : Type 0} → stage.Finishing ≡ stage.Failed → P
    finishes e = absurd (cc)

    split : ((u ≡ v.0) × ((z : UnitRow) × (slice_get m.units u ≡ Some z) × (y ≡ finishing_unit t.0 how z))) ⊎ ((u ≡ v.0 → ⊥) × (slice_get m.units u ≡ Some y)) → (x : UnitRow) × (slice_get m.units u ≡ Some x) × HasFields m (Finish t v how) u x y
    split (inl p) = (p.1.0, p.1.1, record { query = inl (ap (λ (w : UnitRow). w.query) p.1.2); bound = inr (t, v, how, refl, sym p.0, ap (λ (w : UnitRow). w.bound) p.1.2); live = λ d. ap (λ (w : UnitRow). w.live) p.1.2; meaning = ap (λ (w : UnitRow). w.meaning) p.1.2; tracker = inl (ap (λ (w : UnitRow). w.tracker) p.1.2); failed = λ e. finishes (ap (λ (w : UnitRow). w.phase) (sym p.1.2) ∙ e) })
    split (inr p) = fields_same m (Finish t v how) u y p.1

fields_failed : (m : Plain) (v : UnitId) → FieldsKept m (Fail v) (changed_at v.0 failed_unit m.units)
fields_failed m v u y e = split (changed_cases v.0 failed_unit m.units u y e)
  where
    split : ((u ≡ v.0) × ((z : UnitRow) × (slice_get m.units u ≡ Some z) × (y ≡ failed_unit z))) ⊎ ((u ≡ v.0 → ⊥) × (slice_get m.units u ≡ Some y)) → (x : UnitRow) × (slice_get m.units u ≡ Some x) × HasFields m (Fail v) u x y
    split (inl p) = (p.1.0, p.1.1, record { query = inl (ap (λ (w : UnitRow). w.query) p.1.2); bound = inl (ap (λ (w : UnitRow). w.bound) p.1.2); live = λ d. ap (λ (w : UnitRow). w.live) p.1.2; meaning = ap (λ (w : UnitRow). w.meaning) p.1.2; tracker = inl (ap (λ (w : UnitRow). w.tracker) p.1.2); failed = λ e. inr (v, refl, sym p.0) })
    split (inr p) = fields_same m (Fail v) u y p.1

fields_moved : (m : Plain) (t to : TrackId) → FieldsKept m (Move t to) (map (moved_unit t.0 to.0) m.units)
fields_moved m t to u y e = let p = mapped_parts (moved_unit t.0 to.0) m.units u y e in
    (p.0, p.1, subst (HasFields m (Move t to) u p.0) (sym p.2) (record { query = inl refl; bound = inl refl; live = λ d. refl; meaning = refl; tracker = by_tracker p.0 (p.0.tracker == t.0) refl; failed = λ f. inl f }))
  where
    by_tracker : (x : UnitRow) (b : Bool) → (x.tracker == t.0) ≡ b → ((if b then to.0 else x.tracker) ≡ x.tracker) ⊎ MovesTo (Move t to) x (record x { tracker = if b then to.0 else x.tracker })
    by_tracker x true is = inr (t, to, refl, eqb-true x.tracker t.0 is, refl)
    by_tracker x false is = inl refl

pub change_fields : (m : Plain) (c : Change Meaning) → FieldsFrom m c (changed c m).units
change_fields m Nothing = fields_kept m Nothing m.units (fields_same m Nothing)
change_fields m (MakeDylib name) = fields_kept m (MakeDylib name) m.units (fields_same m (MakeDylib name))
change_fields m (MakeTracker d) = fields_kept m (MakeTracker d) m.units (fields_same m (MakeTracker d))
change_fields m (SetOrder d order) = fields_kept m (SetOrder d order) m.units (fields_same m (SetOrder d order))
change_fields m (Attach d t u) = fields_kept m (Attach d t u) m.units (fields_same m (Attach d t u))
change_fields m (Define d t u found) = fields_defined m (Define d t u found) d.0 t.0 u found refl
change_fields m (Generate k found) = split (slice_get m.generators k.0)
  where
    split : (o : Option GenRow) → FieldsFrom m (Generate k found) (option_map_or (λ x. spent k.0 (defined x.dylib x.tracker x.meaning found m)) o m).units
    split None = fields_kept m (Generate k found) m.units (fields_same m (Generate k found))
    split (Some x) = fields_defined m (Generate k found) x.dylib x.tracker x.meaning found refl
change_fields m (Spend k) = fields_kept m (Spend k) m.units (fields_same m (Spend k))
change_fields m (Ask found lev n) = fields_kept m (Ask found lev n) (all_claimed found m).units (fields_claims m (Ask found lev n) found m (fields_same m (Ask found lev n)))
change_fields m (Start t u) = fields_kept m (Start t u) (changed_at u.0 (started_unit t.0) m.units) (fields_changed m (Start t u) m.units u.0 (started_unit t.0) (λ x. record { query = refl; bound = refl; live = refl; meaning = refl; tracker = refl; failed = λ e. absurd (cc) }) (fields_same m (Start t u)))
change_fields m (Finish t u how) = fields_kept m (Finish t u how) (changed_at u.0 (finishing_unit t.0 how) m.units) (fields_finishing m t u how)
change_fields m (Place u base) = fields_kept m (Place u base) (changed_at u.0 (placed_unit base) m.units) (fields_changed m (Place u base) m.units u.0 (placed_unit base) (λ x. record { query = refl; bound = refl; live = refl; meaning = refl; tracker = refl; failed = λ e. absurd (cc) }) (fields_same m (Place u base)))
change_fields m (Resolve u) = split (slice_get m.units u.0)
  where
    split : (o : Option UnitRow) → FieldsFrom m (Resolve u) (option_map_or (λ (x : UnitRow). record m { rows = map (resolved_row u.0 (resolved_unit x)) m.rows; units = changed_at u.0 resolved_unit m.units }) o m).units
    split None = fields_kept m (Resolve u) m.units (fields_same m (Resolve u))
    split (Some x) = fields_kept m (Resolve u) (changed_at u.0 resolved_unit m.units) (fields_changed m (Resolve u) m.units u.0 resolved_unit (λ x. record { query = refl; bound = refl; live = refl; meaning = refl; tracker = refl; failed = λ e. chosen (λ q. q ≡ stage.Failed → x.phase ≡ stage.Failed) (is_alias x) x.phase stage.Linking (λ b c. c) (λ b c. absurd (cc)) e }) (fields_same m (Resolve u)))
change_fields m (Link u found) = fields_kept m (Link u found) (linked u.0 found m).units (fields_linked m u found)
change_fields m (Emit u groups) = fields_kept m (Emit u groups) (changed_at u.0 done_unit m.units) (fields_changed m (Emit u groups) m.units u.0 done_unit (λ x. record { query = refl; bound = refl; live = refl; meaning = refl; tracker = refl; failed = λ e. absurd (cc) }) (fields_same m (Emit u groups)))
change_fields m (Fail u) = fields_kept m (Fail u) (changed_at u.0 failed_unit m.units) (fields_failed m u)
change_fields m (Move t to) = chosen (λ k. FieldsFrom m (Move t to) k.units) (t.0 == to.0) m (record m { units = map (moved_unit t.0 to.0) m.units; generators = map (moved_generator t.0 to.0) m.generators; trackers = changed_at t.0 gone_tracker m.trackers })
    (λ b. fields_kept m (Move t to) m.units (fields_same m (Move t to)))
    (λ b. fields_kept m (Move t to) (map (moved_unit t.0 to.0) m.units) (fields_moved m t to))
change_fields m (Remove t) = fields_kept m (Remove t) (map (removed_unit t.0) m.units) (fields_mapped m (Remove t) (removed_unit t.0) (λ x. record { query = refl; bound = refl; live = refl; meaning = refl; tracker = refl; failed = λ e. chosen (λ q. q ≡ stage.Failed → x.phase ≡ stage.Failed) (x.tracker == t.0) stage.Defunct x.phase (λ b c. absurd (cc)) (λ b c. c) e }))
change_fields m (LetGo t u) = fields_kept m (LetGo t u) (changed_at u.0 (let_go_unit t.0) m.units) (fields_changed m (LetGo t u) m.units u.0 (let_go_unit t.0) (λ x. record { query = refl; bound = refl; live = refl; meaning = refl; tracker = refl; failed = λ e. e }) (fields_same m (LetGo t u)))

-- settling leaves all of them
pub settled_fields : (m : Plain) (u : ℕ) (y : UnitRow) → slice_get (settled m).units u ≡ Some y → (x : UnitRow) × (slice_get m.units u ≡ Some x) × SameFields x y
settled_fields m = settling_keeps (λ n. (u : ℕ) (y : UnitRow) → slice_get n.units u ≡ Some y → (x : UnitRow) × (slice_get m.units u ≡ Some x) × SameFields x y) step 0 m.queries m (λ u y e. (y, e, record { query = refl; bound = refl; live = refl; meaning = refl; tracker = refl; failed = λ f. f }))
  where
    again : (x z : UnitRow) → SameFields x z → SameFields x (linked_unit z)
    again x z s = record { query = s.query; bound = s.bound; live = s.live; meaning = s.meaning; tracker = s.tracker; failed = λ e. absurd (cc) }

    step : (v k : ℕ) (q : Query) (n : Plain) → ((u : ℕ) (y : UnitRow) → slice_get n.units u ≡ Some y → (x : UnitRow) × (slice_get m.units u ≡ Some x) × SameFields x y) → waits_for n v k ≡ true → is_met n.rows q ≡ true → q.unit ≡ Some v →
        (u : ℕ) (y : UnitRow) → slice_get (finish_listed v n).units u ≡ Some y → (x : UnitRow) × (slice_get m.units u ≡ Some x) × SameFields x y
    step v k q n old w b d u y e = split (changed_cases v linked_unit n.units u y e)
      where
        split : ((u ≡ v) × ((z : UnitRow) × (slice_get n.units u ≡ Some z) × (y ≡ linked_unit z))) ⊎ ((u ≡ v → ⊥) × (slice_get n.units u ≡ Some y)) → (x : UnitRow) × (slice_get m.units u ≡ Some x) × SameFields x y
        split (inl p) = let x = old u p.1.0 p.1.1 in (x.0, x.1, subst (SameFields x.0) (sym p.1.2) (again x.0 p.1.0 x.2))
        split (inr p) = old u y p.1

pub after_fields : (m : Plain) (e : Entry Meaning) → FieldsFrom m (change_of m e.seat.0 e.event e.reply) (after m e).units
after_fields m e u y t = split (change_fields m c u z.0 z.1)
  where
    c : Change Meaning
    c = change_of m e.seat.0 e.event e.reply

    z : (z : UnitRow) × (slice_get (changed c m).units u ≡ Some z) × SameFields z y
    z = settled_fields (changed c m) u y t

    split : ((x : UnitRow) × (slice_get m.units u ≡ Some x) × HasFields m c u x z.0) ⊎ IsNew m c u z.0 → ((x : UnitRow) × (slice_get m.units u ≡ Some x) × HasFields m c u x y) ⊎ IsNew m c u y
    split (inl p) = inl (p.0, p.1, fields_on m c u p.0 z.0 y p.2 z.2)
    split (inr p) = inr (p.0, p.1, z.2.query ∙ p.2, z.2.bound ∙ p.3)
