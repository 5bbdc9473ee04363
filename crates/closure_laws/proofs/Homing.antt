-- Each instance, unit, generator and tracker has its home.
use Rattle.std.proofs.Common.{◌≡◌, ℕ, zero, suc, ◌+◌, ◌<◌, ◌≤◌, Bool, true, false, ◌==◌, map, List, [], ◌∷◌, ◌++◌, length, slice_get, ◌⊎◌, inl, inr, arith, subst, sym, refl, ap, ◌∙◌, Option, Some, None}
use Rattle.std.specs.Bool.{if◌then◌else◌}
use Rattle.std.specs.Option.{option_map_or}
use Rattle.std.proofs.lemmas.Bool.{both_ways, cases_eq, eqb-true}
use Rattle.std.proofs.lemmas.List.{length-append}
use Rattle.std.proofs.lemmas.Option.{none-some, same_Some}
use Rattle.orc_ids.specs.declared.flags.SymFlags.{SymFlags}
use Rattle.orc_ids.specs.declared.ids.DylibId.{DylibId}
use Rattle.orc_ids.specs.declared.ids.InstId.{InstId}
use Rattle.orc_ids.specs.declared.ids.NameId.{NameId}
use Rattle.orc_ids.specs.declared.ids.UnitId.{UnitId}
use Rattle.session_model.specs.Lists.{changed_at, numbered}
use Rattle.session_model.specs.Change.{change_of, changed, settled, defined, spent, all_claimed, claimed_for, claimed, resolved_row, resolved_unit, new_dylib, ordered_dylib, new_unit, new_row, new_rows, without_replaced, unreplaced_row, is_kept, spent_generator, moved_unit, moved_generator, removed_generator, gone_tracker}
use Rattle.session_model.specs.Meaning.{Meaning}
use Rattle.session_model.specs.Plain.{Plain, UnitRow, GenRow, empty, is_unsearched}
use Rattle.session_model.specs.State.{state}
use Rattle.session_model.specs.declared.change.Change.{Change}
use Rattle.session_model.specs.declared.change.Change.TheVariants.{Nothing, MakeDylib, MakeTracker, SetOrder, Attach, Define, Generate, Spend, Ask, Start, Finish, Place, Resolve, Link, Emit, Fail, Move, Remove, LetGo}
use Rattle.session_model.specs.declared.entry.Entry.{Entry}
use Rattle.session_model.specs.declared.rows.InstRow.{InstRow}
use Rattle.session_model.specs.declared.rows.Track.{Track}
use Rattle.session_model.specs.declared.rows.Verdict.{Verdict}
use Rattle.session_laws.proofs.Declared.{state_from_push, new_rows_unit, same_element, none_there, element_below, front_some, appended_cases, changed_cases, changed_elsewhere, changed_length, changed_some, mapped_parts, numbered_length, numbered_parts, pushed_cases, pushed_last, Guard, change_rises, chosen, settling_keeps, settled_rows}
use Rattle.session_laws.specs.Sound.{IsSound}
use Rattle.closure_laws.proofs.Fields.{is_define, IsNew, HasFields, MovesTo, change_fields, settled_fields}
use Rattle.closure_laws.proofs.Histories.{OneMore, kept_along}
use Rattle.closure_laws.proofs.HomeGuards.{HomeGuard, home_guard}
use Rattle.closure_laws.proofs.NamesOnce.{settled_there}
use Rattle.closure_laws.proofs.RowSources.{row_was}
use Rattle.closure_laws.specs.Homes.{IsTrackerIn, RowsHaveHomes}

-- Dylibs, trackers and generators

abbrev TrackersHome : Plain → Type 0
TrackersHome m = (t : ℕ) (x : Track) → slice_get m.trackers t ≡ Some x → x.dylib < length m.dylibs

abbrev GeneratorsHome : Plain → Type 0
GeneratorsHome m = (k : ℕ) (g : GenRow) → slice_get m.generators k ≡ Some g → IsTrackerIn m g.dylib g.tracker

-- each tracker stays one of its dylib, and all are at home
record Framed (m n : Plain) : Type 0 where
  carried : (d t : ℕ) → IsTrackerIn m d t → IsTrackerIn n d t
  trackers : TrackersHome n
  generators : GeneratorsHome n

pub record SameFrame (m n : Plain) : Type 0 where
  pub dylibs : n.dylibs ≡ m.dylibs
  pub trackers : n.trackers ≡ m.trackers
  pub generators : n.generators ≡ m.generators

framed_same : (m n : Plain) → SameFrame m n → TrackersHome m → GeneratorsHome m → Framed m n
framed_same m n s a b = record {
  carried = carried;
  trackers = λ t x e. subst (λ ds. x.dylib < length ds) (sym s.dylibs) (a t x (ap (λ ts. slice_get ts t) (sym s.trackers) ∙ e));
  generators = λ k g e. carried g.dylib g.tracker (b k g (ap (λ gs. slice_get gs k) (sym s.generators) ∙ e));
}
  where
    carried : (d t : ℕ) → IsTrackerIn m d t → IsTrackerIn n d t
    carried d t p = (p.0, ap (λ ts. slice_get ts t) s.trackers ∙ p.1, p.2)

pub same_frame : (m : Plain) → SameFrame m m
same_frame m = record { dylibs = refl; trackers = refl; generators = refl }

claim_frame : (m : Plain) (i : InstId) (n : Plain) → SameFrame m n → SameFrame m (claimed_for i n)
claim_frame m i n s = split (slice_get n.rows i.0)
  where
    split : (o : Option InstRow) → SameFrame m (option_map_or (λ (r : InstRow). if is_unsearched r.phase then claimed r.unit.0 n else n) o n)
    split None = s
    split (Some r) = chosen (SameFrame m) (is_unsearched r.phase) (claimed r.unit.0 n) n (λ b. record { dylibs = s.dylibs; trackers = s.trackers; generators = s.generators }) (λ b. s)

pub claims_frame : (m : Plain) (os : List (Option InstId)) (n : Plain) → SameFrame m n → SameFrame m (all_claimed os n)
claims_frame m [] n s = s
claims_frame m (None ∷ os) n s = claims_frame m os n s
claims_frame m (Some i ∷ os) n s = claims_frame m os (claimed_for i n) (claim_frame m i n s)

-- a tracker of a list is of this dylib
abbrev TrackerIn : List Track → ℕ → ℕ → Type 0
TrackerIn ts d t = (x : Track) × (slice_get ts t ≡ Some x) × (x.dylib ≡ d)

-- gone trackers are of their dylibs yet
gone_carried : (ts : List Track) (v d t : ℕ) → TrackerIn ts d t → TrackerIn (changed_at v gone_tracker ts) d t
gone_carried ts v d t p = split (cases_eq t v)
  where
    split : (t ≡ v) ⊎ (t ≡ v → ⊥) → TrackerIn (changed_at v gone_tracker ts) d t
    split (inl is) = (gone_tracker p.0, ap (slice_get (changed_at v gone_tracker ts)) is ∙ changed_some v gone_tracker ts p.0 (ap (slice_get ts) (sym is) ∙ p.1), p.2)
    split (inr apart) = (p.0, changed_elsewhere v gone_tracker ts t apart ∙ p.1, p.2)

gone_home : (ts : List Track) (n v : ℕ) → ((t : ℕ) (x : Track) → slice_get ts t ≡ Some x → x.dylib < n) → (t : ℕ) (x : Track) → slice_get (changed_at v gone_tracker ts) t ≡ Some x → x.dylib < n
gone_home ts n v home t x e = split (changed_cases v gone_tracker ts t x e)
  where
    split : ((t ≡ v) × ((y : Track) × (slice_get ts t ≡ Some y) × (x ≡ gone_tracker y))) ⊎ ((t ≡ v → ⊥) × (slice_get ts t ≡ Some x)) → x.dylib < n
    split (inl p) = subst (λ (z : Track). z.dylib < n) (sym p.1.2) (home t p.1.0 p.1.1)
    split (inr p) = home t x p.1

made_framed : (m : Plain) (name : ℕ) → TrackersHome m → GeneratorsHome m → Framed m (record m { dylibs = m.dylibs ++ new_dylib (length m.dylibs) name ∷ [] })
made_framed m name a b = record { carried = λ d t p. p; trackers = λ t x e. longer x.dylib (a t x e); generators = b }
  where
    longer : (d : ℕ) → suc d ≤ length m.dylibs → suc d ≤ length (m.dylibs ++ new_dylib (length m.dylibs) name ∷ [])
    longer d le = omega (arith, le, length-append m.dylibs (new_dylib (length m.dylibs) name ∷ []))

tracked_framed : (m : Plain) (d : ℕ) → d < length m.dylibs → TrackersHome m → GeneratorsHome m → Framed m (record m { trackers = m.trackers ++ record { dylib = d; gone = false } ∷ [] })
tracked_framed m d below a b = record { carried = carried; trackers = trackers; generators = λ k g e. carried g.dylib g.tracker (b k g e) }
  where
    new : Track
    new = record { dylib = d; gone = false }

    carried : (c t : ℕ) → TrackerIn m.trackers c t → TrackerIn (m.trackers ++ new ∷ []) c t
    carried c t p = (p.0, front_some m.trackers (new ∷ []) t p.0 p.1, p.2)

    trackers : (t : ℕ) (x : Track) → slice_get (m.trackers ++ new ∷ []) t ≡ Some x → x.dylib < length m.dylibs
    trackers t x e = split (pushed_cases m.trackers new t x e)
      where
        split : (slice_get m.trackers t ≡ Some x) ⊎ ((t ≡ length m.trackers) × (x ≡ new)) → x.dylib < length m.dylibs
        split (inl p) = a t x p
        split (inr p) = subst (λ (z : Track). z.dylib < length m.dylibs) (sym p.1) below

attached_framed : (m : Plain) (g : GenRow) → IsTrackerIn m g.dylib g.tracker → TrackersHome m → GeneratorsHome m → Framed m (record m { generators = m.generators ++ g ∷ [] })
attached_framed m g there a b = record { carried = λ d t p. p; trackers = a; generators = generators }
  where
    generators : (k : ℕ) (f : GenRow) → slice_get (m.generators ++ g ∷ []) k ≡ Some f → TrackerIn m.trackers f.dylib f.tracker
    generators k f e = split (pushed_cases m.generators g k f e)
      where
        split : (slice_get m.generators k ≡ Some f) ⊎ ((k ≡ length m.generators) × (f ≡ g)) → TrackerIn m.trackers f.dylib f.tracker
        split (inl p) = b k f p
        split (inr p) = subst (λ (z : GenRow). TrackerIn m.trackers z.dylib z.tracker) (sym p.1) there

spent_home : (ts : List Track) (gs : List GenRow) (v : ℕ) → ((k : ℕ) (g : GenRow) → slice_get gs k ≡ Some g → TrackerIn ts g.dylib g.tracker) → (k : ℕ) (g : GenRow) → slice_get (changed_at v spent_generator gs) k ≡ Some g → TrackerIn ts g.dylib g.tracker
spent_home ts gs v home k g e = split (changed_cases v spent_generator gs k g e)
  where
    split : ((k ≡ v) × ((f : GenRow) × (slice_get gs k ≡ Some f) × (g ≡ spent_generator f))) ⊎ ((k ≡ v → ⊥) × (slice_get gs k ≡ Some g)) → TrackerIn ts g.dylib g.tracker
    split (inl p) = subst (λ (z : GenRow). TrackerIn ts z.dylib z.tracker) (sym p.1.2) (home k p.1.0 p.1.1)
    split (inr p) = home k g p.1

generated_framed : (m : Plain) (k : ℕ) (found : List Verdict) → TrackersHome m → GeneratorsHome m → Framed m (option_map_or (λ x. spent k (defined x.dylib x.tracker x.meaning found m)) (slice_get m.generators k) m)
generated_framed m k found a b = split (slice_get m.generators k)
  where
    split : (o : Option GenRow) → Framed m (option_map_or (λ x. spent k (defined x.dylib x.tracker x.meaning found m)) o m)
    split None = framed_same m m (same_frame m) a b
    split (Some x) = record { carried = λ d t p. p; trackers = a; generators = spent_home m.trackers m.generators k b }

-- two trackers of one dylib
moved_framed : (m : Plain) (t to d : ℕ) → IsTrackerIn m d t → IsTrackerIn m d to → TrackersHome m → GeneratorsHome m →
    Framed m (record m { units = map (moved_unit t to) m.units; generators = map (moved_generator t to) m.generators; trackers = changed_at t gone_tracker m.trackers })
moved_framed m t to d from goal a b = record { carried = gone_carried m.trackers t; trackers = gone_home m.trackers (length m.dylibs) t a; generators = generators }
  where
    generators : (k : ℕ) (g : GenRow) → slice_get (map (moved_generator t to) m.generators) k ≡ Some g → TrackerIn (changed_at t gone_tracker m.trackers) g.dylib g.tracker
    generators k g e = let p = mapped_parts (moved_generator t to) m.generators k g e in
        subst (λ (z : GenRow). TrackerIn (changed_at t gone_tracker m.trackers) z.dylib z.tracker) (sym p.2) (gone_carried m.trackers t p.0.dylib (moved_generator t to p.0).tracker (by_tracker p.0 (b k p.0 p.1) (p.0.tracker == t) refl))
      where
        by_tracker : (f : GenRow) → TrackerIn m.trackers f.dylib f.tracker → (c : Bool) → (f.tracker == t) ≡ c → TrackerIn m.trackers f.dylib (if c then to else f.tracker)
        by_tracker f q false is = q
        by_tracker f q true is = (goal.0, goal.1, goal.2 ∙ (sym from.2 ∙ (ap (λ (z : Track). z.dylib) (same_element (slice_get m.trackers t) from.0 q.0 from.1 (ap (slice_get m.trackers) (sym (eqb-true f.tracker t is)) ∙ q.1)) ∙ q.2)))

removed_generators : (m : Plain) (t : ℕ) → GeneratorsHome m → (k : ℕ) (g : GenRow) → slice_get (map (removed_generator t) m.generators) k ≡ Some g → TrackerIn (changed_at t gone_tracker m.trackers) g.dylib g.tracker
removed_generators m t b k g e = let p = mapped_parts (removed_generator t) m.generators k g e in
    subst (λ (z : GenRow). TrackerIn (changed_at t gone_tracker m.trackers) z.dylib z.tracker) (sym p.2) (gone_carried m.trackers t p.0.dylib p.0.tracker (b k p.0 p.1))

framed : (m : Plain) (c : Change Meaning) → HomeGuard m c → TrackersHome m → GeneratorsHome m → Framed m (changed c m)
framed m Nothing g a b = framed_same m m (same_frame m) a b
framed m (MakeDylib name) g a b = made_framed m name.0 a b
framed m (MakeTracker d) g a b = tracked_framed m d.0 g a b
framed m (SetOrder d order) g a b = record { carried = λ e t p. p; trackers = λ t x e. subst (λ n. x.dylib < n) (sym (changed_length d.0 (ordered_dylib d.0 order) m.dylibs)) (a t x e); generators = b }
framed m (Attach d t u) g a b = attached_framed m (record { dylib = d.0; tracker = t.0; meaning = u; spent = false }) g.0 a b
framed m (Define d t u found) g a b = record { carried = λ e v p. p; trackers = a; generators = b }
framed m (Generate k found) g a b = generated_framed m k.0 found a b
framed m (Spend k) g a b = record { carried = λ d t p. p; trackers = a; generators = spent_home m.trackers m.generators k.0 b }
framed m (Ask found lev n) g a b = let s = claims_frame m found m (same_frame m) in framed_same m (changed (Ask found lev n) m) (record { dylibs = s.dylibs; trackers = s.trackers; generators = s.generators }) a b
framed m (Start t u) g a b = record { carried = λ d v p. p; trackers = a; generators = b }
framed m (Finish t u how) g a b = record { carried = λ d v p. p; trackers = a; generators = b }
framed m (Place u base) g a b = record { carried = λ d v p. p; trackers = a; generators = b }
framed m (Resolve u) g a b = split (slice_get m.units u.0)
  where
    split : (o : Option UnitRow) → Framed m (option_map_or (λ (x : UnitRow). record m { rows = map (resolved_row u.0 (resolved_unit x)) m.rows; units = changed_at u.0 resolved_unit m.units }) o m)
    split None = framed_same m m (same_frame m) a b
    split (Some x) = record { carried = λ d v p. p; trackers = a; generators = b }
framed m (Link u found) g a b = let s = claims_frame m found m (same_frame m) in framed_same m (changed (Link u found) m) (record { dylibs = s.dylibs; trackers = s.trackers; generators = s.generators }) a b
framed m (Emit u groups) g a b = record { carried = λ d v p. p; trackers = a; generators = b }
framed m (Fail u) g a b = record { carried = λ d v p. p; trackers = a; generators = b }
framed m (Move t to) g a b = chosen (Framed m) (t.0 == to.0) m (record m { units = map (moved_unit t.0 to.0) m.units; generators = map (moved_generator t.0 to.0) m.generators; trackers = changed_at t.0 gone_tracker m.trackers })
    (λ e. framed_same m m (same_frame m) a b) (λ e. moved_framed m t.0 to.0 g.0 g.1 g.2 a b)
framed m (Remove t) g a b = record { carried = gone_carried m.trackers t.0; trackers = gone_home m.trackers (length m.dylibs) t.0 a; generators = removed_generators m t.0 b }
framed m (LetGo t u) g a b = record { carried = λ d v p. p; trackers = a; generators = b }

-- Units and instances

-- the unit is there, and its tracker is of this dylib
abbrev IsUnitIn : Plain → ℕ → ℕ → Type 0
IsUnitIn m d u = (x : UnitRow) × (slice_get m.units u ≡ Some x) × IsTrackerIn m d x.tracker

record IsHomed (m : Plain) : Type 0 where
  trackers : TrackersHome m
  generators : GeneratorsHome m
  units : (u : ℕ) (x : UnitRow) → slice_get m.units u ≡ Some x → (d : ℕ) × IsUnitIn m d u
  rows : (i : ℕ) (r : InstRow) → slice_get m.rows i ≡ Some r → IsUnitIn m r.dylib.0 r.unit.0

-- a unit's tracker stays, or it is moved to another one of its dylib
tracker_carried : (m : Plain) (c : Change Meaning) (d : ℕ) (x y : UnitRow) → HomeGuard m c → ((e t : ℕ) → IsTrackerIn m e t → IsTrackerIn (changed c m) e t) → IsTrackerIn m d x.tracker → (y.tracker ≡ x.tracker) ⊎ MovesTo c x y → IsTrackerIn (changed c m) d y.tracker
tracker_carried m c d x y g carried p (inl same) = subst (IsTrackerIn (changed c m) d) (sym same) (carried d x.tracker p)
tracker_carried m c d x y g carried p (inr (t, to, is, from, goal)) =
    let h = subst (HomeGuard m) is g in
    let e : h.0 ≡ d = sym h.1.2 ∙ (ap (λ (z : Track). z.dylib) (same_element (slice_get m.trackers t.0) h.1.0 p.0 h.1.1 (ap (slice_get m.trackers) (sym from) ∙ p.1)) ∙ p.2) in
    subst (IsTrackerIn (changed c m) d) (sym goal) (carried d to.0 (subst (λ k. IsTrackerIn m k to.0) e h.2))

unit_carried : (m : Plain) (s : ℕ) (c : Change Meaning) → IsSound m → Guard m s c → HomeGuard m c → ((e t : ℕ) → IsTrackerIn m e t → IsTrackerIn (changed c m) e t) → (d u : ℕ) → IsUnitIn m d u → IsUnitIn (changed c m) d u
unit_carried m s c h g k carried d u p = split (change_fields m c u y.0 y.1)
  where
    y : (y : UnitRow) × (slice_get (changed c m).units u ≡ Some y)
    y = let z = change_rises m s c h g u p.0 p.1 in (z.0, z.1)

    split : ((x : UnitRow) × (slice_get m.units u ≡ Some x) × HasFields m c u x y.0) ⊎ IsNew m c u y.0 → IsUnitIn (changed c m) d u
    split (inl q) = (y.0, y.1, tracker_carried m c d q.0 y.0 k carried (subst (λ (z : UnitRow). IsTrackerIn m d z.tracker) (same_element (slice_get m.units u) p.0 q.0 p.1 q.1) p.2) q.2.tracker)
    split (inr q) = none_there (slice_get m.units u) p.0 q.1 p.1

-- what a definition makes
record Defines (m n : Plain) : Type 0 where
  d : ℕ
  t : ℕ
  v : Meaning
  found : List Verdict
  rows : n.rows ≡ (defined d t v found m).rows
  units : n.units ≡ (defined d t v found m).units
  home : IsTrackerIn m d t

defines : (m : Plain) (c : Change Meaning) → is_define c ≡ true → HomeGuard m c → GeneratorsHome m → Defines m (changed c m) ⊎ (changed c m ≡ m)
defines m (Define d t v found) e g b = inl (record { d = d.0; t = t.0; v = v; found = found; rows = refl; units = refl; home = g })
defines m (Generate k found) e g b = split (slice_get m.generators k.0) refl
  where
    split : (o : Option GenRow) → slice_get m.generators k.0 ≡ o → Defines m (option_map_or (λ x. spent k.0 (defined x.dylib x.tracker x.meaning found m)) o m) ⊎ (option_map_or (λ x. spent k.0 (defined x.dylib x.tracker x.meaning found m)) o m ≡ m)
    split None is = inr refl
    split (Some x) is = inl (record { d = x.dylib; t = x.tracker; v = x.meaning; found = found; rows = refl; units = refl; home = b k.0 x is })
defines m _ e g b = absurd (both_ways false refl e)

new_rows_dylib : (d u k : ℕ) (offers : List (NameId × SymFlags)) (found : List Verdict) (n : ℕ) (r : InstRow) → slice_get (new_rows d u k offers found) n ≡ Some r → r.dylib.0 ≡ d
new_rows_dylib d u k [] found n r e = absurd (none-some r e)
new_rows_dylib d u k (offer ∷ offers) [] n r e = absurd (none-some r e)
new_rows_dylib d u k (offer ∷ offers) (v ∷ vs) n r e = chosen (λ rs. slice_get rs n ≡ Some r → r.dylib.0 ≡ d) (is_kept v) (new_row d u k offer ∷ new_rows d u (k + 1) offers vs) (new_rows d u (k + 1) offers vs)
    (λ b. with_one n (λ j. new_rows_dylib d u (k + 1) offers vs j r)) (λ b. new_rows_dylib d u (k + 1) offers vs n r) e
  where
    with_one : (n : ℕ) → ((j : ℕ) → slice_get (new_rows d u (k + 1) offers vs) j ≡ Some r → r.dylib.0 ≡ d) → slice_get (new_row d u k offer ∷ new_rows d u (k + 1) offers vs) n ≡ Some r → r.dylib.0 ≡ d
    with_one zero rest t = ap (λ (z : InstRow). z.dylib.0) (sym (same_Some (new_row d u k offer) r t))
    with_one (suc j) rest t = rest j t

homed_changed : (m : Plain) (s : ℕ) (c : Change Meaning) → IsSound m → Guard m s c → HomeGuard m c → IsHomed m → IsHomed (changed c m)
homed_changed m s c h g k old = record { trackers = frame.trackers; generators = frame.generators; units = units; rows = λ i r e. by_kind i r e (is_define c) refl }
  where
    n : Plain
    n = changed c m

    frame : Framed m n
    frame = framed m c k old.trackers old.generators

    carry : (d u : ℕ) → IsUnitIn m d u → IsUnitIn n d u
    carry = unit_carried m s c h g k frame.carried

    last_unit : (p : Defines m n) → IsUnitIn n p.d (length m.units)
    last_unit p = (
      new_unit p.t p.v p.found,
      ap (λ us. slice_get us (length m.units)) p.units ∙ (ap (slice_get (defined p.d p.t p.v p.found m).units) (sym (numbered_length (without_replaced m.rows p.found) 0 m.units)) ∙ pushed_last (numbered (without_replaced m.rows p.found) 0 m.units) (new_unit p.t p.v p.found)),
      frame.carried p.d p.t p.home,
    )

    units : (u : ℕ) (y : UnitRow) → slice_get n.units u ≡ Some y → (d : ℕ) × IsUnitIn n d u
    units u y e = split (change_fields m c u y e)
      where
        by_new : slice_get m.units u ≡ None → Defines m n ⊎ (n ≡ m) → (d : ℕ) × IsUnitIn n d u
        by_new none (inr same) = none_there (slice_get m.units u) y none (ap (λ (z : Plain). slice_get z.units u) (sym same) ∙ e)
        by_new none (inl p) = by_place (pushed_cases (numbered (without_replaced m.rows p.found) 0 m.units) (new_unit p.t p.v p.found) u y (ap (λ us. slice_get us u) (sym p.units) ∙ e))
          where
            by_place : (slice_get (numbered (without_replaced m.rows p.found) 0 m.units) u ≡ Some y) ⊎ ((u ≡ length (numbered (without_replaced m.rows p.found) 0 m.units)) × (y ≡ new_unit p.t p.v p.found)) → (d : ℕ) × IsUnitIn n d u
            by_place (inl a) = let x = numbered_parts (without_replaced m.rows p.found) m.units u y a in none_there (slice_get m.units u) x.0 none x.1
            by_place (inr a) = (p.d, subst (IsUnitIn n p.d) (sym (a.0 ∙ numbered_length (without_replaced m.rows p.found) 0 m.units)) (last_unit p))

        split : ((x : UnitRow) × (slice_get m.units u ≡ Some x) × HasFields m c u x y) ⊎ IsNew m c u y → (d : ℕ) × IsUnitIn n d u
        split (inl p) = let q = old.units u p.0 p.1 in (q.0, carry q.0 u q.1)
        split (inr p) = by_new p.1 (defines m c p.0 k old.generators)

    by_kind : (i : ℕ) (r : InstRow) → slice_get n.rows i ≡ Some r → (b : Bool) → is_define c ≡ b → IsUnitIn n r.dylib.0 r.unit.0
    by_kind i r e false other = let q = row_was m s c other h g i r e in
        subst (λ (d : DylibId). IsUnitIn n d.0 r.unit.0) (sym q.2.dylib) (subst (λ (u : UnitId). IsUnitIn n q.0.dylib.0 u.0) (sym q.2.unit) (carry q.0.dylib.0 q.0.unit.0 (old.rows i q.0 q.1)))
    by_kind i r e true is = by_change (defines m c is k old.generators)
      where
        by_change : Defines m n ⊎ (n ≡ m) → IsUnitIn n r.dylib.0 r.unit.0
        by_change (inr same) = carry r.dylib.0 r.unit.0 (old.rows i r (ap (λ (z : Plain). slice_get z.rows i) (sym same) ∙ e))
        by_change (inl p) = by_place (appended_cases (numbered (unreplaced_row p.found) 0 m.rows) (new_rows p.d (length m.units) 0 p.v.offers p.found) i r (ap (λ rs. slice_get rs i) (sym p.rows) ∙ e))
          where
            by_place : (slice_get (numbered (unreplaced_row p.found) 0 m.rows) i ≡ Some r) ⊎ ((j : ℕ) × (i ≡ length (numbered (unreplaced_row p.found) 0 m.rows) + j) × (slice_get (new_rows p.d (length m.units) 0 p.v.offers p.found) j ≡ Some r)) → IsUnitIn n r.dylib.0 r.unit.0
            by_place (inl a) = let q = numbered_parts (unreplaced_row p.found) m.rows i r a in
                subst (λ (z : InstRow). IsUnitIn n z.dylib.0 z.unit.0) (sym q.2) (carry q.0.dylib.0 q.0.unit.0 (old.rows i q.0 q.1))
            by_place (inr a) =
                subst (λ d. IsUnitIn n d r.unit.0) (sym (new_rows_dylib p.d (length m.units) 0 p.v.offers p.found a.0 r a.2))
                (subst (IsUnitIn n p.d) (sym (new_rows_unit p.d (length m.units) 0 p.v.offers p.found a.0 r a.2)) (last_unit p))

-- Settling

pub settled_frame : (m : Plain) → SameFrame m (settled m)
settled_frame m = settling_keeps (SameFrame m) (λ v k q n s w b d. record { dylibs = s.dylibs; trackers = s.trackers; generators = s.generators }) 0 m.queries m (same_frame m)

homed_settled : (m : Plain) → IsHomed m → IsHomed (settled m)
homed_settled m old = record {
  trackers = frame.trackers;
  generators = frame.generators;
  units = λ u y e. let x = settled_fields m u y e in let d = old.units u x.0 x.1 in (d.0, carry d.0 u d.1);
  rows = λ i r e. carry r.dylib.0 r.unit.0 (old.rows i r (ap (λ rs. slice_get rs i) (sym (settled_rows m)) ∙ e));
}
  where
    frame : Framed m (settled m)
    frame = framed_same m (settled m) (settled_frame m) old.trackers old.generators

    carry : (d u : ℕ) → IsUnitIn m d u → IsUnitIn (settled m) d u
    carry d u p =
        let y = settled_there m u p.0 p.1 in
        let x = settled_fields m u y.0 y.1 in
        (y.0, y.1, subst (IsTrackerIn (settled m) d) (sym (x.2.tracker ∙ ap (λ (z : UnitRow). z.tracker) (same_element (slice_get m.units u) x.0 p.0 x.1 p.1))) (frame.carried d p.0.tracker p.2))

-- Along a history

homed_after : (jmax : ℕ) (h : List (Entry Meaning)) (e : Entry Meaning) → OneMore jmax h e → IsHomed (state h) → IsHomed (state (h ++ e ∷ []))
homed_after jmax h e one old =
    let c = change_of (state h) e.seat.0 e.event e.reply in
    let p = homed_settled (changed c (state h)) (homed_changed (state h) e.seat.0 c one.sound one.guard (home_guard jmax h (state h) e.seat.0 e.event e.reply one.answers) old) in
    subst IsHomed (sym (state_from_push empty h e)) (record { trackers = p.trackers; generators = p.generators; units = p.units; rows = p.rows })

empty_homed : IsHomed empty
empty_homed = record { trackers = λ t x e. absurd (none-some x e); generators = λ k g e. absurd (none-some g e); units = λ u x e. absurd (none-some x e); rows = λ i r e. absurd (none-some r e) }

pub rows_have_homes : RowsHaveHomes
rows_have_homes jmax h l = record {
  rows = λ i r e. let p = homed.rows i r e in record {
    dylib = below r.dylib.0 p.0.tracker p.2;
    unit = element_below (state h).units r.unit.0 p.0 p.1;
    tracker = λ x t. subst (λ (z : UnitRow). IsTrackerIn (state h) r.dylib.0 z.tracker) (same_element (slice_get (state h).units r.unit.0) p.0 x p.1 t) p.2;
  };
  generators = λ k g e. let p = homed.generators k g e in record { dylib = below g.dylib g.tracker p; tracker = p };
  units = λ u x e. let p = homed.units u x e in (p.1.2.0, ap (λ (z : UnitRow). slice_get (state h).trackers z.tracker) (same_element (slice_get (state h).units u) x p.1.0 e p.1.1) ∙ p.1.2.1);
  trackers = homed.trackers;
}
  where
    homed : IsHomed (state h)
    homed = kept_along jmax (λ g. IsHomed (state g)) (homed_after jmax) [] h l empty_homed

    below : (d t : ℕ) → IsTrackerIn (state h) d t → d < length (state h).dylibs
    below d t p = subst (λ k. k < length (state h).dylibs) p.2 (homed.trackers t p.0 p.1)
