-- A generator that isn't spent has a tracker that isn't gone.
use Rattle.std.proofs.Common.{◌≡◌, ℕ, Bool, true, false, ◌==◌, map, List, [], ◌∷◌, ◌++◌, length, slice_get, ◌⊎◌, inl, inr, subst, sym, refl, ap, ◌∙◌, Option, Some, None}
use Rattle.std.specs.Prelude.{◌&&◌, not}
use Rattle.std.specs.Bool.{if◌then◌else◌}
use Rattle.std.specs.Option.{option_map_or}
use Rattle.std.proofs.lemmas.Bool.{both_ways, or_parts, eq-eqb, and_from}
use Rattle.std.proofs.lemmas.Option.{none-some}
use Rattle.session_model.specs.Lists.{changed_at}
use Rattle.session_model.specs.Change.{change_of, changed, settled, defined, spent, resolved_row, resolved_unit, spent_generator, moved_unit, moved_generator, removed_generator, gone_tracker}
use Rattle.session_model.specs.Meaning.{Meaning}
use Rattle.session_model.specs.Plain.{Plain, UnitRow, GenRow, empty}
use Rattle.session_model.specs.State.{state}
use Rattle.session_model.specs.declared.change.Change.{Change}
use Rattle.session_model.specs.declared.change.Change.TheVariants.{Nothing, MakeDylib, MakeTracker, SetOrder, Attach, Define, Generate, Spend, Ask, Start, Finish, Place, Resolve, Link, Emit, Fail, Move, Remove, LetGo}
use Rattle.session_model.specs.declared.entry.Entry.{Entry}
use Rattle.session_model.specs.declared.rows.Track.{Track}
use Rattle.session_model.specs.declared.rows.Verdict.{Verdict}
use Rattle.session_laws.proofs.Declared.{state_from_push, same_element, front_some, changed_cases, changed_elsewhere, mapped_parts, pushed_cases, chosen}
use Rattle.closure_laws.proofs.Histories.{OneMore, kept_along}
use Rattle.closure_laws.proofs.HomeGuards.{HomeGuard, home_guard}
use Rattle.closure_laws.proofs.Homing.{SameFrame, same_frame, claims_frame, settled_frame, rows_have_homes}
use Rattle.closure_laws.specs.Homes.{UnspentHaveTrackers}

-- a tracker of a list, not gone
abbrev HasUngone : List Track → ℕ → Type 0
HasUngone ts t = (x : Track) × (slice_get ts t ≡ Some x) × (x.gone ≡ false)

abbrev AreTracked : List Track → List GenRow → Type 0
AreTracked ts gs = (g : ℕ) (x : GenRow) → slice_get gs g ≡ Some x → x.spent ≡ false → HasUngone ts x.tracker

-- the trackers and generators of the session
abbrev HasTracked : Plain → Type 0
HasTracked m = AreTracked m.trackers m.generators

tracked_same : (m n : Plain) → SameFrame m n → HasTracked m → HasTracked n
tracked_same m n s a = subst (λ gs. AreTracked n.trackers gs) (sym s.generators) (subst (λ ts. AreTracked ts m.generators) (sym s.trackers) a)

-- one more tracker
made_tracked : (ts : List Track) (x : Track) (gs : List GenRow) → AreTracked ts gs → AreTracked (ts ++ x ∷ []) gs
made_tracked ts x gs a g y e n = let p = a g y e n in (p.0, front_some ts (x ∷ []) y.tracker p.0 p.1, p.2)

attached_tracked : (ts : List Track) (gs : List GenRow) (x : GenRow) → HasUngone ts x.tracker → AreTracked ts gs → AreTracked ts (gs ++ x ∷ [])
attached_tracked ts gs x there a g y e n = split (pushed_cases gs x g y e)
  where
    split : (slice_get gs g ≡ Some y) ⊎ ((g ≡ length gs) × (y ≡ x)) → HasUngone ts y.tracker
    split (inl p) = a g y p n
    split (inr p) = subst (λ (z : GenRow). HasUngone ts z.tracker) (sym p.1) there

spent_tracked : (ts : List Track) (gs : List GenRow) (v : ℕ) → AreTracked ts gs → AreTracked ts (changed_at v spent_generator gs)
spent_tracked ts gs v a g x e n = split (changed_cases v spent_generator gs g x e)
  where
    split : ((g ≡ v) × ((y : GenRow) × (slice_get gs g ≡ Some y) × (x ≡ spent_generator y))) ⊎ ((g ≡ v → ⊥) × (slice_get gs g ≡ Some x)) → HasUngone ts x.tracker
    split (inl p) = absurd (both_ways x.spent n (ap (λ (z : GenRow). z.spent) p.1.2))
    split (inr p) = a g x p.1 n

generated_tracked : (m : Plain) (k : ℕ) (found : List Verdict) → HasTracked m → HasTracked (option_map_or (λ x. spent k (defined x.dylib x.tracker x.meaning found m)) (slice_get m.generators k) m)
generated_tracked m k found a = split (slice_get m.generators k)
  where
    split : (o : Option GenRow) → HasTracked (option_map_or (λ x. spent k (defined x.dylib x.tracker x.meaning found m)) o m)
    split None = a
    split (Some x) = spent_tracked m.trackers m.generators k a

-- another tracker goes
still_ungone : (ts : List Track) (t k : ℕ) → (k ≡ t → ⊥) → HasUngone ts k → HasUngone (changed_at t gone_tracker ts) k
still_ungone ts t k apart p = (p.0, changed_elsewhere t gone_tracker ts k apart ∙ p.1, p.2)

moved_tracked : (ts : List Track) (gs : List GenRow) (t to : ℕ) → (to ≡ t → ⊥) → HasUngone ts to → AreTracked ts gs → AreTracked (changed_at t gone_tracker ts) (map (moved_generator t to) gs)
moved_tracked ts gs t to apart there a g x e n =
    let p = mapped_parts (moved_generator t to) gs g x e in
    subst (λ (z : GenRow). HasUngone (changed_at t gone_tracker ts) z.tracker) (sym p.2) (by_tracker p.0 (a g p.0 p.1 (sym (ap (λ (z : GenRow). z.spent) p.2) ∙ n)) (p.0.tracker == t) refl)
  where
    by_tracker : (y : GenRow) → HasUngone ts y.tracker → (c : Bool) → (y.tracker == t) ≡ c → HasUngone (changed_at t gone_tracker ts) (if c then to else y.tracker)
    by_tracker y q true is = still_ungone ts t to apart there
    by_tracker y q false is = still_ungone ts t y.tracker (λ same. both_ways (y.tracker == t) is (eq-eqb y.tracker t same)) q

removed_tracked : (ts : List Track) (gs : List GenRow) (t : ℕ) → AreTracked ts gs → AreTracked (changed_at t gone_tracker ts) (map (removed_generator t) gs)
removed_tracked ts gs t a g x e n =
    let p = mapped_parts (removed_generator t) gs g x e in
    let was = or_parts p.0.spent (p.0.tracker == t) (sym (ap (λ (z : GenRow). z.spent) p.2) ∙ n) in
    subst (λ (z : GenRow). HasUngone (changed_at t gone_tracker ts) z.tracker) (sym p.2)
    (still_ungone ts t p.0.tracker (λ same. both_ways (p.0.tracker == t) was.1 (eq-eqb p.0.tracker t same)) (a g p.0 p.1 was.0))

tracked : (m : Plain) (c : Change Meaning) → HomeGuard m c → HasTracked m → HasTracked (changed c m)
tracked m Nothing g a = a
tracked m (MakeDylib name) g a = a
tracked m (MakeTracker d) g a = made_tracked m.trackers (record { dylib = d.0; gone = false }) m.generators a
tracked m (SetOrder d order) g a = a
tracked m (Attach d t u) g a = attached_tracked m.trackers m.generators (record { dylib = d.0; tracker = t.0; meaning = u; spent = false }) g.1 a
tracked m (Define d t u found) g a = a
tracked m (Generate k found) g a = generated_tracked m k.0 found a
tracked m (Spend k) g a = spent_tracked m.trackers m.generators k.0 a
tracked m (Ask found lev n) g a = let s = claims_frame m found m (same_frame m) in tracked_same m (changed (Ask found lev n) m) (record { dylibs = s.dylibs; trackers = s.trackers; generators = s.generators }) a
tracked m (Start t u) g a = a
tracked m (Finish t u how) g a = a
tracked m (Place u base) g a = a
tracked m (Resolve u) g a = split (slice_get m.units u.0)
  where
    split : (o : Option UnitRow) → HasTracked (option_map_or (λ (x : UnitRow). record m { rows = map (resolved_row u.0 (resolved_unit x)) m.rows; units = changed_at u.0 resolved_unit m.units }) o m)
    split None = a
    split (Some x) = a
tracked m (Link u found) g a = let s = claims_frame m found m (same_frame m) in tracked_same m (changed (Link u found) m) (record { dylibs = s.dylibs; trackers = s.trackers; generators = s.generators }) a
tracked m (Emit u groups) g a = a
tracked m (Fail u) g a = a
tracked m (Move t to) g a = chosen HasTracked (t.0 == to.0) m (record m { units = map (moved_unit t.0 to.0) m.units; generators = map (moved_generator t.0 to.0) m.generators; trackers = changed_at t.0 gone_tracker m.trackers })
    (λ e. a) (λ e. moved_tracked m.trackers m.generators t.0 to.0 (λ same. both_ways (t.0 == to.0) e (eq-eqb t.0 to.0 (sym same))) g.3 a)
tracked m (Remove t) g a = removed_tracked m.trackers m.generators t.0 a
tracked m (LetGo t u) g a = a

tracked_after : (jmax : ℕ) (h : List (Entry Meaning)) (e : Entry Meaning) → OneMore jmax h e → HasTracked (state h) → HasTracked (state (h ++ e ∷ []))
tracked_after jmax h e one old =
    let c = change_of (state h) e.seat.0 e.event e.reply in
    let n = changed c (state h) in
    let p = tracked_same n (settled n) (settled_frame n) (tracked (state h) c (home_guard jmax h (state h) e.seat.0 e.event e.reply one.answers) old) in
    subst HasTracked (sym (state_from_push empty h e)) p

pub unspent_have_trackers : UnspentHaveTrackers
unspent_have_trackers jmax h l g x e n = split (kept_along jmax (λ past. HasTracked (state past)) (tracked_after jmax) [] h l (λ k y there. absurd (none-some y there)) g x e n) ((rows_have_homes jmax h l).generators g x e).tracker
  where
    split : HasUngone (state h).trackers x.tracker → (y : Track) × (slice_get (state h).trackers x.tracker ≡ Some y) × (y.dylib ≡ x.dylib) → option_map_or (λ (z : Track). not z.gone && z.dylib == x.dylib) (slice_get (state h).trackers x.tracker) false ≡ true
    split p q = ap (λ o. option_map_or (λ (z : Track). not z.gone && z.dylib == x.dylib) o false) p.1
        ∙ and_from (not p.0.gone) (p.0.dylib == x.dylib) (ap not p.2) (eq-eqb p.0.dylib x.dylib (ap (λ (z : Track). z.dylib) (same_element (slice_get (state h).trackers x.tracker) p.0 q.0 p.1 q.1) ∙ q.2))
