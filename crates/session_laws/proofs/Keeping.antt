-- Other seats leave a held unit as it is, but for a removal.
use Rattle.session_laws.proofs.Living.{unreplaced_at, live_kept}
use Rattle.session_model.specs.Change.{verdicts, unreplaced_row, new_unit, linked, claimed_row, listed_unit, started_unit, finishing_unit, placed_unit, resolved_unit, resolved_row, waiting_unit, emitted_row, done_unit, failed_unit, removed_unit, moved_unit, moved_generator, gone_tracker, let_go_unit, linked_unit}
use Rattle.session_model.specs.declared.rows.Verdict.{Verdict}
use Rattle.session_laws.specs.Sound.{row_stage}
use Rattle.session_laws.proofs.RowStages.{held_row, unclaimed_row, linkable_held, resolvable_held}
use Rattle.session_laws.proofs.Facts.{held_alive}
use Rattle.std.proofs.Common.{◌≡◌, ℕ, suc, ◌+◌, Bool, true, false, not, ◌&&◌, ◌==◌, nat_eq, map, List, [], ◌∷◌, ◌++◌, length, slice_get, ◌⊎◌, inl, inr, subst, sym, refl, ap, ◌∙◌, Option, Some, None, option_map, is_some, unwrap_or}
use Rattle.std.specs.Bool.{if◌then◌else◌}
use Rattle.std.specs.Option.{option_map_or}
use Rattle.std.proofs.lemmas.Bool.{both_ways, cases_Bool, cases_eq, ne_eqb, and_parts, and_left, and_right, false_from_ne_true}
use Rattle.std.proofs.lemmas.Option.{same_Some}
use Rattle.orc_ids.specs.declared.ids.InstId.{InstId}
use Rattle.session_model.specs.Lists.{changed_at, numbered}
use Rattle.session_model.specs.Plain.{Plain, UnitRow, GenRow, is_unsearched, is_emitted, is_defunct, is_owned}
use Rattle.session_model.specs.Reach.{is_hit, is_ready}
use Rattle.session_model.specs.declared.rows.InstRow.{InstRow}
use Rattle.session_model.specs.declared.rows.Phase.{Phase}
use Rattle.session_model.specs.declared.rows.Phase.TheVariants as phase
use Rattle.session_model.specs.declared.rows.UnitPhase.TheVariants as stage
use Rattle.std.proofs.Common.{arith}
use Rattle.list_laws.proofs.Bools.{and_kept}
use Rattle.session_model.specs.Plain.{phase_address}
use Rattle.session_model.specs.Change.{deps_in, hits_failed, tracker_roots, is_unit_of, settled, finish_listed, waits_for, claimed}
use Rattle.session_model.specs.Plain.{is_owned_at}
use Rattle.session_laws.proofs.Elements.{map_parts, changed_some, changed_elsewhere, same_element, numbered_at, mapped_at, numbered_parts, mapped_some}
use Rattle.session_laws.proofs.Facts.{test_is, held_unemitted, unsearched_unclaimed, hit_emitted}
use Rattle.session_laws.proofs.Settling.{chosen}
use Rattle.session_laws.specs.Sound.{row_stage, IsSound, fits, is_held_phase, AllMatched}
use Rattle.session_model.specs.Meaning.{Meaning}
use Rattle.session_model.specs.Query.{is_met}
use Rattle.session_model.specs.Change.{is_replaced, new_rows, without_replaced, defined, all_claimed}
use Rattle.session_laws.proofs.Changes.{sound_linked}
use Rattle.session_laws.proofs.Elements.{appended_cases, front_some, numbered_some}
use Rattle.session_laws.proofs.Settling.{settling_keeps}
use Rattle.session_model.specs.Change.{change_of, changed}
use Rattle.session_model.specs.declared.change.Change.{Change}
use Rattle.session_model.specs.declared.change.Change.TheVariants.{Nothing, MakeDylib, MakeTracker, SetOrder, Attach, Define, Generate, Spend, Ask, Start, Finish, Place, Resolve, Link, Emit, Fail, Move, Remove, LetGo}
use Rattle.session_model.specs.Answer.{Answers}
use Rattle.session_model.specs.declared.entry.Entry.{Entry}
use Rattle.session_laws.proofs.Defining.{IsHere}
use Rattle.session_laws.proofs.Replies.{Guard}
use Rattle.session_model.specs.Plain.{empty}
use Rattle.session_model.specs.State.{after, state, state_from}
use Rattle.session_model.specs.History.{LegalFrom}
use Rattle.session_model.specs.Change.{emitted, removed, spent}
use Rattle.session_laws.proofs.Guards.{guard_of}
use Rattle.session_laws.proofs.Defining.{claims_keep, claim_sound}
use Rattle.session_laws.proofs.Along.{prefixes_legal}
use Rattle.session_laws.proofs.Invariant.{sound_after, legal_is_sound, good_here}
use Rattle.session_laws.proofs.Settling.{settled_rows}
use Rattle.session_laws.proofs.Elements.{numbered_some}
use Rattle.session_model.specs.Plain.{phase_address}
use Rattle.session_laws.proofs.Readying.{state_from_joined, legal_rest}
use Rattle.session_laws.proofs.Defining.{waiting_parts}
use Rattle.session_laws.proofs.Invariant.{claims_leave, sound_changed}
use Rattle.session_laws.proofs.Defining.{new_rows_unit}
use Rattle.session_laws.proofs.Elements.{element_below}
use Rattle.session_laws.proofs.Rising.{start_listed, finish_linked}
use Rattle.session_laws.proofs.Losing.{unit_of_is}
use Rattle.session_laws.specs.Holding.{OwnSame, IsKept, AllOthers, HeldStays, GoneStaysHeld}
use Rattle.session_model.specs.declared.rows.Query.{Query}

-- A definition

-- The instances of a held unit

-- what is known of a unit that is held, and not gone
pub record IsBusy (m : Plain) (t u : ℕ) (x : UnitRow) : Type 0 where
  pub sound : IsSound m
  pub there : slice_get m.units u ≡ Some x
  pub seat : x.seat ≡ Some t
  pub alive : is_defunct x.phase ≡ false

busy_phase : (m : Plain) (t u : ℕ) (x : UnitRow) → IsBusy m t u x → is_held_phase x.phase ≡ true
busy_phase m t u x b = sym ((b.sound.units_fit u x b.there).seat b.alive) ∙ ap is_some b.seat

busy_fits : (m : Plain) (t u : ℕ) (x : UnitRow) (i : ℕ) (r : InstRow) → IsBusy m t u x → slice_get m.rows i ≡ Some r → r.present ≡ true → r.unit.0 ≡ u → fits (row_stage x) r.phase ≡ true
busy_fits m t u x i r b e p is = let y = (b.sound.rows_fit i r e).here p in
    subst (λ (z : UnitRow). fits (row_stage z) r.phase ≡ true) (same_element (slice_get m.units u) y.0 x (sym (ap (slice_get m.units) is) ∙ y.1) b.there) y.2

busy_unemitted : (m : Plain) (t u : ℕ) (x : UnitRow) (i : ℕ) (r : InstRow) → IsBusy m t u x → slice_get m.rows i ≡ Some r → r.present ≡ true → r.unit.0 ≡ u → is_emitted r.phase ≡ false
busy_unemitted m t u x i r b e p is = held_unemitted (row_stage x) r.phase (held_row x (busy_phase m t u x b)) (busy_fits m t u x i r b e p is)

-- another unit is changed
busy_apart : (m : Plain) (t u : ℕ) (x : UnitRow) (v : ℕ) (y : UnitRow) → IsBusy m t u x → slice_get m.units v ≡ Some y → (y.seat ≡ Some t → is_defunct y.phase ≡ false → ⊥) → u ≡ v → ⊥
busy_apart m t u x v y b e n is = let same = same_element (slice_get m.units v) x y (ap (slice_get m.units) (sym is) ∙ b.there) e in
    n (ap (λ (z : UnitRow). z.seat) (sym same) ∙ b.seat) (ap (λ (z : UnitRow). is_defunct z.phase) (sym same) ∙ b.alive)

-- a unit at a phase without a holder
unheld_apart : (m : Plain) (t u : ℕ) (x : UnitRow) (v : ℕ) (y : UnitRow) → IsBusy m t u x → slice_get m.units v ≡ Some y → is_held_phase y.phase ≡ false → u ≡ v → ⊥
unheld_apart m t u x v y b e n = busy_apart m t u x v y b e (λ s d. both_ways (is_some y.seat) ((b.sound.units_fit v y e).seat d ∙ n) (ap is_some s))

-- a unit of another seat
other_apart : (m : Plain) (s t u : ℕ) (x : UnitRow) (v : ℕ) (y : UnitRow) → (s ≡ t → ⊥) → IsBusy m t u x → slice_get m.units v ≡ Some y → y.seat ≡ Some s → u ≡ v → ⊥
other_apart m s t u x v y apart b e h = busy_apart m t u x v y b e (λ k d. apart (same_Some s t (sym h ∙ k)))

own_same : (rows : List InstRow) (u : ℕ) → OwnSame rows rows u
own_same rows u i r p is = (λ e. e, λ e. e)

own_mapped : (rows new : List InstRow) (g : ℕ → InstRow → InstRow) (u : ℕ) → ((i : ℕ) → slice_get new i ≡ option_map (g i) (slice_get rows i)) →
    ((i : ℕ) (r : InstRow) → slice_get rows i ≡ Some r → r.present ≡ true → r.unit.0 ≡ u → g i r ≡ r) →
    ((i : ℕ) (r : InstRow) → (g i r).present ≡ true → (g i r).unit.0 ≡ u → (r.present ≡ true) × (r.unit.0 ≡ u)) → OwnSame rows new u
own_mapped rows new g u at keeps back i r p is = (λ e. at i ∙ (ap (option_map (g i)) e ∙ ap Some (keeps i r e p is)), from)
  where
    from : slice_get new i ≡ Some r → slice_get rows i ≡ Some r
    from e = let q = map_parts (g i) (slice_get rows i) r (sym (at i) ∙ e) in
        let b = back i q.0 (ap (λ (y : InstRow). y.present) (sym q.2) ∙ p) (ap (λ (y : InstRow). y.unit.0) (sym q.2) ∙ is) in
        q.1 ∙ ap Some (sym (q.2 ∙ keeps i q.0 q.1 b.0 b.1))

-- instances of the unit don't pass the test of a new phase
own_rephased : (rows new : List InstRow) (test : ℕ → InstRow → Bool) (next : ℕ → InstRow → Phase) (u : ℕ) → ((i : ℕ) → slice_get new i ≡ option_map (λ (r : InstRow). record r { phase = if test i r then next i r else r.phase }) (slice_get rows i)) →
    ((i : ℕ) (r : InstRow) → slice_get rows i ≡ Some r → r.present ≡ true → r.unit.0 ≡ u → test i r ≡ false) → OwnSame rows new u
own_rephased rows new test next u at fails = own_mapped rows new (λ i r. record r { phase = if test i r then next i r else r.phase }) u at
    (λ i r e p is. ap (λ b. record r { phase = if b then next i r else r.phase }) (fails i r e p is)) (λ i r p is. (p, is))

-- another unit's instances
unowned : (u v : ℕ) (r : InstRow) → (u ≡ v → ⊥) → r.unit.0 ≡ u → is_owned v r ≡ false
unowned u v r apart is = and_right r.present (r.unit.0 == v) (ne_eqb r.unit.0 v (λ e. apart (sym is ∙ e)))

-- the unit itself stays
kept_apart : (m n : Plain) (u v : ℕ) (x : UnitRow) (f : UnitRow → UnitRow) (units : List UnitRow) → slice_get units u ≡ Some x → n.units ≡ changed_at v f units → (u ≡ v → ⊥) → OwnSame m.rows n.rows u → IsKept m n u x
kept_apart m n u v x f units t e apart own = record { unit = x; there = ap (λ l. slice_get l u) e ∙ (changed_elsewhere v f units u apart ∙ t); seat = refl; how = inr (refl, own) }

kept_same : (m n : Plain) (u : ℕ) (x : UnitRow) → slice_get n.units u ≡ Some x → OwnSame m.rows n.rows u → IsKept m n u x
kept_same m n u x t own = record { unit = x; there = t; seat = refl; how = inr (refl, own) }

-- The changes

defined_kept : (m : Plain) (d k : ℕ) (v : Meaning) (t u : ℕ) (x : UnitRow) → IsBusy m t u x → IsKept m (defined d k v (verdicts m.rows d v.offers) m) u x
defined_kept m d k v t u x b = record {
  unit = without_replaced m.rows (verdicts m.rows d v.offers) u x;
  there = front_some (numbered (without_replaced m.rows (verdicts m.rows d v.offers)) 0 m.units) (new_unit k v (verdicts m.rows d v.offers) ∷ []) u (without_replaced m.rows (verdicts m.rows d v.offers) u x) (numbered_some (without_replaced m.rows (verdicts m.rows d v.offers)) m.units u x b.there);
  seat = refl;
  how = inr (live_kept m d v.offers u x b.sound b.there asked, own);
}
  where
    vs : List Verdict
    vs = verdicts m.rows d v.offers

    g : ℕ → InstRow → InstRow
    g = unreplaced_row (verdicts m.rows d v.offers)

    asked : x.phase ≡ stage.Unclaimed → ⊥
    asked e = both_ways (is_held_phase x.phase) (ap is_held_phase e) (busy_phase m t u x b)

    own : OwnSame m.rows (defined d k v vs m).rows u
    own i r p is = (to, from)
      where
        same : (q : InstRow) → slice_get m.rows i ≡ Some q → q.unit.0 ≡ u → g i q ≡ q
        same q e w = ap (λ c. record q { present = c }) (and_kept q.present (is_replaced vs i) (unreplaced_at m d v.offers u x i q b.sound b.there asked e w))

        to : slice_get m.rows i ≡ Some r → slice_get (defined d k v vs m).rows i ≡ Some r
        to e = front_some (numbered g 0 m.rows) (new_rows d (length m.units) 0 v.offers vs) i r (numbered_some g m.rows i r e ∙ ap Some (same r e is))

        from : slice_get (defined d k v vs m).rows i ≡ Some r → slice_get m.rows i ≡ Some r
        from e = split (appended_cases (numbered g 0 m.rows) (new_rows d (length m.units) 0 v.offers vs) i r e)
          where
            split : (slice_get (numbered g 0 m.rows) i ≡ Some r) ⊎ ((j : ℕ) × (i ≡ length (numbered g 0 m.rows) + j) × (slice_get (new_rows d (length m.units) 0 v.offers vs) j ≡ Some r)) → slice_get m.rows i ≡ Some r
            split (inl a) = let q = numbered_parts g m.rows i r a in q.1 ∙ ap Some (sym (q.2 ∙ same q.0 q.1 (ap (λ (y : InstRow). y.unit.0) (sym q.2) ∙ is)))
            split (inr a) = absurd (omega (arith, element_below m.units u x b.there, is, new_rows_unit d (length m.units) 0 v.offers vs a.0 r a.2))

claim_kept : (i : ℕ) (r : InstRow) (n : Plain) (t u : ℕ) (x : UnitRow) → IsBusy n t u x → slice_get n.rows i ≡ Some r → r.present ≡ true → is_unsearched r.phase ≡ true → (slice_get (claimed r.unit.0 n).units u ≡ Some x) × OwnSame n.rows (claimed r.unit.0 n).rows u
claim_kept i r n t u x b e present unsearched = (
  changed_elsewhere r.unit.0 listed_unit n.units u apart ∙ b.there,
  own_rephased n.rows (claimed r.unit.0 n).rows (λ j q. is_owned r.unit.0 q && is_unsearched q.phase) (λ j q. phase.Claimed) u
      (λ j. mapped_at (claimed_row r.unit.0) n.rows j)
      (λ j q f p is. and_left (is_owned r.unit.0 q) (is_unsearched q.phase) (unowned u r.unit.0 q apart is)),
)
  where
    y : (y : UnitRow) × (slice_get n.units r.unit.0 ≡ Some y) × (fits (row_stage y) r.phase ≡ true)
    y = (b.sound.rows_fit i r e).here present

    apart : u ≡ r.unit.0 → ⊥
    apart = unheld_apart n t u x r.unit.0 y.0 b y.1 (ap is_held_phase (unclaimed_row y.0 (unsearched_unclaimed (row_stage y.0) r.phase y.2 unsearched)))

own_again : (rows new newer : List InstRow) (u : ℕ) → OwnSame rows new u → OwnSame new newer u → OwnSame rows newer u
own_again rows new newer u f g i r p is = (λ e. (g i r p is).0 ((f i r p is).0 e), λ e. (f i r p is).1 ((g i r p is).1 e))

claims_kept : (m : Plain) (os : List (Option InstId)) (t u : ℕ) (x : UnitRow) → IsBusy m t u x → AllMatched (IsHere m.rows) os → (slice_get (all_claimed os m).units u ≡ Some x) × OwnSame m.rows (all_claimed os m).rows u
claims_kept m os t u x b here = (claims_keep (λ n. IsSound n × ((slice_get n.units u ≡ Some x) × OwnSame m.rows n.rows u)) step os m here (b.sound, (b.there, own_same m.rows u))).1
  where
    step : (i : ℕ) (r : InstRow) (n : Plain) → IsSound n × ((slice_get n.units u ≡ Some x) × OwnSame m.rows n.rows u) → slice_get n.rows i ≡ Some r → r.present ≡ true → is_unsearched r.phase ≡ true → IsSound (claimed r.unit.0 n) × ((slice_get (claimed r.unit.0 n).units u ≡ Some x) × OwnSame m.rows (claimed r.unit.0 n).rows u)
    step i r n p e present unsearched = let k = claim_kept i r n t u x (record { sound = p.0; there = p.1.0; seat = b.seat; alive = b.alive }) e present unsearched in
        (claim_sound i r n p.0 e present unsearched, (k.0, own_again m.rows n.rows (claimed r.unit.0 n).rows u p.1.1 k.1))

hits_own : (m : Plain) (roots : ℕ → Bool) (t u : ℕ) (x : UnitRow) → IsBusy m t u x → ((i : ℕ) (r : InstRow) → slice_get m.rows i ≡ Some r → r.present ≡ true → r.unit.0 ≡ u → roots i ≡ false) → OwnSame m.rows (hits_failed roots m.rows) u
hits_own m roots t u x b unrooted = own_rephased m.rows (hits_failed roots m.rows) (λ i r. is_hit m.rows roots i) (λ i r. phase.Failed) u
    (numbered_at (λ i (r : InstRow). record r { phase = if is_hit m.rows roots i then phase.Failed else r.phase }) m.rows)
    (λ i r e p is. false_from_ne_true (is_hit m.rows roots i) (λ h. both_ways (is_emitted r.phase) (busy_unemitted m t u x i r b e p is)
    (sym (test_is (λ (y : InstRow). is_emitted y.phase) m.rows i r e) ∙ hit_emitted m.rows roots i h (unrooted i r e p is))))

removed_kept : (m : Plain) (k t u : ℕ) (x : UnitRow) → IsBusy m t u x → IsKept m (removed k m) u x
removed_kept m k t u x b = split (cases_Bool (x.tracker == k))
  where
    f : UnitRow → UnitRow
    f = removed_unit k

    there : slice_get (removed k m).units u ≡ Some (f x)
    there = mapped_some f m.units u x b.there

    split : (x.tracker == k ≡ true) ⊎ (x.tracker == k ≡ false) → IsKept m (removed k m) u x
    split (inl e) = record { unit = f x; there = there; seat = refl; how = inl (ap (λ c. if c then stage.Defunct else x.phase) e) }
    split (inr e) = kept_same m (removed k m) u x (there ∙ ap (λ c. Some (record x { phase = if c then stage.Defunct else x.phase; base = if c then None else x.base })) e)
        (own_again m.rows (hits_failed (tracker_roots m k) m.rows) (removed k m).rows u
        (hits_own m (tracker_roots m k) t u x b (λ i r f p is. ap (λ o. option_map_or (λ (y : InstRow). y.present && is_unit_of m k y.unit.0) o false && not (is_ready m.rows i)) f
        ∙ and_left (r.present && is_unit_of m k r.unit.0) (not (is_ready m.rows i)) (and_right r.present (is_unit_of m k r.unit.0) (ungone r is))))
        (own_mapped (hits_failed (tracker_roots m k) m.rows) (removed k m).rows (λ i r. record r { present = r.present && not (is_unit_of m k r.unit.0) }) u
        (λ i. mapped_at (λ (r : InstRow). record r { present = r.present && not (is_unit_of m k r.unit.0) }) (hits_failed (tracker_roots m k) m.rows) i)
        (λ i r f p is. ap (λ c. record r { present = c }) (and_kept r.present (is_unit_of m k r.unit.0) (ungone r is)))
        (λ i r p is. ((and_parts r.present (not (is_unit_of m k r.unit.0)) p).0, is))))
      where
        ungone : (r : InstRow) → r.unit.0 ≡ u → is_unit_of m k r.unit.0 ≡ false
        ungone r is = ap (is_unit_of m k) is ∙ (unit_of_is m k u x b.there ∙ e)

gone_defined : (m : Plain) (n w : ℕ) (v : Meaning) (vs : List Verdict) (t u : ℕ) (x : UnitRow) → slice_get m.units u ≡ Some x → x.phase ≡ stage.Defunct → x.seat ≡ Some t → (y : UnitRow) × (slice_get (defined n w v vs m).units u ≡ Some y) × (y.phase ≡ stage.Defunct) × (y.seat ≡ Some t)
gone_defined m n w v vs t u x e d k = (without_replaced m.rows vs u x, front_some (numbered (without_replaced m.rows vs) 0 m.units) (new_unit w v vs ∷ []) u (without_replaced m.rows vs u x) (numbered_some (without_replaced m.rows vs) m.units u x e), d, k)

pub change_kept : (m : Plain) (s : ℕ) (c : Change Meaning) (t u : ℕ) (x : UnitRow) → (s ≡ t → ⊥) → IsBusy m t u x → Guard m s c → IsKept m (changed c m) u x
change_kept m s Nothing t u x apart b g = kept_same m m u x b.there (own_same m.rows u)
change_kept m s (MakeDylib name) t u x apart b g = kept_same m (changed (MakeDylib name) m) u x b.there (own_same m.rows u)
change_kept m s (MakeTracker d) t u x apart b g = kept_same m (changed (MakeTracker d) m) u x b.there (own_same m.rows u)
change_kept m s (SetOrder d order) t u x apart b g = kept_same m (changed (SetOrder d order) m) u x b.there (own_same m.rows u)
change_kept m s (Attach d k v) t u x apart b g = kept_same m (changed (Attach d k v) m) u x b.there (own_same m.rows u)
change_kept m s (Define d k v found) t u x apart b g = subst (λ vs. IsKept m (defined d.0 k.0 v vs m) u x) (sym g) (defined_kept m d.0 k.0 v t u x b)
change_kept m s (Generate k found) t u x apart b g = subst (λ vs. IsKept m (changed (Generate k vs) m) u x) (sym g) (split (slice_get m.generators k.0))
  where
    split : (o : Option GenRow) → IsKept m (option_map_or (λ y. spent k.0 (defined y.dylib y.tracker y.meaning (option_map_or (λ (z : GenRow). verdicts m.rows z.dylib z.meaning.offers) o []) m)) o m) u x
    split None = kept_same m m u x b.there (own_same m.rows u)
    split (Some y) = let p = defined_kept m y.dylib y.tracker y.meaning t u x b in record { unit = p.unit; there = p.there; seat = p.seat; how = p.how }
change_kept m s (Spend k) t u x apart b g = kept_same m (changed (Spend k) m) u x b.there (own_same m.rows u)
change_kept m s (Ask found lev n) t u x apart b g = let p = claims_kept m found t u x b (good_here m found g) in
    kept_same m (changed (Ask found lev n) m) u x p.0 p.1
change_kept m s (Start k v) t u x apart b g = let y = start_listed m v.0 g.1 b.sound g.2 in
    kept_apart m (changed (Start k v) m) u v.0 x (started_unit k.0) m.units b.there refl (unheld_apart m t u x v.0 y.0 b y.1 (ap is_held_phase y.2)) (own_same m.rows u)
change_kept m s (Finish k v how) t u x apart b g = let y = finish_linked m v.0 g.1 b.sound g.2 in
    kept_apart m (changed (Finish k v how) m) u v.0 x (finishing_unit k.0 how) m.units b.there refl (unheld_apart m t u x v.0 y.0 b y.1 (ap is_held_phase y.2)) (own_same m.rows u)
change_kept m s (Place v base) t u x apart b g = kept_apart m (changed (Place v base) m) u v.0 x (placed_unit base) m.units b.there refl (other_apart m s t u x v.0 g.0 apart b g.1 g.2) (own_same m.rows u)
change_kept m s (Resolve v) t u x apart b g = subst (λ o. IsKept m (option_map_or (λ (y : UnitRow). record m { rows = map (resolved_row v.0 (resolved_unit y)) m.rows; units = changed_at v.0 resolved_unit m.units }) o m) u x) (sym g.1)
    (kept_apart m (record m { rows = map (resolved_row v.0 (resolved_unit g.0)) m.rows; units = changed_at v.0 resolved_unit m.units }) u v.0 x resolved_unit m.units b.there refl (other_apart m s t u x v.0 g.0 apart b g.1 g.2)
    (own_rephased m.rows (map (resolved_row v.0 (resolved_unit g.0)) m.rows) (λ i r. is_owned v.0 r) (λ i r. phase.Resolved (g.0.meaning.address r.offer (unwrap_or (resolved_unit g.0).base 0))) u
    (λ i. mapped_at (resolved_row v.0 (resolved_unit g.0)) m.rows i)
    (λ i r e p is. unowned u v.0 r (other_apart m s t u x v.0 g.0 apart b g.1 g.2) is)))
change_kept m s (Link v found) t u x apart b g = let p = claims_kept m found t u x b (good_here m found g.3.3) in
    kept_apart m (linked v.0 found m) u v.0 x (waiting_unit (length m.queries)) (all_claimed found m).units p.0 refl (other_apart m s t u x v.0 g.0 apart b g.1 g.2) p.1
change_kept m s (Emit v groups) t u x apart b g = kept_apart m (changed (Emit v groups) m) u v.0 x done_unit m.units b.there refl (other_apart m s t u x v.0 g.0 apart b g.1 g.2)
    (own_rephased m.rows (emitted v.0 groups m).rows (λ i r. is_owned v.0 r) (λ i r. phase.Emitted (unwrap_or (phase_address r.phase) 0) (deps_in groups i)) u
    (numbered_at (emitted_row v.0 groups) m.rows)
    (λ i r e p is. unowned u v.0 r (other_apart m s t u x v.0 g.0 apart b g.1 g.2) is))
change_kept m s (Fail v) t u x apart b g = kept_apart m (changed (Fail v) m) u v.0 x failed_unit m.units b.there refl (other_apart m s t u x v.0 g.0 apart b g.1 g.2)
    (hits_own m (is_owned_at v.0 m.rows) t u x b (λ i r e p is. ap (λ o. option_map_or (is_owned v.0) o false) e ∙ unowned u v.0 r (other_apart m s t u x v.0 g.0 apart b g.1 g.2) is))
change_kept m s (Move k to) t u x apart b g = chosen (λ n. IsKept m n u x) (k.0 == to.0) m (record m { units = map (moved_unit k.0 to.0) m.units; generators = map (moved_generator k.0 to.0) m.generators; trackers = changed_at k.0 gone_tracker m.trackers })
    (λ e. kept_same m m u x b.there (own_same m.rows u))
    (λ e. record { unit = moved_unit k.0 to.0 x; there = mapped_some (moved_unit k.0 to.0) m.units u x b.there; seat = refl; how = inr (refl, own_same m.rows u) })
change_kept m s (Remove k) t u x apart b g = removed_kept m k.0 t u x b
change_kept m s (LetGo k v) t u x apart b g = kept_apart m (changed (LetGo k v) m) u v.0 x (let_go_unit k.0) m.units b.there refl
    (busy_apart m t u x v.0 g.1 b g.2 (λ h d. both_ways (is_defunct g.1.phase) d g.3)) (own_same m.rows u)

-- Settling leaves it too

settled_kept : (m : Plain) (t u : ℕ) (x : UnitRow) → IsBusy m t u x → slice_get (settled m).units u ≡ Some x
settled_kept m t u x b = (settling_keeps (λ n. IsSound n × (slice_get n.units u ≡ Some x)) step 0 m.queries m (b.sound, b.there)).1
  where
    step : (v k : ℕ) (q : Query) (n : Plain) → IsSound n × (slice_get n.units u ≡ Some x) → waits_for n v k ≡ true → is_met n.rows q ≡ true → q.unit ≡ Some v → IsSound (finish_listed v n) × (slice_get (finish_listed v n).units u ≡ Some x)
    step v k q n p w e f = let y = waiting_parts n v k w in (
      sound_linked n.rows n.units n.queries n.jobs v y.0 p.0 y.1 y.2,
      changed_elsewhere v linked_unit n.units u (unheld_apart n t u x v y.0 (record { sound = p.0; there = p.1; seat = b.seat; alive = b.alive }) y.1 (ap is_held_phase y.2)) ∙ p.1,
    )

defunct_settled : (m : Plain) (u : ℕ) (x : UnitRow) → slice_get m.units u ≡ Some x → x.phase ≡ stage.Defunct → slice_get (settled m).units u ≡ Some x
defunct_settled m u x t d = settling_keeps (λ n. slice_get n.units u ≡ Some x) step 0 m.queries m t
  where
    step : (v k : ℕ) (q : Query) (n : Plain) → slice_get n.units u ≡ Some x → waits_for n v k ≡ true → is_met n.rows q ≡ true → q.unit ≡ Some v → slice_get (finish_listed v n).units u ≡ Some x
    step v k q n p w e f = let y = waiting_parts n v k w in
        changed_elsewhere v linked_unit n.units u (λ is.
        let same = same_element (slice_get n.units v) x y.0 (ap (slice_get n.units) (sym is) ∙ p) y.1 in
        let clash : stage.Defunct ≡ stage.Waiting = sym d ∙ (ap (λ (z : UnitRow). z.phase) same ∙ y.2) in cc) ∙ p

pub after_kept : (jmax : ℕ) (past : List (Entry Meaning)) (m : Plain) (e : Entry Meaning) (t u : ℕ) (x : UnitRow) → (e.seat.0 ≡ t → ⊥) → IsBusy m t u x → Answers jmax past m e.seat.0 e.event e.reply → IsKept m (after m e) u x
after_kept jmax past m e t u x apart b a = split kept.how
  where
    c : Change Meaning
    c = change_of m e.seat.0 e.event e.reply

    guard : Guard m e.seat.0 c
    guard = guard_of jmax past m e.seat.0 e.event e.reply a

    kept : IsKept m (changed c m) u x
    kept = change_kept m e.seat.0 c t u x apart b guard

    split : (kept.unit.phase ≡ stage.Defunct) ⊎ ((kept.unit ≡ record x { tracker = kept.unit.tracker }) × OwnSame m.rows (changed c m).rows u) → IsKept m (after m e) u x
    split (inl d) = record { unit = kept.unit; there = defunct_settled (changed c m) u kept.unit kept.there d; seat = kept.seat; how = inl d }
    split (inr p) = record {
      unit = kept.unit;
      there = settled_kept (changed c m) t u kept.unit (record { sound = sound_changed m e.seat.0 c b.sound guard; there = kept.there; seat = ap (λ (y : UnitRow). y.seat) p.0 ∙ b.seat; alive = ap (λ (y : UnitRow). is_defunct y.phase) p.0 ∙ b.alive });
      seat = kept.seat;
      how = inr (p.0, subst (λ rows. OwnSame m.rows rows u) (sym (settled_rows (changed c m))) p.1);
    }

-- A unit that is gone

-- it is there, gone, and held by the seat
abbrev pub IsGone : List UnitRow → ℕ → ℕ → Type 0
IsGone units t u = (y : UnitRow) × (slice_get units u ≡ Some y) × (y.phase ≡ stage.Defunct) × (y.seat ≡ Some t)

-- a unit at another phase is changed
gone_apart : (m : Plain) (u v : ℕ) (x y : UnitRow) (f : UnitRow → UnitRow) (t : ℕ) → slice_get m.units u ≡ Some x → x.phase ≡ stage.Defunct → x.seat ≡ Some t → slice_get m.units v ≡ Some y → is_defunct y.phase ≡ false → IsGone (changed_at v f m.units) t u
gone_apart m u v x y f t e d s k n = (
  x,
  changed_elsewhere v f m.units u (λ is.
      both_ways (is_defunct y.phase) n (ap (λ (z : UnitRow). is_defunct z.phase) (same_element (slice_get m.units v) y x k (ap (slice_get m.units) (sym is) ∙ e)) ∙ ap is_defunct d)) ∙ e,
  d,
  s,
)

gone_claims : (m : Plain) (u : ℕ) (x : UnitRow) (os : List (Option InstId)) → IsSound m → slice_get m.units u ≡ Some x → x.phase ≡ stage.Defunct → AllMatched (IsHere m.rows) os → slice_get (all_claimed os m).units u ≡ Some x
gone_claims m u x os s t d here = claims_leave m u x os s t (λ e. let f : stage.Defunct ≡ stage.Unclaimed = sym d ∙ e in cc) here

change_gone : (m : Plain) (s : ℕ) (c : Change Meaning) (t u : ℕ) (x : UnitRow) → (s ≡ t → ⊥) → IsSound m → slice_get m.units u ≡ Some x → x.phase ≡ stage.Defunct → x.seat ≡ Some t → Guard m s c → IsGone (changed c m).units t u
change_gone m s Nothing t u x apart h e d k g = (x, e, d, k)
change_gone m s (MakeDylib name) t u x apart h e d k g = (x, e, d, k)
change_gone m s (MakeTracker n) t u x apart h e d k g = (x, e, d, k)
change_gone m s (SetOrder n order) t u x apart h e d k g = (x, e, d, k)
change_gone m s (Attach n w v) t u x apart h e d k g = (x, e, d, k)
change_gone m s (Define n w v found) t u x apart h e d k g = gone_defined m n.0 w.0 v found t u x e d k
change_gone m s (Generate n found) t u x apart h e d k g = split (slice_get m.generators n.0)
  where
    split : (o : Option GenRow) → IsGone (option_map_or (λ y. spent n.0 (defined y.dylib y.tracker y.meaning found m)) o m).units t u
    split None = (x, e, d, k)
    split (Some y) = gone_defined m y.dylib y.tracker y.meaning found t u x e d k
change_gone m s (Spend n) t u x apart h e d k g = (x, e, d, k)
change_gone m s (Ask found lev w) t u x apart h e d k g = (x, gone_claims m u x found h e d (good_here m found g), d, k)
change_gone m s (Start w v) t u x apart h e d k g = let y = start_listed m v.0 g.1 h g.2 in gone_apart m u v.0 x y.0 (started_unit w.0) t e d k y.1 (ap is_defunct y.2)
change_gone m s (Finish w v how) t u x apart h e d k g = let y = finish_linked m v.0 g.1 h g.2 in gone_apart m u v.0 x y.0 (finishing_unit w.0 how) t e d k y.1 (ap is_defunct y.2)
change_gone m s (Place v base) t u x apart h e d k g = gone_apart m u v.0 x g.0 (placed_unit base) t e d k g.1 (ap is_defunct g.3.0)
change_gone m s (Resolve v) t u x apart h e d k g = subst (λ o. IsGone (option_map_or (λ (y : UnitRow). record m { rows = map (resolved_row v.0 (resolved_unit y)) m.rows; units = changed_at v.0 resolved_unit m.units }) o m).units t u) (sym g.1)
    (gone_apart m u v.0 x g.0 resolved_unit t e d k g.1 (held_alive g.0.phase (resolvable_held g.0 g.3)))
change_gone m s (Link v found) t u x apart h e d k g = gone_apart (all_claimed found m) u v.0 x g.0 (waiting_unit (length m.queries)) t (gone_claims m u x found h e d here) d k
    (claims_leave m v.0 g.0 found h g.1 (λ a. both_ways (is_held_phase g.0.phase) (ap is_held_phase a) (linkable_held g.0 g.3.0)) here) (held_alive g.0.phase (linkable_held g.0 g.3.0))
  where
    here : AllMatched (IsHere m.rows) found
    here = good_here m found g.3.3
change_gone m s (Emit v groups) t u x apart h e d k g = gone_apart m u v.0 x g.0 done_unit t e d k g.1 (ap is_defunct g.3.0)
change_gone m s (Fail v) t u x apart h e d k g = gone_apart m u v.0 x g.0 failed_unit t e d k g.1 g.3
change_gone m s (Move w to) t u x apart h e d k g = chosen (λ n. IsGone n.units t u) (w.0 == to.0) m (record m { units = map (moved_unit w.0 to.0) m.units; generators = map (moved_generator w.0 to.0) m.generators; trackers = changed_at w.0 gone_tracker m.trackers })
    (λ b. (x, e, d, k)) (λ b. (moved_unit w.0 to.0 x, mapped_some (moved_unit w.0 to.0) m.units u x e, d, k))
change_gone m s (Remove w) t u x apart h e d k g = (
  removed_unit w.0 x,
  mapped_some (removed_unit w.0) m.units u x e,
  chosen (λ p. p ≡ stage.Defunct) (x.tracker == w.0) stage.Defunct x.phase (λ b. refl) (λ b. d),
  k,
)
change_gone m s (LetGo w v) t u x apart h e d k g = split (cases_eq u v.0)
  where
    f : UnitRow → UnitRow
    f = let_go_unit w.0

    other : option_map_or (nat_eq w.0) x.seat false ≡ false
    other = ap (λ o. option_map_or (nat_eq w.0) o false) k ∙ ne_eqb w.0 t (λ i. apart (sym g.0 ∙ i))

    split : (u ≡ v.0) ⊎ (u ≡ v.0 → ⊥) → IsGone (changed_at v.0 f m.units) t u
    split (inl is) = (f x, ap (slice_get (changed_at v.0 f m.units)) is ∙ changed_some v.0 f m.units x (ap (slice_get m.units) (sym is) ∙ e), d, ap (λ b. if b then None else x.seat) other ∙ k)
    split (inr n) = (x, changed_elsewhere v.0 f m.units u n ∙ e, d, k)

after_gone : (jmax : ℕ) (past : List (Entry Meaning)) (m : Plain) (e : Entry Meaning) (t u : ℕ) (x : UnitRow) → (e.seat.0 ≡ t → ⊥) → IsSound m → slice_get m.units u ≡ Some x → x.phase ≡ stage.Defunct → x.seat ≡ Some t → Answers jmax past m e.seat.0 e.event e.reply → IsGone (after m e).units t u
after_gone jmax past m e t u x apart s there d k a =
    let c = change_of m e.seat.0 e.event e.reply in
    let p = change_gone m e.seat.0 c t u x apart s there d k (guard_of jmax past m e.seat.0 e.event e.reply a) in
    (p.0, defunct_settled (changed c m) u p.0 p.1 p.2, p.2, p.3)

gone_from : (jmax : ℕ) (past : List (Entry Meaning)) (m : Plain) (h : List (Entry Meaning)) (t u : ℕ) (x : UnitRow) → IsSound m → LegalFrom jmax past m h → AllOthers t h → slice_get m.units u ≡ Some x → x.phase ≡ stage.Defunct → x.seat ≡ Some t → IsGone (state_from m h).units t u
gone_from jmax past m [] t u x s l o e d k = (x, e, d, k)
gone_from jmax past m (f ∷ fs) t u x s l o e d k =
    let p = after_gone jmax past m f t u x (o 0 f refl) s e d k l.0 in
    gone_from jmax (past ++ f ∷ []) (after m f) fs t u p.0 (sound_after jmax past m f s l.0) l.1 (λ i g. o (suc i) g) p.1 p.2 p.3

pub gone_stays_held : GoneStaysHeld
gone_stays_held jmax h more l s u x t held d o = let p = gone_from jmax h (state h) more s u x (legal_is_sound jmax h ((prefixes_legal jmax h more).0 l)) (legal_rest jmax [] empty h more l) o t d held in
    (p.0, ap (λ m. slice_get m.units u) (state_from_joined empty h more) ∙ p.1, p.2, p.3)

kept_from : (jmax : ℕ) (past : List (Entry Meaning)) (m : Plain) (h : List (Entry Meaning)) (t u : ℕ) (x : UnitRow) → IsBusy m t u x → LegalFrom jmax past m h → AllOthers t h → IsKept m (state_from m h) u x
kept_from jmax past m [] t u x b l o = kept_same m m u x b.there (own_same m.rows u)
kept_from jmax past m (e ∷ es) t u x b l o = split first.how (λ y c. kept_from jmax (past ++ e ∷ []) (after m e) es t u y c l.1 (λ k f. o (suc k) f))
  where
    first : IsKept m (after m e) u x
    first = after_kept jmax past m e t u x (o 0 e refl) b l.0

    sound : IsSound (after m e)
    sound = sound_after jmax past m e b.sound l.0

    split : (first.unit.phase ≡ stage.Defunct) ⊎ ((first.unit ≡ record x { tracker = first.unit.tracker }) × OwnSame m.rows (after m e).rows u) → ((y : UnitRow) → IsBusy (after m e) t u y → IsKept (after m e) (state_from (after m e) es) u y) → IsKept m (state_from (after m e) es) u x
    split (inl d) rest = let p = gone_from jmax (past ++ e ∷ []) (after m e) es t u first.unit sound l.1 (λ k f. o (suc k) f) first.there d (first.seat ∙ b.seat) in
        record { unit = p.0; there = p.1; seat = p.3 ∙ sym b.seat; how = inl p.2 }
    split (inr p) rest = joined (rest first.unit (record { sound = sound; there = first.there; seat = ap (λ (y : UnitRow). y.seat) p.0 ∙ b.seat; alive = ap (λ (y : UnitRow). is_defunct y.phase) p.0 ∙ b.alive }))
      where
        joined : IsKept (after m e) (state_from (after m e) es) u first.unit → IsKept m (state_from (after m e) es) u x
        joined q = record { unit = q.unit; there = q.there; seat = q.seat ∙ first.seat; how = both q.how }
          where
            both : (q.unit.phase ≡ stage.Defunct) ⊎ ((q.unit ≡ record (first.unit) { tracker = q.unit.tracker }) × OwnSame (after m e).rows (state_from (after m e) es).rows u) → (q.unit.phase ≡ stage.Defunct) ⊎ ((q.unit ≡ record x { tracker = q.unit.tracker }) × OwnSame m.rows (state_from (after m e) es).rows u)
            both (inl d) = inl d
            both (inr k) = inr (k.0 ∙ ap (λ (y : UnitRow). record y { tracker = q.unit.tracker }) p.0, own_again m.rows (after m e).rows (state_from (after m e) es).rows u p.1 k.1)

pub held_stays : HeldStays
held_stays jmax h more l s u x t held alive o = let p = kept_from jmax h (state h) more s u x (record { sound = legal_is_sound jmax h ((prefixes_legal jmax h more).0 l); there = t; seat = held; alive = alive }) (legal_rest jmax [] empty h more l) o in
    subst (λ n. IsKept (state h) n u x) (sym (state_from_joined empty h more)) p
