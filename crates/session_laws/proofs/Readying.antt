-- No emitted instance reaches a failed one, and what is ready stays so.
use Rattle.session_model.specs.Change.{unreplaced_row, resolved_unit, resolved_row, moved_unit, moved_generator, gone_tracker}
use Rattle.session_model.specs.declared.rows.Verdict.{Verdict}
use Rattle.session_laws.proofs.RowStages.{held_row, resolvable_held}
use Rattle.std.proofs.Common.{◌≡◌, ℕ, Bool, true, false, not, ◌&&◌, ◌==◌, map, List, [], ◌∷◌, ◌++◌, length, slice_get, Contains, subst, sym, refl, ap, ◌∙◌, Option, Some, None, option_map, unwrap_or}
use Rattle.std.specs.Bool.{if◌then◌else◌}
use Rattle.std.specs.Option.{option_map_or}
use Rattle.std.proofs.lemmas.Bool.{both_ways, and_parts, and_right, not-true, false_from_ne_true}
use Rattle.orc_ids.specs.declared.ids.InstId.{InstId}
use Rattle.session_model.specs.Lists.{changed_at, numbered}
use Rattle.session_model.specs.Plain.{Plain, UnitRow, GenRow, is_unsearched, is_failed, is_emitted, is_owned, emitted_at, failed_at, phase_deps}
use Rattle.session_model.specs.Reach.{IsReady, is_hit, deps_at}
use Rattle.session_model.specs.declared.rows.InstRow.{InstRow}
use Rattle.session_model.specs.declared.rows.Phase.{Phase}
use Rattle.session_model.specs.declared.rows.Phase.TheVariants as phase
use Rattle.std.proofs.Common.{append_assoc, append-nil}
use Rattle.session_model.proofs.Phases.{emitted_unfailed}
use Rattle.session_model.specs.Plain.{phase_address}
use Rattle.session_model.specs.Change.{deps_in, hits_failed, tracker_roots, is_unit_of, claimed}
use Rattle.session_model.specs.Plain.{is_owned_at}
use Rattle.session_laws.proofs.Elements.{same_element, mapped_some}
use Rattle.session_laws.proofs.Facts.{test_parts, test_is, held_unemitted, ready_emitted}
use Rattle.session_laws.proofs.Paths.{hit_from_test}
use Rattle.session_laws.proofs.Settling.{chosen}
use Rattle.session_laws.specs.Sound.{row_stage, IsSound, is_sure, sure_at, fits, is_held_phase, AllMatched}
use Rattle.session_laws.proofs.Changes.{owned_parts}
use Rattle.session_model.specs.Meaning.{Meaning}
use Rattle.session_model.specs.Change.{new_rows, defined, all_claimed}
use Rattle.session_laws.proofs.Elements.{front_some, numbered_some}
use Rattle.session_model.specs.Change.{change_of, changed}
use Rattle.session_model.specs.declared.change.Change.{Change}
use Rattle.session_model.specs.declared.change.Change.TheVariants.{Nothing, MakeDylib, MakeTracker, SetOrder, Attach, Define, Generate, Spend, Ask, Start, Finish, Place, Resolve, Link, Emit, Fail, Move, Remove, LetGo}
use Rattle.session_model.specs.Answer.{Answers}
use Rattle.session_model.specs.declared.entry.Entry.{Entry}
use Rattle.session_laws.proofs.Defining.{IsHere}
use Rattle.session_laws.proofs.Replies.{Guard}
use Rattle.session_model.specs.Plain.{empty}
use Rattle.session_model.specs.State.{after, state, state_from}
use Rattle.session_model.specs.History.{LegalFrom}
use Rattle.session_model.specs.Change.{emitted, removed, spent}
use Rattle.session_laws.proofs.Guards.{guard_of}
use Rattle.session_laws.proofs.Defining.{claims_keep}
use Rattle.session_model.specs.Reach.{Reaches}
use Rattle.session_laws.proofs.Along.{prefixes_legal}
use Rattle.session_laws.proofs.Paths.{reaches_self, reaches_dep, reach_transitive, closed_reached}
use Rattle.session_laws.proofs.Invariant.{sound_after, legal_is_sound, good_here}
use Rattle.session_laws.proofs.Settling.{settled_rows}
use Rattle.session_laws.proofs.Elements.{numbered_some}
use Rattle.session_laws.specs.Readiness.{phase_at, EmittedReachesNoFailed, ReadyStaysReady}

pub sure_unfailed : (rows : List InstRow) (i : ℕ) → sure_at rows i ≡ true → failed_at rows i ≡ false
sure_unfailed rows i e = let p = test_parts is_sure rows i e in
    test_is (λ (r : InstRow). is_failed r.phase) rows i p.0 p.1 ∙ not-true (is_failed p.0.phase) (and_parts (not (is_unsearched p.0.phase)) (not (is_failed p.0.phase)) p.2).1

pub reaches_no_failed : (m : Plain) → IsSound m → (i j : ℕ) → emitted_at m.rows i ≡ true → Reaches m.rows i j → failed_at m.rows j ≡ false
reaches_no_failed m s i j e r = closed_reached m.rows (λ k. failed_at m.rows k ≡ false) (λ k l f c. sure_unfailed m.rows l (s.deps k l c)) i j start r
  where
    start : failed_at m.rows i ≡ false
    start = let p = test_parts (λ (r : InstRow). is_emitted r.phase) m.rows i e in test_is (λ (r : InstRow). is_failed r.phase) m.rows i p.0 p.1 ∙ emitted_unfailed p.0.phase p.2

pub emitted_reaches_no_failed : EmittedReachesNoFailed
emitted_reaches_no_failed jmax h l i j e r = reaches_no_failed (state h) (legal_is_sound jmax h l) i j e r

-- Ready instances keep their phases

abbrev pub KeepsReady : List InstRow → List InstRow → Type 0
KeepsReady rows new = (i : ℕ) → IsReady rows i → phase_at new i ≡ phase_at rows i

emitted_by_phase : (rows : List InstRow) (i : ℕ) → emitted_at rows i ≡ option_map_or is_emitted (phase_at rows i) false
emitted_by_phase rows i = go (slice_get rows i)
  where
    go : (o : Option InstRow) → option_map_or (λ (r : InstRow). is_emitted r.phase) o false ≡ option_map_or is_emitted (option_map (λ (r : InstRow). r.phase) o) false
    go None = refl
    go (Some r) = refl

deps_by_phase : (rows : List InstRow) (i : ℕ) → deps_at rows i ≡ option_map_or phase_deps (phase_at rows i) []
deps_by_phase rows i = go (slice_get rows i)
  where
    go : (o : Option InstRow) → option_map_or (λ (r : InstRow). phase_deps r.phase) o [] ≡ option_map_or phase_deps (option_map (λ (r : InstRow). r.phase) o) []
    go None = refl
    go (Some r) = refl

pub reached_ready : (rows : List InstRow) (i j : ℕ) → IsReady rows i → Reaches rows i j → IsReady rows j
reached_ready rows i j h r = record { each = λ k p. h.each k (reach_transitive rows i j k r p) }

pub stays_ready : (rows new : List InstRow) → KeepsReady rows new → (i : ℕ) → IsReady rows i → IsReady new i
stays_ready rows new keeps i h = record { each = λ j r. emitted j (closed_reached new (IsReady rows) closed i j h r) }
  where
    closed : (k l : ℕ) → IsReady rows k → Contains (deps_at new k) l → IsReady rows l
    closed k l ready c = reached_ready rows k l ready (reaches_dep rows k l l
        (subst (λ ds. Contains ds l) (deps_by_phase new k ∙ (ap (λ o. option_map_or phase_deps o []) (keeps k ready) ∙ sym (deps_by_phase rows k))) c) (reaches_self rows l))

    emitted : (j : ℕ) → IsReady rows j → emitted_at new j ≡ true
    emitted j ready = emitted_by_phase new j ∙ (ap (λ o. option_map_or is_emitted o false) (keeps j ready) ∙ (sym (emitted_by_phase rows j) ∙ ready_emitted rows j ready))

pub keeps_again : (rows new newer : List InstRow) → KeepsReady rows new → KeepsReady new newer → KeepsReady rows newer
keeps_again rows new newer f g i h = g i (stays_ready rows new f i h) ∙ f i h

-- an emitted row that changes to one of the same phase
pub keeps_row : (rows new : List InstRow) (i : ℕ) (r q : InstRow) → slice_get rows i ≡ Some r → slice_get new i ≡ Some q → q.phase ≡ r.phase → phase_at new i ≡ phase_at rows i
keeps_row rows new i r q e f p = ap (option_map (λ (y : InstRow). y.phase)) f ∙ (ap Some p ∙ sym (ap (option_map (λ (y : InstRow). y.phase)) e))

-- by what becomes of each ready row
pub keeps_mapped : (rows new : List InstRow) (g : ℕ → InstRow → InstRow) → ((i : ℕ) (r : InstRow) → slice_get rows i ≡ Some r → slice_get new i ≡ Some (g i r)) →
    ((i : ℕ) (r : InstRow) → slice_get rows i ≡ Some r → IsReady rows i → is_emitted r.phase ≡ true → (g i r).phase ≡ r.phase) → KeepsReady rows new
keeps_mapped rows new g at same i h = let p = test_parts (λ (r : InstRow). is_emitted r.phase) rows i (ready_emitted rows i h) in
    keeps_row rows new i p.0 (g i p.0) p.1 (at i p.0 p.1) (same i p.0 p.1 h p.2)

pub same_unless : (b : Bool) (p q : Phase) → b ≡ false → (if b then p else q) ≡ q
same_unless b p q e = ap (λ c. if c then p else q) e

claim_keeps_ready : (u : ℕ) (m : Plain) → KeepsReady m.rows (claimed u m).rows
claim_keeps_ready u m = keeps_mapped m.rows (claimed u m).rows (λ i r. record r { phase = if is_owned u r && is_unsearched r.phase then phase.Claimed else r.phase })
    (λ i r e. mapped_some (λ (r : InstRow). record r { phase = if is_owned u r && is_unsearched r.phase then phase.Claimed else r.phase }) m.rows i r e)
    (λ i r e h t. same_unless (is_owned u r && is_unsearched r.phase) phase.Claimed r.phase (and_right (is_owned u r) (is_unsearched r.phase) (searched r.phase t)))
  where
    searched : (p : Phase) → is_emitted p ≡ true → is_unsearched p ≡ false
    searched (phase.Emitted a ds) t = refl
    searched phase.Unsearched t = absurd (both_ways false refl t)
    searched phase.Claimed t = refl
    searched (phase.Resolved a) t = refl
    searched phase.Failed t = refl

same_rows : (rows : List InstRow) → KeepsReady rows rows
same_rows rows i h = refl

claims_keep_ready : (m : Plain) (os : List (Option InstId)) → AllMatched (IsHere m.rows) os → KeepsReady m.rows (all_claimed os m).rows
claims_keep_ready m os here = claims_keep (λ n. KeepsReady m.rows n.rows) (λ i r n p e present unsearched. keeps_again m.rows n.rows (claimed r.unit.0 n).rows p (claim_keeps_ready r.unit.0 n)) os m here (same_rows m.rows)

defined_keeps_ready : (m : Plain) (d t : ℕ) (v : Meaning) (vs : List Verdict) → KeepsReady m.rows (defined d t v vs m).rows
defined_keeps_ready m d t v vs = keeps_mapped m.rows (defined d t v vs m).rows (unreplaced_row vs)
    (λ i r e. front_some (numbered (unreplaced_row vs) 0 m.rows) (new_rows d (length m.units) 0 v.offers vs) i (unreplaced_row vs i r) (numbered_some (unreplaced_row vs) m.rows i r e))
    (λ i r e h t. refl)

-- the instances of a held unit aren't emitted
pub held_unowned : (m : Plain) (u : ℕ) (x : UnitRow) (i : ℕ) (r : InstRow) → IsSound m → slice_get m.units u ≡ Some x → is_held_phase x.phase ≡ true → slice_get m.rows i ≡ Some r → is_emitted r.phase ≡ true → is_owned u r ≡ false
held_unowned m u x i r s t held e emitted = false_from_ne_true (is_owned u r) (λ o. clash o)
  where
    clash : is_owned u r ≡ true → ⊥
    clash o = let p = owned_parts u r o in let y = (s.rows_fit i r e).here p.0 in
        both_ways (is_emitted r.phase) (held_unemitted (row_stage x) r.phase (held_row x held) (subst (λ (z : UnitRow). fits (row_stage z) r.phase ≡ true) (same_element (slice_get m.units u) y.0 x (sym (ap (slice_get m.units) p.1) ∙ y.1) t) y.2)) emitted

hits_keep_ready : (rows : List InstRow) (roots : ℕ → Bool) → KeepsReady rows (hits_failed roots rows)
hits_keep_ready rows roots = keeps_mapped rows (hits_failed roots rows) (λ i r. record r { phase = if is_hit rows roots i then phase.Failed else r.phase })
    (λ i r e. numbered_some (λ i (r : InstRow). record r { phase = if is_hit rows roots i then phase.Failed else r.phase }) rows i r e)
    (λ i r e h t. same_unless (is_hit rows roots i) phase.Failed r.phase (false_from_ne_true (is_hit rows roots i) (λ b. (hit_from_test rows roots i b).unready h)))

gone_keeps_ready : (f : InstRow → Bool) (rows : List InstRow) → KeepsReady rows (map (λ (r : InstRow). record r { present = f r }) rows)
gone_keeps_ready f rows = keeps_mapped rows (map (λ (r : InstRow). record r { present = f r }) rows) (λ i r. record r { present = f r })
    (λ i r e. mapped_some (λ (r : InstRow). record r { present = f r }) rows i r e) (λ i r e h t. refl)

pub keeps_ready : (m : Plain) (s : ℕ) (c : Change Meaning) → IsSound m → Guard m s c → KeepsReady m.rows (changed c m).rows
keeps_ready m s Nothing h g = same_rows m.rows
keeps_ready m s (MakeDylib name) h g = same_rows m.rows
keeps_ready m s (MakeTracker d) h g = same_rows m.rows
keeps_ready m s (SetOrder d order) h g = same_rows m.rows
keeps_ready m s (Attach d t u) h g = same_rows m.rows
keeps_ready m s (Define d t u found) h g = defined_keeps_ready m d.0 t.0 u found
keeps_ready m s (Generate k found) h g = split (slice_get m.generators k.0)
  where
    split : (o : Option GenRow) → KeepsReady m.rows (option_map_or (λ x. spent k.0 (defined x.dylib x.tracker x.meaning found m)) o m).rows
    split None = same_rows m.rows
    split (Some x) = defined_keeps_ready m x.dylib x.tracker x.meaning found
keeps_ready m s (Spend k) h g = same_rows m.rows
keeps_ready m s (Ask found lev n) h g = claims_keep_ready m found (good_here m found g)
keeps_ready m s (Start t u) h g = same_rows m.rows
keeps_ready m s (Finish t u how) h g = same_rows m.rows
keeps_ready m s (Place u base) h g = same_rows m.rows
keeps_ready m s (Resolve u) h g = subst (λ o. KeepsReady m.rows (option_map_or (λ (x : UnitRow). record m { rows = map (resolved_row u.0 (resolved_unit x)) m.rows; units = changed_at u.0 resolved_unit m.units }) o m).rows) (sym g.1)
    (keeps_mapped m.rows (map (resolved_row u.0 (resolved_unit g.0)) m.rows) (λ i r. resolved_row u.0 (resolved_unit g.0) r)
    (λ i r e. mapped_some (resolved_row u.0 (resolved_unit g.0)) m.rows i r e)
    (λ i r e ready t. same_unless (is_owned u.0 r) (phase.Resolved (g.0.meaning.address r.offer (unwrap_or (resolved_unit g.0).base 0))) r.phase (held_unowned m u.0 g.0 i r h g.1 (resolvable_held g.0 g.3) e t)))
keeps_ready m s (Link u found) h g = claims_keep_ready m found (good_here m found g.3.3)
keeps_ready m s (Emit u groups) h g = keeps_mapped m.rows (emitted u.0 groups m).rows (λ i r. record r { phase = if is_owned u.0 r then phase.Emitted (unwrap_or (phase_address r.phase) 0) (deps_in groups i) else r.phase })
    (λ i r e. numbered_some (λ i (r : InstRow). record r { phase = if is_owned u.0 r then phase.Emitted (unwrap_or (phase_address r.phase) 0) (deps_in groups i) else r.phase }) m.rows i r e)
    (λ i r e ready t. same_unless (is_owned u.0 r) (phase.Emitted (unwrap_or (phase_address r.phase) 0) (deps_in groups i)) r.phase (held_unowned m u.0 g.0 i r h g.1 (ap is_held_phase g.3.0) e t))
keeps_ready m s (Fail u) h g = hits_keep_ready m.rows (is_owned_at u.0 m.rows)
keeps_ready m s (Move t to) h g = chosen (λ n. KeepsReady m.rows n.rows) (t.0 == to.0) m (record m { units = map (moved_unit t.0 to.0) m.units; generators = map (moved_generator t.0 to.0) m.generators; trackers = changed_at t.0 gone_tracker m.trackers }) (λ b. same_rows m.rows) (λ b. same_rows m.rows)
keeps_ready m s (Remove t) h g = keeps_again m.rows (hits_failed (tracker_roots m t.0) m.rows) (removed t.0 m).rows (hits_keep_ready m.rows (tracker_roots m t.0))
    (gone_keeps_ready (λ r. r.present && not (is_unit_of m t.0 r.unit.0)) (hits_failed (tracker_roots m t.0) m.rows))
keeps_ready m s (LetGo t u) h g = same_rows m.rows

pub after_keeps_ready : (jmax : ℕ) (past : List (Entry Meaning)) (m : Plain) (e : Entry Meaning) → IsSound m → Answers jmax past m e.seat.0 e.event e.reply → KeepsReady m.rows (after m e).rows
after_keeps_ready jmax past m e s a = subst (KeepsReady m.rows) (sym (settled_rows (changed (change_of m e.seat.0 e.event e.reply) m)))
    (keeps_ready m e.seat.0 (change_of m e.seat.0 e.event e.reply) s (guard_of jmax past m e.seat.0 e.event e.reply a))

from_keeps_ready : (jmax : ℕ) (past : List (Entry Meaning)) (m : Plain) (h : List (Entry Meaning)) → IsSound m → LegalFrom jmax past m h → KeepsReady m.rows (state_from m h).rows
from_keeps_ready jmax past m [] s l = same_rows m.rows
from_keeps_ready jmax past m (e ∷ es) s l = keeps_again m.rows (after m e).rows (state_from (after m e) es).rows (after_keeps_ready jmax past m e s l.0) (from_keeps_ready jmax (past ++ e ∷ []) (after m e) es (sound_after jmax past m e s l.0) l.1)

-- a history of two parts
pub state_from_joined : (m : Plain) (h more : List (Entry Meaning)) → state_from m (h ++ more) ≡ state_from (state_from m h) more
state_from_joined m [] more = refl
state_from_joined m (e ∷ es) more = state_from_joined (after m e) es more

pub legal_rest : (jmax : ℕ) (past : List (Entry Meaning)) (m : Plain) (h more : List (Entry Meaning)) → LegalFrom jmax past m (h ++ more) → LegalFrom jmax (past ++ h) (state_from m h) more
legal_rest jmax past m [] more l = subst (λ p. LegalFrom jmax p m more) (sym (append-nil past)) l
legal_rest jmax past m (e ∷ es) more l = subst (λ p. LegalFrom jmax p (state_from (after m e) es) more) (append_assoc past (e ∷ []) es) (legal_rest jmax (past ++ e ∷ []) (after m e) es more l.1)

pub ready_stays_ready : ReadyStaysReady
ready_stays_ready jmax h more l i ready = (
  subst (λ n. IsReady n.rows i) (sym (state_from_joined empty h more)) (stays_ready (state h).rows (state_from (state h) more).rows keeps i ready),
  ap (λ n. phase_at n.rows i) (state_from_joined empty h more) ∙ keeps i ready,
)
  where
    keeps : KeepsReady (state h).rows (state_from (state h) more).rows
    keeps = from_keeps_ready jmax h (state h) more (legal_is_sound jmax h ((prefixes_legal jmax h more).0 l)) (legal_rest jmax [] empty h more l)
