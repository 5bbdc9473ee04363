-- The conditions of a seat's calls on a unit stay, whatever other seats do.
use Rattle.std.proofs.Common.{◌≡◌, ℕ, ◌+◌, Bool, true, false, ◌&&◌, List, [], ◌++◌, slice_get, inl, inr, subst, sym, refl, ap, ◌∙◌, unwrap_or}
use Rattle.std.specs.Bool.{if◌then◌else◌}
use Rattle.std.specs.Cmp.{both_ways}
use Rattle.std.specs.Prelude.{nat_eq}
use Rattle.std.specs.Option.{option_map_or}
use Rattle.std.proofs.lemmas.Bool.{and_from, eq-eqb}
pub use Rattle.session_model.proofs.Units.{own_same as own_list}
use Rattle.orc_ids.specs.declared.ids.InstId.{InstId}
use Rattle.orc_ids.specs.declared.ids.UnitId.{UnitId}
use Rattle.session_model.specs.Meaning.{Meaning}
use Rattle.session_model.specs.Plain.{Plain, UnitRow, unit_shape, is_owned, is_owned_at, is_defunct, kept}
use Rattle.session_model.specs.declared.rows.Ending.TheVariants.{Lost}
use Rattle.session_model.specs.State.{state}
use Rattle.session_model.specs.Answer.{AnswersCall, HasCause, LinkEnded, Gone, Wrong, Right, called, can_place, can_emit, is_held, is_stage}
use Rattle.session_model.specs.History.{IsLegal, HasPlaces}
use Rattle.session_model.specs.declared.entry.Entry.{Entry}
use Rattle.session_model.specs.declared.entry.Reply.TheVariants as reply
use Rattle.session_model.specs.declared.entry.Why.{Why}
use Rattle.session_model.specs.declared.entry.Why.TheVariants as why
use Rattle.session_model.specs.declared.rows.InstRow.{InstRow}
use Rattle.session_model.specs.declared.rows.UnitPhase.TheVariants as stage
use Rattle.session_laws.specs.Holding.{AllOthers, OwnSame}
use Rattle.session_laws.proofs.Declared.{same_element, end_stays, entries_are, owned_parts, test_parts, test_from, call_cases, full_stays}
use Rattle.session_steps.specs.Finish.{IsFinish}
use Rattle.history_laws.specs.Holders.{Holds, WasHeld, SameReplies}
use Rattle.history_laws.specs.Conditions.{PlaceStays, EmitStays, FailStays}
use Rattle.history_laws.proofs.Giving.{others_give_none}
use Rattle.history_laws.proofs.Passing.{last_replies_stay}

-- A call that is right

pub right_parts : (m : Plain) (s : ℕ) (u : UnitId) (fit : UnitRow → Bool) (x : UnitRow) → called m s u fit ≡ Right x → Holds m s u.0 x × (fit x ≡ true)
right_parts m s u fit x e = call_cases m s u fit (λ z. z ≡ x) reply.Resolved (subst (λ c. AnswersCall c u (λ z. z ≡ x) reply.Resolved) (sym e) refl)
    (λ z t d w. absurd (cc)) (λ w f. absurd (cc))
    (λ z t d k f p. subst (λ y. Holds m s u.0 y × (fit y ≡ true)) p (record { there = t; seat = k; here = d }, f))

right_from : (m : Plain) (s : ℕ) (u : UnitId) (fit : UnitRow → Bool) (x : UnitRow) → Holds m s u.0 x → fit x ≡ true → called m s u fit ≡ Right x
right_from m s u fit x b f =
    ap (λ o. option_map_or (λ (z : UnitRow). if is_defunct z.phase then Gone else (if is_held s z && fit z then Right z else Wrong)) o Wrong) b.there
    ∙ ap (λ c. if c then Gone else (if is_held s x && fit x then Right x else Wrong)) b.here
    ∙ ap (λ c. if c then Right x else Wrong) (and_from (is_held s x) (fit x) (ap (λ o. option_map_or (nat_eq s) o false) b.seat ∙ eq-eqb s s refl) f)

-- it was right before, on the unit as it was
record WasRight (m n : Plain) (s : ℕ) (u : UnitId) (fit : UnitRow → Bool) (y : UnitRow) : Type 0 where
  now : Holds n s u.0 y
  was : WasHeld m n s u.0 y
  right : called m s u fit ≡ Right was.unit

was_right : (jmax s : ℕ) (u : UnitId) (fit : UnitRow → Bool) → ((x : UnitRow) (t : ℕ) → fit (record x { tracker = t }) ≡ fit x) →
    (h more : List (Entry Meaning)) → IsLegal jmax (h ++ more) → AllOthers s more → (y : UnitRow) → called (state (h ++ more)) s u fit ≡ Right y → WasRight (state h) (state (h ++ more)) s u fit y
was_right jmax s u fit any h more l o y e = record { now = now.0; was = was; right = right_from (state h) s u fit was.unit was.held (sym (any was.unit y.tracker) ∙ (ap fit (sym was.same) ∙ now.1)) }
  where
    now : Holds (state (h ++ more)) s u.0 y × (fit y ≡ true)
    now = right_parts (state (h ++ more)) s u fit y e

    was : WasHeld (state h) (state (h ++ more)) s u.0 y
    was = others_give_none jmax h more l s u.0 y o now.0

pub place_stays : PlaceStays
place_stays jmax s u shape h more l places o may y e =
    let r = was_right jmax s u can_place (λ x t. refl) h more l o y e in
    ap unit_shape r.was.same ∙ may r.was.unit r.right

-- The instances of the unit

pub owned_same : (rows new : List InstRow) (u : ℕ) → OwnSame rows new u → (i : ℕ) → is_owned_at u new i ≡ is_owned_at u rows i
owned_same rows new u own i = both_ways (is_owned_at u new i) (is_owned_at u rows i) back on
  where
    back : is_owned_at u new i ≡ true → is_owned_at u rows i ≡ true
    back e = let p = test_parts (is_owned u) new i e in
        let parts = owned_parts u p.0 p.2 in
        test_from (is_owned u) rows i p.0 ((own i p.0 parts.0 parts.1).1 p.1) p.2

    on : is_owned_at u rows i ≡ true → is_owned_at u new i ≡ true
    on e = let p = test_parts (is_owned u) rows i e in
        let parts = owned_parts u p.0 p.2 in
        test_from (is_owned u) new i p.0 ((own i p.0 parts.0 parts.1).0 p.1) p.2

pub emit_stays : EmitStays
emit_stays jmax s u groups bytes h more l places o may y e = subst (λ z. IsFinish (state (h ++ more)) u z groups bytes) (sym r.was.same) (record {
  groups_are = f.groups_are ∙ ap (x.meaning.groups x.live (unwrap_or x.base 0) (unwrap_or x.bound [])) (sym (own_list u.0 0 (state h).rows (state (h ++ more)).rows (owned_same (state h).rows (state (h ++ more)).rows u.0 r.was.own)));
  allowed = f.allowed;
  image = f.image;
})
  where
    r : WasRight (state h) (state (h ++ more)) s u can_emit y
    r = was_right jmax s u can_emit (λ x t. refl) h more l o y e

    x : UnitRow
    x = r.was.unit

    f : IsFinish (state h) u x groups bytes
    f = may x r.right

-- The cause of a fail

lost_stays : (h more : List (Entry Meaning)) (s u : ℕ) (y : UnitRow) (i : InstId) → Holds (state (h ++ more)) s u y → (w : WasHeld (state h) (state (h ++ more)) s u y) → LinkEnded h (state h) u (Lost i) → LinkEnded (h ++ more) (state (h ++ more)) u (Lost i)
lost_stays h more s u y i now w k = record {
  unit = y;
  there = now.there;
  query = k.query;
  its = ap (λ (z : UnitRow). z.query) w.same ∙ (ap (λ (z : UnitRow). z.query) (same_element (slice_get (state h).units u) w.unit k.unit w.held.there k.there) ∙ k.its);
  at = k.at;
  ended = end_stays h more k.query k.at (Lost i) k.ended;
}

cause_stays : (jmax s : ℕ) (h more : List (Entry Meaning)) → IsLegal jmax (h ++ more) → HasPlaces jmax (h ++ more) → (u : ℕ) (y : UnitRow) → Holds (state (h ++ more)) s u y →
    (w : WasHeld (state h) (state (h ++ more)) s u y) → SameReplies u h (h ++ more) → (cause : Why) → HasCause jmax h (state h) u w.unit cause → HasCause jmax (h ++ more) (state (h ++ more)) u y cause
cause_stays jmax s h more l places u y now w same (why.Refused place kind v) c = subst (λ z. HasCause jmax (h ++ more) (state (h ++ more)) u z (why.Refused place kind v)) (sym w.same) c
cause_stays jmax s h more l places u y now w same (why.Missing name) c = same.link ∙ c
cause_stays jmax s h more l places u y now w same (why.AliasCycle i) c = same.link ∙ c
cause_stays jmax s h more l places u y now w same (why.InError i) (inl c) = inl (same.link ∙ c)
cause_stays jmax s h more l places u y now w same (why.InError i) (inr c) = inr (
  ap (λ (z : UnitRow). is_stage stage.Finishing z.phase) w.same ∙ c.0,
  ap (λ (z : UnitRow). z.bound) w.same ∙ c.1,
  lost_stays h more s u y i now w c.2,
)
cause_stays jmax s h more l places u y now w same (why.BadDep i) c = same.emit ∙ c
cause_stays jmax s h more l places u y now w same (why.NoRoom need) c = same.place ∙ c
cause_stays jmax s h more l places u y now w same why.NoMemory c = c
cause_stays jmax s h more l places u y now w same why.Full c =
    let full = full_stays jmax h more l places (ap (λ n. n + kept (state h)) (entries_are h) ∙ c) in
    ap (λ n. n + kept (state (h ++ more))) (sym (entries_are (h ++ more))) ∙ full

pub fail_stays : FailStays
fail_stays jmax s u cause h more l places o may y e =
    let r = was_right jmax s u (λ x. true) (λ x t. refl) h more l o y e in
    cause_stays jmax s h more l places u.0 y r.now r.was (last_replies_stay jmax h more l s u.0 r.was.unit o r.was.held) cause (may r.was.unit r.right)
