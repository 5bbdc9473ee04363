-- A right reply's change has its guard.
use Rattle.std.proofs.Common.{◌≡◌, ℕ, Bool, true, false, not, ◌&&◌, ◌||◌, nat_eq, List, [], ◌∷◌, slice_get, subst, sym, refl, ap, ◌∙◌, Option, Some, None, is_some}
use Rattle.std.specs.Bool.{if◌then◌else◌}
use Rattle.std.specs.Option.{option_map_or}
use Rattle.std.proofs.lemmas.Bool.{both_ways, eqb-true, and_parts}
use Rattle.orc_ids.specs.declared.ids.InstId.{InstId}
use Rattle.orc_ids.specs.declared.ids.UnitId.{UnitId}
use Rattle.session_model.specs.Plain.{Plain, UnitRow, is_defunct, failed_at, present_at, unsearched_at}
use Rattle.session_model.specs.declared.entry.Reply.TheVariants as reply
use Rattle.session_model.specs.declared.rows.InstRow.{InstRow}
use Rattle.session_model.specs.declared.rows.Job.{Job}
use Rattle.session_model.specs.declared.rows.Job.TheVariants as job
use Rattle.session_model.specs.declared.rows.UnitPhase.TheVariants as stage
use Rattle.orc_ids.specs.declared.groups.Group.{Group}
use Rattle.std.proofs.Common.{flat_map}
use Rattle.session_model.proofs.Phases.{started_stage}
use Rattle.session_model.specs.Lists.{only_if}
use Rattle.session_model.specs.Answer.{bad_dep}
use Rattle.session_laws.proofs.Elements.{same_element, none_there}
use Rattle.session_laws.proofs.Settling.{chosen}
use Rattle.orc_ids.specs.declared.ids.NameId.{NameId}
use Rattle.orc_ids.specs.declared.lookup.OrderItem.{OrderItem}
use Rattle.orc_ids.specs.declared.lookup.Wanted.{Wanted}
use Rattle.orc_ids.specs.declared.lookup.Level.{Level}
use Rattle.session_model.specs.Meaning.{Meaning}
use Rattle.session_model.specs.Change.{matched}
use Rattle.orc_ids.specs.declared.ids.DylibId.{DylibId}
use Rattle.orc_ids.specs.declared.ids.GenId.{GenId}
use Rattle.orc_ids.specs.declared.ids.TrackId.{TrackId}
use Rattle.orc_ids.specs.declared.ids.QueryId.{QueryId}
use Rattle.orc_ids.specs.declared.place.Shape.{Shape}
use Rattle.session_model.specs.Change.{change_of, link_matches, linked_matches}
use Rattle.session_model.specs.Answer.{Answers, AnswersCall, AnswersTake, AnswersFinish, AnswersPlace, AnswersEmit, HasCause, called, Gone, Wrong, Right, is_held, is_stage, answer_link, can_place, can_resolve, can_link, can_emit, alias_cycle}
use Rattle.session_model.specs.Plain.{unit_shape}
use Rattle.session_laws.proofs.RowStages.{emittable}
use Rattle.session_model.specs.declared.entry.Entry.{Entry}
use Rattle.session_model.specs.declared.entry.Event.{Event}
use Rattle.session_model.specs.declared.entry.Event.TheVariants as event
use Rattle.session_model.specs.declared.entry.Finishing.TheVariants as finishing
use Rattle.session_model.specs.declared.entry.Reply.{Reply}
use Rattle.session_laws.proofs.Replies.{GoodMatches, IsOwnEmission, Held, Guard, AllReplies, is_defunct_reply, is_lodged_reply, is_emitted_reply, none_given, replies_first, replies_only, replies_or, dylib_plain, order_plain, tracker_plain, move_plain, remove_plain, define_plain, attach_plain, generate_plain, collect_plain, ask_plain, ask_good, link_good, link_plain}

-- The events that aren't about a held unit

dylib_guard : (m : Plain) (s : ℕ) (name : NameId) (r : Reply) → is_defunct_reply r ≡ false → Guard m s (change_of m s (event.Dylib name) r)
dylib_guard m s name (reply.Made d) n = tt
dylib_guard m s name (reply.Defunct u) n = absurd (both_ways true n refl)
dylib_guard m s name _ n = tt

order_guard : (m : Plain) (s : ℕ) (d : DylibId) (order : List OrderItem) (r : Reply) → is_defunct_reply r ≡ false → Guard m s (change_of m s (event.SetOrder d order) r)
order_guard m s d order reply.Set n = tt
order_guard m s d order (reply.Defunct u) n = absurd (both_ways true n refl)
order_guard m s d order _ n = tt

attach_guard : (m : Plain) (s : ℕ) (d : DylibId) (t : TrackId) (u : Meaning) (r : Reply) → is_defunct_reply r ≡ false → Guard m s (change_of m s (event.Attach d t u) r)
attach_guard m s d t u (reply.Generator g) n = tt
attach_guard m s d t u (reply.Defunct v) n = absurd (both_ways true n refl)
attach_guard m s d t u _ n = tt

define_guard : (m : Plain) (s : ℕ) (d : DylibId) (t : TrackId) (u : Meaning) (r : Reply) → is_defunct_reply r ≡ false → Guard m s (change_of m s (event.Define d t u) r)
define_guard m s d t u (reply.Defined v first count) n = refl
define_guard m s d t u (reply.Defunct v) n = absurd (both_ways true n refl)
define_guard m s d t u _ n = tt

generate_guard : (m : Plain) (s : ℕ) (g : GenId) (r : Reply) → is_defunct_reply r ≡ false → Guard m s (change_of m s (event.Generate g) r)
generate_guard m s g (reply.Defined v first count) n = refl
generate_guard m s g reply.TooMany n = tt
generate_guard m s g (reply.Duplicate name i) n = tt
generate_guard m s g (reply.Defunct v) n = absurd (both_ways true n refl)
generate_guard m s g _ n = tt

tracker_guard : (m : Plain) (s : ℕ) (d : DylibId) (r : Reply) → is_defunct_reply r ≡ false → Guard m s (change_of m s (event.Tracker d) r)
tracker_guard m s d (reply.Tracker t) n = tt
tracker_guard m s d (reply.Defunct u) n = absurd (both_ways true n refl)
tracker_guard m s d _ n = tt

move_guard : (m : Plain) (s : ℕ) (t to : TrackId) (r : Reply) → is_defunct_reply r ≡ false → Guard m s (change_of m s (event.MoveTracker t to) r)
move_guard m s t to reply.Moved n = tt
move_guard m s t to (reply.Defunct u) n = absurd (both_ways true n refl)
move_guard m s t to _ n = tt

remove_guard : (m : Plain) (s : ℕ) (t : TrackId) (r : Reply) → is_defunct_reply r ≡ false → Guard m s (change_of m s (event.Remove t) r)
remove_guard m s t reply.Removed n = tt
remove_guard m s t (reply.Defunct u) n = absurd (both_ways true n refl)
remove_guard m s t _ n = tt

collect_guard : (m : Plain) (s : ℕ) (q : QueryId) (r : Reply) → is_defunct_reply r ≡ false → Guard m s (change_of m s (event.Collect q) r)
collect_guard m s q (reply.Defunct u) n = absurd (both_ways true n refl)
collect_guard m s q _ n = tt

image_guard : (m : Plain) (s : ℕ) (r : Reply) → is_defunct_reply r ≡ false → Guard m s (change_of m s event.Image r)
image_guard m s (reply.Defunct u) n = absurd (both_ways true n refl)
image_guard m s _ n = tt

ask_guard : (m : Plain) (s : ℕ) (order : List OrderItem) (wanted : List Wanted) (lev : Level) (n : Option ℕ) (r : Reply) → is_defunct_reply r ≡ false → (is_lodged_reply r ≡ true → GoodMatches m (matched m order wanted)) → Guard m s (change_of m s (event.Ask order wanted lev n) r)
ask_guard m s order wanted lev n (reply.Done q) d g = g refl
ask_guard m s order wanted lev n (reply.Pending q) d g = g refl
ask_guard m s order wanted lev n (reply.Defunct u) d g = absurd (both_ways true d refl)
ask_guard m s order wanted lev n _ d g = tt

-- Taking

take_finish_guard : (past : List (Entry Meaning)) (m : Plain) (s : ℕ) (u : UnitId) (js : List Job) → m.jobs ≡ job.Finish u ∷ js → (r : Reply) → AnswersFinish past m u.0 r → Guard m s (change_of m s event.Take r)
take_finish_guard past m s u js e (reply.Finish v (finishing.Bound matches)) a = (refl, js, e ∙ ap (λ n. job.Finish (record { 0 = n }) ∷ js) (sym a.0))
take_finish_guard past m s u js e (reply.Finish v (finishing.Lost i)) a = (refl, js, e ∙ ap (λ n. job.Finish (record { 0 = n }) ∷ js) (sym a.0))
take_finish_guard past m s u js e _ a = absurd a

take_guard : (past : List (Entry Meaning)) (m : Plain) (s : ℕ) (jobs : List Job) → m.jobs ≡ jobs → (r : Reply) → AnswersTake past m jobs r → Guard m s (change_of m s event.Take r)
take_guard past m s [] e r a = absurd a
take_guard past m s (job.Start u ∷ js) e r a = subst (λ r. Guard m s (change_of m s event.Take r)) (sym a) (refl, js, e)
take_guard past m s (job.Finish u ∷ js) e r a = take_finish_guard past m s u js e r a

-- Calls on a unit

pub its_seat : (s : ℕ) (o : Option ℕ) → option_map_or (nat_eq s) o false ≡ true → o ≡ Some s
its_seat s None e = absurd (both_ways false refl e)
its_seat s (Some n) e = ap Some (sym (eqb-true s n e))

pub call_cases : {G : Type 0} (m : Plain) (s : ℕ) (u : UnitId) (test : UnitRow → Bool) (P : UnitRow → Type 0) (r : Reply) → AnswersCall (called m s u test) u P r →
    ((x : UnitRow) → slice_get m.units u.0 ≡ Some x → is_defunct x.phase ≡ true → r ≡ reply.Defunct u → G) →
    (r ≡ reply.WrongPhase u → ((x : UnitRow) → slice_get m.units u.0 ≡ Some x → (is_defunct x.phase ≡ false) × (is_held s x && test x ≡ false)) → G) →
    ((x : UnitRow) → slice_get m.units u.0 ≡ Some x → is_defunct x.phase ≡ false → x.seat ≡ Some s → test x ≡ true → P x → G) → G
call_cases {G} m s u test P r a gone wrong right = split (slice_get m.units u.0) refl a
  where
    split : (o : Option UnitRow) → slice_get m.units u.0 ≡ o → AnswersCall (option_map_or (λ x. if is_defunct x.phase then Gone else (if is_held s x && test x then Right x else Wrong)) o Wrong) u P r → G
    split None e b = wrong b (λ x f. none_there (slice_get m.units u.0) x e f)
    split (Some x) e b = chosen (λ c. AnswersCall c u P r → G) (is_defunct x.phase) Gone (if is_held s x && test x then Right x else Wrong)
        (λ d c. gone x e d c)
        (λ d. chosen (λ c. AnswersCall c u P r → G) (is_held s x && test x) (Right x) Wrong
        (λ h c. let p = and_parts (is_held s x) (test x) h in right x e d (its_seat s x.seat p.0) p.1 c)
        (λ h c. wrong c (λ y f. subst (λ (z : UnitRow). (is_defunct z.phase ≡ false) × (is_held s z && test z ≡ false)) (same_element (slice_get m.units u.0) x y e f) (d, h)))) b

place_right : (m : Plain) (s : ℕ) (u : UnitId) (shape : Shape) (r : Reply) → (x : UnitRow) → slice_get m.units u.0 ≡ Some x → x.seat ≡ Some s → x.phase ≡ stage.Started → unit_shape x ≡ Some shape → AnswersPlace m shape r → Guard m s (change_of m s (event.Place u shape) r)
place_right m s u shape (reply.Placed base) x t h f e a = (x, t, h, (f, (shape, e, a)))
place_right m s u shape (reply.NoRoom need) x t h f e a = tt
place_right m s u shape _ x t h f e a = absurd a

-- what a unit's externals match is what its link matched
link_found : (m : Plain) (u : ℕ) (x : UnitRow) → slice_get m.units u ≡ Some x → linked_matches m u ≡ link_matches m x
link_found m u x t = ap (λ o. option_map_or (link_matches m) o []) t

link_right : (m : Plain) (s : ℕ) (u : UnitId) (r : Reply) → is_defunct_reply r ≡ false → (is_lodged_reply r ≡ true → Held m s u.0 (λ x. (can_link x ≡ true) × (linked_matches m u.0 ≡ link_matches m x) × (alias_cycle m u.0 x ≡ None) × GoodMatches m (linked_matches m u.0))) → Guard m s (change_of m s (event.Link u) r)
link_right m s u (reply.Done q) n h = h refl
link_right m s u (reply.Pending q) n h = h refl
link_right m s u (reply.Defunct v) n h = absurd (both_ways true n refl)
link_right m s u _ n h = tt

emit_right : (m : Plain) (s : ℕ) (u : UnitId) (groups : List Group) (r : Reply) → is_defunct_reply r ≡ false → (is_emitted_reply r ≡ true → Held m s u.0 (λ x. (x.phase ≡ stage.Finishing) × (bad_dep m.rows groups ≡ None) × (can_emit x ≡ true) × IsOwnEmission m u.0 x groups)) → Guard m s (change_of m s (event.Emit u groups) r)
emit_right m s u groups reply.Emitted n h = h refl
emit_right m s u groups (reply.Defunct v) n h = absurd (both_ways true n refl)
emit_right m s u groups _ n h = tt

bad_other : (test : Reply → Bool) → ((i : InstId) → test (reply.BadDep i) ≡ false) → (rows : List InstRow) (groups : List Group) → AllReplies (λ r. test r ≡ false) (bad_dep rows groups)
bad_other test h rows groups = replies_first (λ r. test r ≡ false) (λ (i : InstId). only_if (failed_at rows i.0 || not (present_at rows i.0) || unsearched_at rows i.0) (reply.BadDep i))
    (λ i. replies_only (λ r. test r ≡ false) (failed_at rows i.0 || not (present_at rows i.0) || unsearched_at rows i.0) (reply.BadDep i) (h i)) (flat_map (λ (g : Group). g.deps) groups)

pub guard_of : (jmax : ℕ) (past : List (Entry Meaning)) (m : Plain) (s : ℕ) (e : Event Meaning) (r : Reply) → Answers jmax past m s e r → Guard m s (change_of m s e r)
guard_of jmax past m s (event.Dylib name) r a = dylib_guard m s name r (ap is_defunct_reply a ∙ dylib_plain m name)
guard_of jmax past m s (event.SetOrder d order) r a = order_guard m s d order r (ap is_defunct_reply a.1 ∙ order_plain m d order)
guard_of jmax past m s (event.Attach d t u) r a = attach_guard m s d t u r (ap is_defunct_reply a.1 ∙ attach_plain m d t)
guard_of jmax past m s (event.Define d t u) r a = define_guard m s d t u r (ap is_defunct_reply a.1 ∙ define_plain m d t u)
guard_of jmax past m s (event.Generate g) r a = generate_guard m s g r (ap is_defunct_reply a ∙ generate_plain m g)
guard_of jmax past m s (event.Ask order wanted lev n) r a = ask_guard m s order wanted lev n r (ap is_defunct_reply a.2 ∙ ask_plain m order wanted lev) (λ l. ask_good m order wanted lev (ap is_lodged_reply (sym a.2) ∙ l))
guard_of jmax past m s (event.Collect q) r a = collect_guard m s q r (collect_plain past m q.0 r a)
guard_of jmax past m s event.Take r a = take_guard past m s m.jobs refl r a
guard_of jmax past m s (event.Place u shape) r a = call_cases m s u can_place (λ x. (unit_shape x ≡ Some shape) × AnswersPlace m shape r) r a
    (λ x t d e. subst (λ y. Guard m s (change_of m s (event.Place u shape) y)) (sym e) (refl, x, t, d))
    (λ e w. subst (λ y. Guard m s (change_of m s (event.Place u shape) y)) (sym e) tt)
    (λ x t d h f p. place_right m s u shape r x t h (started_stage x.phase (and_parts (is_stage stage.Started x.phase) (is_some (unit_shape x)) f).0) p.0 p.1)
guard_of jmax past m s (event.Resolve u) r a = call_cases m s u can_resolve (λ x. r ≡ reply.Resolved) r a
    (λ x t d e. subst (λ y. Guard m s (change_of m s (event.Resolve u) y)) (sym e) (refl, x, t, d))
    (λ e w. subst (λ y. Guard m s (change_of m s (event.Resolve u) y)) (sym e) tt)
    (λ x t d h f e. subst (λ y. Guard m s (change_of m s (event.Resolve u) y)) (sym e) (x, t, h, f))
guard_of jmax past m s (event.Link u) r a = call_cases m s u can_link (λ x. r ≡ answer_link m u.0 x) r a
    (λ x t d e. subst (λ y. Guard m s (change_of m s (event.Link u) y)) (sym e) (refl, x, t, d))
    (λ e w. subst (λ y. Guard m s (change_of m s (event.Link u) y)) (sym e) tt)
    (λ x t d h f e. link_right m s u r (ap is_defunct_reply e ∙ link_plain m u.0 x)
    (λ l. let g = link_good m u.0 x (ap is_lodged_reply (sym e) ∙ l) in (x, t, h, (f, link_found m u.0 x t, g.0, subst (GoodMatches m) (sym (link_found m u.0 x t)) g.1))))
guard_of jmax past m s (event.Emit u groups) r a = call_cases m s u can_emit (λ x. AnswersEmit m u.0 groups x r) r a
    (λ x t d e. subst (λ y. Guard m s (change_of m s (event.Emit u groups) y)) (sym e) (refl, x, t, d))
    (λ e w. subst (λ y. Guard m s (change_of m s (event.Emit u groups) y)) (sym e) tt)
    (λ x t d h f p. emit_right m s u groups r
    (ap is_defunct_reply p.2 ∙ replies_or (λ y. is_defunct_reply y ≡ false) (bad_dep m.rows groups) reply.Emitted (bad_other is_defunct_reply (λ i. refl) m.rows groups) refl)
    (λ l. (
      x,
      t,
      h,
      (
        emittable x f,
        (none_given is_emitted_reply (bad_dep m.rows groups) reply.Emitted (bad_other is_emitted_reply (λ i. refl) m.rows groups) (ap is_emitted_reply (sym p.2) ∙ l)).0,
        f,
        record { own = p.0; passed = p.1 },
      ),
    )))
guard_of jmax past m s (event.Fail u cause) r a = call_cases m s u (λ x. true) (λ x. HasCause jmax past m u.0 x cause × (r ≡ reply.Failed)) r a
    (λ x t d e. subst (λ y. Guard m s (change_of m s (event.Fail u cause) y)) (sym e) (refl, x, t, d))
    (λ e w. subst (λ y. Guard m s (change_of m s (event.Fail u cause) y)) (sym e) tt)
    (λ x t d h f p. subst (λ y. Guard m s (change_of m s (event.Fail u cause) y)) (sym p.1) (x, t, h, d))
guard_of jmax past m s (event.Tracker d) r a = tracker_guard m s d r (ap is_defunct_reply a ∙ tracker_plain m d)
guard_of jmax past m s (event.MoveTracker t to) r a = move_guard m s t to r (ap is_defunct_reply a ∙ move_plain m t to)
guard_of jmax past m s (event.Remove t) r a = remove_guard m s t r (ap is_defunct_reply a ∙ remove_plain m t)
guard_of jmax past m s event.Image r a = image_guard m s r (ap is_defunct_reply a)
