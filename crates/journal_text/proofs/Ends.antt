-- What a right reply's text doesn't show follows from the entries before it.
use Rattle.std.proofs.Common.{◌≡◌, ℕ, Bool, true, false, List, [], ◌∷◌, ◌++◌, map, get_or, drop, Some, sym, refl, ap, ◌∙◌, subst, ⊎_elim}
use Rattle.std.proofs.lemmas.Bool.{both_ways, cases_Bool}
use Rattle.std.proofs.lemmas.Option.{same_Some}
use Rattle.session_model.proofs.Units.{call_one}
use Rattle.orc_ids.specs.declared.ids.UnitId.{UnitId}
use Rattle.session_model.specs.Answer.{Answers, AnswersEmit, AnswersPlace, AnswersTake, HasCause, LinkEnded, answer_link, called, can_emit, can_link, can_place, can_resolve}
use Rattle.session_model.specs.Meaning.{Meaning, Bindings}
use Rattle.session_model.specs.Plain.{Plain, UnitRow, unit_shape}
use Rattle.session_model.specs.declared.rows.Ending.{Ending}
use Rattle.session_model.specs.declared.rows.Ending.TheVariants.{Found, Lost}
use Rattle.session_model.specs.State.{IsEnd, after}
use Rattle.session_model.specs.History.{LegalFrom}
use Rattle.session_model.specs.declared.entry.Entry.{Entry}
use Rattle.session_model.specs.declared.entry.Event.{Event}
use Rattle.session_model.specs.declared.entry.Event.TheVariants as event
use Rattle.session_model.specs.declared.entry.Finishing.TheVariants as finishing
use Rattle.session_model.specs.declared.entry.Reply.{Reply}
use Rattle.session_model.specs.declared.entry.Reply.TheVariants as reply
use Rattle.session_model.specs.declared.rows.Job.{Job}
use Rattle.session_model.specs.declared.rows.Job.TheVariants as job
use Rattle.session_laws.proofs.Declared.{end_is_unique}
use Rattle.journal_text.specs.Laws.{shown_reply, shown}

-- Replies whose text hides something

abbrev is_bound : Reply → Bool
is_bound (reply.Finish u (finishing.Bound matches)) = true
is_bound _ = false

shown_whole : (r : Reply) → is_bound r ≡ false → shown_reply r ≡ r
shown_whole (reply.Finish u (finishing.Bound matches)) e = absurd (both_ways true e refl)
shown_whole _ e = refl

still_bound : (r : Reply) → is_bound (shown_reply r) ≡ is_bound r
still_bound (reply.Finish u (finishing.Bound matches)) = refl
still_bound _ = refl

-- it is one of bindings
record IsBoundReply (r : Reply) : Type 0 where
  unit : UnitId
  bindings : Bindings
  it : r ≡ reply.Finish unit (finishing.Bound bindings)

bound_so : (r : Reply) → is_bound r ≡ true → IsBoundReply r
bound_so (reply.Finish u (finishing.Bound matches)) e = record { unit = u; bindings = matches; it = refl }
bound_so _ e = absurd (both_ways false refl e)

-- the unit of a Finish
abbrev finished : Reply → UnitId
finished (reply.Finish u end) = u
finished _ = record { 0 = 0 }

-- Right replies of bindings

abbrev found_in : Ending → Bindings
found_in (Found bindings) = bindings
found_in (Lost i) = []

ends_agree : (past : List (Entry Meaning)) (m : Plain) (u : ℕ) (a b : Bindings) → LinkEnded past m u (Found a) → LinkEnded past m u (Found b) → a ≡ b
ends_agree past m u a b x y =
    let unit : x.unit ≡ y.unit = same_Some x.unit y.unit (sym x.there ∙ y.there) in
    let query : x.query ≡ y.query = same_Some x.query y.query (sym x.its ∙ ap (λ (r : UnitRow). r.query) unit ∙ y.its) in
    ap found_in (end_is_unique past y.query x.at y.at (Found a) (Found b) (subst (λ q. IsEnd past q x.at (Found a)) query x.ended) y.ended).1

jobs_agree : (past : List (Entry Meaning)) (m : Plain) (jobs : List Job) (u v : UnitId) (a b : Bindings) → u ≡ v → AnswersTake past m jobs (reply.Finish u (finishing.Bound a)) → AnswersTake past m jobs (reply.Finish v (finishing.Bound b)) →
    reply.Finish u (finishing.Bound a) ≡ reply.Finish v (finishing.Bound b)
jobs_agree past m [] u v a b same x y = absurd x
jobs_agree past m (job.Start w ∷ js) u v a b same x y = x ∙ sym y
jobs_agree past m (job.Finish w ∷ js) u v a b same x y = let ends = ends_agree past m w.0 a b x.1 y.1 in λ i. reply.Finish (same i) (finishing.Bound (ends i))

-- two right replies of bindings to one event are the same
bindings_agree : (jmax : ℕ) (past : List (Entry Meaning)) (m : Plain) (seat : ℕ) (e : Event Meaning) (u v : UnitId) (a b : Bindings) → u ≡ v →
    Answers jmax past m seat e (reply.Finish u (finishing.Bound a)) → Answers jmax past m seat e (reply.Finish v (finishing.Bound b)) → reply.Finish u (finishing.Bound a) ≡ reply.Finish v (finishing.Bound b)
bindings_agree jmax past m seat (event.Dylib name) u v a b same x y = x ∙ sym y
bindings_agree jmax past m seat (event.SetOrder d order) u v a b same x y = x.1 ∙ sym y.1
bindings_agree jmax past m seat (event.Attach d t w) u v a b same x y = x.1 ∙ sym y.1
bindings_agree jmax past m seat (event.Define d t w) u v a b same x y = x.1 ∙ sym y.1
bindings_agree jmax past m seat (event.Generate g) u v a b same x y = x ∙ sym y
bindings_agree jmax past m seat (event.Ask order wanted lev n) u v a b same x y = x.2 ∙ sym y.2
bindings_agree jmax past m seat (event.Collect q) u v a b same x y = absurd x
bindings_agree jmax past m seat event.Take u v a b same x y = jobs_agree past m m.jobs u v a b same x y
bindings_agree jmax past m seat (event.Place w shape) u v a b same x y = call_one (called m seat w can_place) w (λ row r. (unit_shape row ≡ Some shape) × AnswersPlace m shape r) (reply.Finish u (finishing.Bound a)) (reply.Finish v (finishing.Bound b)) (λ row p q. absurd p.1) x y
bindings_agree jmax past m seat (event.Resolve w) u v a b same x y = call_one (called m seat w can_resolve) w (λ row r. r ≡ reply.Resolved) (reply.Finish u (finishing.Bound a)) (reply.Finish v (finishing.Bound b)) (λ row p q. p ∙ sym q) x y
bindings_agree jmax past m seat (event.Link w) u v a b same x y = call_one (called m seat w can_link) w (λ row r. r ≡ answer_link m w.0 row) (reply.Finish u (finishing.Bound a)) (reply.Finish v (finishing.Bound b)) (λ row p q. p ∙ sym q) x y
bindings_agree jmax past m seat (event.Emit w groups) u v a b same x y = call_one (called m seat w can_emit) w (λ row r. AnswersEmit m w.0 groups row r) (reply.Finish u (finishing.Bound a)) (reply.Finish v (finishing.Bound b)) (λ row p q. p.2 ∙ sym q.2) x y
bindings_agree jmax past m seat (event.Fail w cause) u v a b same x y = call_one (called m seat w (λ row. true)) w (λ row r. HasCause jmax past m w.0 row cause × (r ≡ reply.Failed)) (reply.Finish u (finishing.Bound a)) (reply.Finish v (finishing.Bound b)) (λ row p q. p.1 ∙ sym q.1) x y
bindings_agree jmax past m seat (event.Tracker d) u v a b same x y = x ∙ sym y
bindings_agree jmax past m seat (event.MoveTracker t to) u v a b same x y = x ∙ sym y
bindings_agree jmax past m seat (event.Remove t) u v a b same x y = x ∙ sym y
bindings_agree jmax past m seat event.Image u v a b same x y = x ∙ sym y

replies_agree : (jmax : ℕ) (past : List (Entry Meaning)) (m : Plain) (seat : ℕ) (e : Event Meaning) (r s : Reply) → Answers jmax past m seat e r → Answers jmax past m seat e s → shown_reply r ≡ shown_reply s → r ≡ s
replies_agree jmax past m seat e r s x y same = ⊎_elim hidden (λ no_r. sym (shown_whole r no_r) ∙ same ∙ shown_whole s (sym alike ∙ no_r)) (cases_Bool (is_bound r))
  where
    alike : is_bound r ≡ is_bound s
    alike = sym (still_bound r) ∙ ap is_bound same ∙ still_bound s

    hidden : is_bound r ≡ true → r ≡ s
    hidden yes_r =
        let p = bound_so r yes_r in
        let q = bound_so s (sym alike ∙ yes_r) in
        let shows : shown_reply (reply.Finish p.unit (finishing.Bound p.bindings)) ≡ shown_reply (reply.Finish q.unit (finishing.Bound q.bindings)) = ap shown_reply (sym p.it) ∙ same ∙ ap shown_reply q.it in
        p.it
        ∙ bindings_agree jmax past m seat e p.unit q.unit p.bindings q.bindings (ap finished shows) (subst (Answers jmax past m seat e) p.it x) (subst (Answers jmax past m seat e) q.it y)
        ∙ sym q.it

-- entries that are right here and show the same are the same
pub entries_agree : (jmax : ℕ) (past : List (Entry Meaning)) (m : Plain) (a b : Entry Meaning) → Answers jmax past m a.seat.0 a.event a.reply → Answers jmax past m b.seat.0 b.event b.reply → shown a ≡ shown b → a ≡ b
entries_agree jmax past m a b x y same =
    let seat : a.seat ≡ b.seat = ap (λ (e : Entry Meaning). e.seat) same in
    let asked : a.event ≡ b.event = ap (λ (e : Entry Meaning). e.event) same in
    let there : Answers jmax past m a.seat.0 a.event b.reply = subst (λ v. Answers jmax past m a.seat.0 v b.reply) (sym asked) (subst (λ s. Answers jmax past m s.0 b.event b.reply) (sym seat) y) in
    let answered : a.reply ≡ b.reply = replies_agree jmax past m a.seat.0 a.event a.reply b.reply x there (ap (λ (e : Entry Meaning). e.reply) same) in
    λ i. record { seat = seat i; event = asked i; reply = answered i }

abbrev shows_none : {X : Type 0} → List X → Bool
shows_none [] = true
shows_none (x ∷ xs) = false

-- legal histories that show the same are the same
pub histories_agree : (jmax : ℕ) (past : List (Entry Meaning)) (m : Plain) (h k : List (Entry Meaning)) → LegalFrom jmax past m h → LegalFrom jmax past m k → map shown h ≡ map shown k → h ≡ k
histories_agree jmax past m [] [] l j same = refl
histories_agree jmax past m [] (b ∷ ys) l j same = absurd (both_ways true (ap shows_none same) refl)
histories_agree jmax past m (a ∷ xs) [] l j same = absurd (both_ways true (sym (ap shows_none same)) refl)
histories_agree jmax past m (a ∷ xs) (b ∷ ys) l j same =
    let here : a ≡ b = entries_agree jmax past m a b l.0 j.0 (ap (λ (es : List (Entry Meaning)). get_or es 0 (shown a)) same) in
    let legal : LegalFrom jmax (past ++ a ∷ []) (after m a) ys = subst (λ x. LegalFrom jmax (past ++ x ∷ []) (after m x) ys) (sym here) j.1 in
    let more = histories_agree jmax (past ++ a ∷ []) (after m a) xs ys l.1 legal (ap (drop 1) same) in
    λ i. here i ∷ more i
