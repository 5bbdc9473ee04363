-- The names that the calls of a job and of a lookup say: each was handed in, or an earlier reply of the same calls said it.
use Rattle.std.proofs.Common.{◌≡◌, ℕ, ℤ, true, false, List, [], ◌∷◌, ◌++◌, take, All, inl, inr, refl, sym, subst, append_assoc, Option, Some, None}
use Rattle.std.specs.Bool.{⊤}
use Rattle.std.specs.List.{AllByRecursion}
use Rattle.std.proofs.lemmas.Bool.{both_ways}
use Rattle.orc_ids.specs.declared.ids.QueryId.{QueryId}
use Rattle.orc_ids.specs.declared.ids.UnitId.{UnitId}
use Rattle.orc_ids.specs.declared.lookup.Wanted.{Wanted}
use Rattle.orc_ids.specs.declared.place.Place.{Place}
use Rattle.session_model.specs.Calls.{AfterBound, AfterEmit, AfterPlace, AfterResolve, AfterStart, AfterTake, Emits, EndsAsk, EndsFinish, EndsLink, IsCut, IsFail, IsJob, Links, Lookup, Looks, Places, Resolves, Works, is_emit, is_place, lookup_event, refusal_of, unit_test}
use Rattle.session_model.specs.Calls.{Cut, Ends, Again as AgainLink}
use Rattle.session_model.specs.Meaning.{Meaning}
use Rattle.session_model.specs.Plain.{Plain, is_alias}
use Rattle.session_model.specs.State.{state}
use Rattle.session_model.specs.declared.entry.Entry.{Entry}
use Rattle.session_model.specs.declared.entry.Event.{Event}
use Rattle.session_model.specs.declared.entry.Event.TheVariants as event
use Rattle.session_model.specs.declared.entry.Finishing.TheVariants as finishing
use Rattle.session_model.specs.declared.entry.Reply.{Reply}
use Rattle.session_model.specs.declared.entry.Reply.TheVariants as reply
use Rattle.session_model.specs.declared.entry.Why.{Why}
use Rattle.session_model.specs.declared.entry.Why.TheVariants as why
use Rattle.session_laws.specs.Entries.{entries}
use Rattle.journal_text.specs.Events.{KnownEvent, KnownWhy}
use Rattle.journal_text.specs.Parts.{IsGiven}
use Rattle.journal_text.specs.Replies.{KnownReply}
use Rattle.known_names.specs.Laws.{HandsInKnown}
use Rattle.run_laws.specs.Runs.{AreJobs, NoJob, OneMore as AnotherJob}
use Rattle.run_laws.proofs.Costs.{either_way}
use Rattle.known_names.specs.Speaking.{Says, Speaks}

-- Lists

stronger : (names : List (List ℕ)) (P Q : Type 0) → (Q → P) → (es : List (Entry Meaning)) → Speaks names P es → Speaks names Q es
stronger names P Q f [] s = tt
stronger names P Q f (e ∷ es) s = ((s.0.0, λ q. s.0.1 (f q)), stronger names (P × KnownReply names e.reply) (Q × KnownReply names e.reply) (λ q. (f q.0, q.1)) es s.1)

pub joined : (names : List (List ℕ)) (P : Type 0) (xs ys : List (ℕ × Entry Meaning)) → Speaks names P (entries xs) → Speaks names P (entries ys) → Speaks names P (entries (xs ++ ys))
joined names P [] ys a b = b
joined names P (x ∷ xs) ys a b = (a.0, joined names (P × KnownReply names x.1.reply) xs ys a.1 (stronger names P (P × KnownReply names x.1.reply) (λ p. p.0) (entries ys) b))

pub front : (names : List (List ℕ)) (P : Type 0) (xs ys : List (ℕ × Entry Meaning)) → Speaks names P (entries (xs ++ ys)) → Speaks names P (entries xs)
front names P [] ys a = tt
front names P (x ∷ xs) ys a = (a.0, front names (P × KnownReply names x.1.reply) xs ys a.1)

pub none : (names : List (List ℕ)) (P : Type 0) (es : List (Entry Meaning)) → es ≡ [] → Speaks names P es
none names P es e = subst (Speaks names P) (sym e) tt

-- an event that has no name of its own
pub plain_says : (names : List (List ℕ)) (P : Type 0) (v w : Event Meaning) → v ≡ w → HandsInKnown names w → KnownEvent names w → Says names P v
plain_says names P v w e h k = subst (Says names P) (sym e) (h, λ p. k)

-- The parts of a job

fail_speaks : (names : List (List ℕ)) (u : UnitId) (cause : Why) (es : List (Entry Meaning)) → IsFail u cause es → Speaks names (KnownWhy names cause) es
fail_speaks names u cause [] f = absurd f
fail_speaks names u cause (e ∷ []) f = (subst (Says names (KnownWhy names cause)) (sym f) (tt, λ k. k), tt)
fail_speaks names u cause (e ∷ d ∷ es) f = absurd f

-- a fail of a cause without a name
plain_fail : (names : List (List ℕ)) (P : Type 0) (u : UnitId) (cause : Why) (es : List (Entry Meaning)) → KnownWhy names cause → IsFail u cause es → Speaks names P es
plain_fail names P u cause es k f = stronger names (KnownWhy names cause) P (λ p. k) es (fail_speaks names u cause es f)

cut_speaks : (names : List (List ℕ)) (P : Type 0) (u : UnitId) (es : List (Entry Meaning)) → IsCut u es → Speaks names P es
cut_speaks names P u es (inl f) = plain_fail names P u why.NoMemory es tt f
cut_speaks names P u es (inr f) = plain_fail names P u why.Full es tt f

-- what a link says is missing, its fail says
ends_link_speaks : (names : List (List ℕ)) (P : Type 0) (u : UnitId) (r : Reply) (es : List (Entry Meaning)) → EndsLink u r es → Speaks names (P × KnownReply names r) es
ends_link_speaks names P u (reply.Done q) es f = none names (P × ⊤) es f
ends_link_speaks names P u (reply.Pending q) es f = none names (P × ⊤) es f
ends_link_speaks names P u (reply.Defunct v) es f = none names (P × ⊤) es f
ends_link_speaks names P u (reply.Missing name) es f = stronger names (IsGiven names name) (P × IsGiven names name) (λ p. p.1) es (fail_speaks names u (why.Missing name) es f)
ends_link_speaks names P u (reply.InError i) es f = plain_fail names (P × ⊤) u (why.InError i) es tt f
ends_link_speaks names P u (reply.AliasCycle i) es f = plain_fail names (P × ⊤) u (why.AliasCycle i) es tt f
ends_link_speaks names P u (reply.Offer g) es f = cut_speaks names (P × ⊤) u es f
ends_link_speaks names P u _ es f = absurd f

links_speak : (names : List (List ℕ)) (u : UnitId) (P : Type 0) (es : List (Entry Meaning)) → Links u es → Speaks names P es
links_speak names u P es (Cut ds c) = cut_speaks names P u es c
links_speak names u P es (Ends e ds is ends) = (plain_says names P e.event (event.Link u) is tt tt, ends_link_speaks names P u e.reply ds ends)
links_speak names u P es (AgainLink e f g ds is o uses links) = (
  plain_says names P e.event (event.Link u) is tt tt,
  (plain_says names (P × KnownReply names e.reply) f.event (event.Generate g) uses tt tt, links_speak names u ((P × KnownReply names e.reply) × KnownReply names f.reply) ds links),
)

after_resolve_speaks : (names : List (List ℕ)) (Next : List (Entry Meaning) → Type 0) → ((P : Type 0) (es : List (Entry Meaning)) → Next es → Speaks names P es) → (P : Type 0) (r : Reply) (es : List (Entry Meaning)) → AfterResolve Next r es → Speaks names P es
after_resolve_speaks names Next next P reply.Resolved es f = next P es f
after_resolve_speaks names Next next P (reply.Defunct v) es f = none names P es f
after_resolve_speaks names Next next P _ es f = absurd f

resolves_speak : (names : List (List ℕ)) (Next : List (Entry Meaning) → Type 0) → ((P : Type 0) (es : List (Entry Meaning)) → Next es → Speaks names P es) → (P : Type 0) (u : UnitId) (es : List (Entry Meaning)) → Resolves Next u es → Speaks names P es
resolves_speak names Next next P u [] f = absurd f
resolves_speak names Next next P u (e ∷ es) (inl c) = cut_speaks names P u (e ∷ es) c
resolves_speak names Next next P u (e ∷ es) (inr p) = (plain_says names P e.event (event.Resolve u) p.0 tt tt, after_resolve_speaks names Next next (P × KnownReply names e.reply) e.reply es p.1)

resolve_links_speak : (names : List (List ℕ)) (P : Type 0) (u : UnitId) (es : List (Entry Meaning)) → Resolves (Links u) u es → Speaks names P es
resolve_links_speak names P u es f = resolves_speak names (Links u) (λ Q ds l. links_speak names u Q ds l) P u es f

after_place_speaks : (names : List (List ℕ)) (P : Type 0) (u : UnitId) (r : Reply) (es : List (Entry Meaning)) → AfterPlace u r es → Speaks names P es
after_place_speaks names P u (reply.Placed base) es f = resolve_links_speak names P u es f
after_place_speaks names P u (reply.NoRoom need) es f = plain_fail names P u (why.NoRoom need) es tt f
after_place_speaks names P u (reply.Defunct v) es f = none names P es f
after_place_speaks names P u _ es f = absurd f

place_says : (names : List (List ℕ)) (P : Type 0) (u : UnitId) (v : Event Meaning) → is_place u v ≡ true → Says names P v
place_says names P u (event.Place w shape) f = (tt, λ p. tt)
place_says names P u _ f = absurd (both_ways false refl f)

emit_says : (names : List (List ℕ)) (P : Type 0) (u : UnitId) (v : Event Meaning) → is_emit u v ≡ true → Says names P v
emit_says names P u (event.Emit w groups) f = (tt, λ p. tt)
emit_says names P u _ f = absurd (both_ways false refl f)

places_speak : (names : List (List ℕ)) (P : Type 0) (u : UnitId) (es : List (Entry Meaning)) → Places u es → Speaks names P es
places_speak names P u [] f = absurd f
places_speak names P u (e ∷ es) (inl c) = cut_speaks names P u (e ∷ es) c
places_speak names P u (e ∷ es) (inr p) = (place_says names P u e.event p.0, after_place_speaks names (P × KnownReply names e.reply) u e.reply es p.1)

after_emit_speaks : (names : List (List ℕ)) (P : Type 0) (u : UnitId) (r : Reply) (es : List (Entry Meaning)) → AfterEmit u r es → Speaks names P es
after_emit_speaks names P u reply.Emitted es f = none names P es f
after_emit_speaks names P u (reply.BadDep i) es f = plain_fail names P u (why.BadDep i) es tt f
after_emit_speaks names P u (reply.Defunct v) es f = none names P es f
after_emit_speaks names P u _ es f = absurd f

ends_finish_speaks : (names : List (List ℕ)) (P : Type 0) (u : UnitId) (refusal : Option (Place × ℕ × ℤ)) (es : List (Entry Meaning)) → EndsFinish u refusal es → Speaks names P es
ends_finish_speaks names P u (Some (place, kind, v)) es f = plain_fail names P u (why.Refused place kind v) es tt f
ends_finish_speaks names P u None [] f = absurd f
ends_finish_speaks names P u None (e ∷ es) p = (emit_says names P u e.event p.0, after_emit_speaks names (P × KnownReply names e.reply) u e.reply es p.1)

emits_speak : (names : List (List ℕ)) (P : Type 0) (u : UnitId) (refusal : Option (Place × ℕ × ℤ)) (es : List (Entry Meaning)) → Emits u refusal es → Speaks names P es
emits_speak names P u refusal es (inl c) = cut_speaks names P u es c
emits_speak names P u refusal es (inr f) = ends_finish_speaks names P u refusal es f

after_start_speaks : (names : List (List ℕ)) (P : Type 0) (m : Plain) (u : UnitId) (es : List (Entry Meaning)) → AfterStart m u es → Speaks names P es
after_start_speaks names P m u es f = either_way (unit_test is_alias m u) (Links u es) _
    (links_speak names u P es)
    (either_way _ (Places u es) (Resolves (Links u) u es) (places_speak names P u es) (resolve_links_speak names P u es)) f

after_bound_speaks : (names : List (List ℕ)) (P : Type 0) (m : Plain) (u : UnitId) (es : List (Entry Meaning)) → AfterBound m u es → Speaks names P es
after_bound_speaks names P m u es f = either_way (unit_test is_alias m u) (Resolves (Emits u (refusal_of m u)) u es) (Emits u (refusal_of m u) es)
    (resolves_speak names (Emits u (refusal_of m u)) (λ Q ds l. emits_speak names Q u (refusal_of m u) ds l) P u es)
    (emits_speak names P u (refusal_of m u) es) f

after_take_speaks : (names : List (List ℕ)) (P : Type 0) (m : Plain) (r : Reply) (es : List (Entry Meaning)) → AfterTake m r es → Speaks names P es
after_take_speaks names P m (reply.Start u) es f = after_start_speaks names P m u es f
after_take_speaks names P m (reply.Finish u (finishing.Bound matches)) es f = after_bound_speaks names P m u es f
after_take_speaks names P m (reply.Finish u (finishing.Lost i)) es f = plain_fail names P u (why.InError i) es tt f
after_take_speaks names P m _ es f = absurd f

-- Jobs

job_speaks : (names : List (List ℕ)) (P : Type 0) (h : List (Entry Meaning)) (cs : List (ℕ × Entry Meaning)) → IsJob h cs → Speaks names P (entries cs)
job_speaks names P h [] job = absurd job
job_speaks names P h (c ∷ cs) job = (plain_says names P c.1.event event.Take job.0 tt tt, after_take_speaks names (P × KnownReply names c.1.reply) (state (take c.0 h)) c.1.reply (entries cs) job.1)

pub jobs_speak : (names : List (List ℕ)) (h : List (Entry Meaning)) (cs : List (ℕ × Entry Meaning)) → AreJobs h cs → Speaks names ⊤ (entries cs)
jobs_speak names h cs NoJob = tt
jobs_speak names h cs (AnotherJob before job jobs is) = joined names ⊤ before job (jobs_speak names h before jobs) (job_speaks names ⊤ h job is)

-- A lookup

works_speak : (names : List (List ℕ)) (P : Type 0) (h : List (Entry Meaning)) (q : QueryId) (n : ℕ) (cs : List (ℕ × Entry Meaning)) → Works h q n cs → Speaks names P (entries cs)
works_speak names P h q n cs (Works.Collects k m e is got) = (plain_says names P e.event (event.Collect q) is tt tt, tt)
works_speak names P h q n cs (Works.Job k m query last before rest there unmet job works) = subst (λ l. Speaks names P (entries l)) (append_assoc before (last ∷ []) rest)
    (joined names P (before ++ last ∷ []) rest (job_speaks names P h (before ++ last ∷ []) job) (works_speak names P h q last.0 rest works))

ends_ask_speaks : (names : List (List ℕ)) (P : Type 0) (h : List (Entry Meaning)) (n : ℕ) (r : Reply) (cs : List (ℕ × Entry Meaning)) → EndsAsk h n r cs → Speaks names P (entries cs)
ends_ask_speaks names P h n (reply.Done q) cs w = works_speak names P h q n cs w
ends_ask_speaks names P h n (reply.Pending q) cs w = works_speak names P h q n cs w
ends_ask_speaks names P h n (reply.InError i) cs e = subst (λ l. Speaks names P (entries l)) (sym e) tt
ends_ask_speaks names P h n (reply.Missing name) cs e = subst (λ l. Speaks names P (entries l)) (sym e) tt
ends_ask_speaks names P h n (reply.NoDylib d) cs e = subst (λ l. Speaks names P (entries l)) (sym e) tt
ends_ask_speaks names P h n _ cs e = absurd e

pub looks_speak : (names : List (List ℕ)) (h : List (Entry Meaning)) (l : Lookup) → All (λ (w : Wanted). IsGiven names w.name) l.wanted → (P : Type 0) (cs : List (ℕ × Entry Meaning)) → Looks h l cs → Speaks names P (entries cs)
looks_speak names h l given P cs (Looks.Asks n e ds is ends) = (plain_says names P e.event (lookup_event l) is given given, ends_ask_speaks names (P × KnownReply names e.reply) h n e.reply ds ends)
looks_speak names h l given P cs (Looks.Again n m e f g ds is o uses looks) = (
  plain_says names P e.event (lookup_event l) is given given,
  (plain_says names (P × KnownReply names e.reply) f.event (event.Generate g) uses tt tt, looks_speak names h l given ((P × KnownReply names e.reply) × KnownReply names f.reply) ds looks),
)

-- copies of the memory have no name
pub copies_speak : (names : List (List ℕ)) (P : Type 0) (cs : List (ℕ × Entry Meaning)) → AllByRecursion (λ (c : ℕ × Entry Meaning). c.1.event ≡ event.Image) cs → Speaks names P (entries cs)
copies_speak names P [] a = tt
copies_speak names P (c ∷ cs) a = (plain_says names P c.1.event event.Image a.0 tt tt, copies_speak names (P × KnownReply names c.1.reply) cs a.1)

pub then_copies : (names : List (List ℕ)) (looked copied : List (ℕ × Entry Meaning)) → Speaks names ⊤ (entries looked) → AllByRecursion (λ (c : ℕ × Entry Meaning). c.1.event ≡ event.Image) copied → Speaks names ⊤ (entries (looked ++ copied))
then_copies names looked copied a b = joined names ⊤ looked copied a (copies_speak names ⊤ copied b)

-- What is known of the calls

pub hands_in : (names : List (List ℕ)) (P : Type 0) (cs : List (ℕ × Entry Meaning)) → Speaks names P (entries cs) → AllByRecursion (λ (c : ℕ × Entry Meaning). HandsInKnown names c.1.event) cs
hands_in names P [] s = tt
hands_in names P (c ∷ cs) s = (s.0.0, hands_in names (P × KnownReply names c.1.reply) cs s.1)

pub says : (names : List (List ℕ)) (P : Type 0) (cs : List (ℕ × Entry Meaning)) → P → Speaks names P (entries cs) → AllByRecursion (λ (c : ℕ × Entry Meaning). KnownReply names c.1.reply) cs → AllByRecursion (λ (c : ℕ × Entry Meaning). KnownEvent names c.1.event) cs
says names P [] p s replies = tt
says names P (c ∷ cs) p s replies = (s.0.1 p, says names (P × KnownReply names c.1.reply) cs (p, replies.0) s.1 replies.1)
