-- How many calls jobs and a lookup are, where no generator is offered.
use Rattle.std.proofs.Common.{◌≡◌, ℕ, ◌+◌, ◌*◌, ◌≤◌, Bool, true, false, List, [], ◌∷◌, ◌++◌, length, map, take, ◌⊎◌, inl, inr, refl, sym, ap, ◌∙◌, subst, arith, append-nil, append_assoc, Option, Some, None}
use Rattle.std.specs.Bool.{MatchBool}
use Rattle.std.specs.List.{AllByRecursion}
use Rattle.std.proofs.lemmas.Bool.{both_ways}
use Rattle.std.proofs.lemmas.List.{length-append, length-map, map-append}
use Rattle.std.specs.Prelude.{ℤ}
use Rattle.orc_ids.specs.declared.ids.GenId.{GenId}
use Rattle.orc_ids.specs.declared.ids.QueryId.{QueryId}
use Rattle.orc_ids.specs.declared.ids.UnitId.{UnitId}
use Rattle.orc_ids.specs.declared.place.Place.{Place}
use Rattle.session_model.specs.Calls.{AfterBound, AfterEmit, AfterPlace, AfterResolve, AfterStart, AfterTake, Emits, EndsAsk, EndsFinish, EndsLink, IsCut, IsFail, IsJob, Links, Lookup, Looks, Places, Resolves, Works, is_emit, is_place, refusal_of, unit_test}
use Rattle.session_model.specs.Calls.{Cut, Ends, Again as AgainLink}
use Rattle.session_model.specs.Meaning.{Meaning}
use Rattle.session_model.specs.Plain.{Plain, is_alias}
use Rattle.session_model.specs.State.{state}
use Rattle.session_model.specs.declared.entry.Entry.{Entry}
use Rattle.session_model.specs.declared.entry.Event.{Event}
use Rattle.session_model.specs.declared.entry.Event.TheVariants as event
use Rattle.session_model.specs.declared.entry.Finishing.TheVariants as finishing
use Rattle.session_model.specs.declared.entry.Reply.{Reply}
use Rattle.session_model.specs.declared.entry.Reply.TheVariants as reply
use Rattle.session_model.specs.declared.entry.Why.{Why}
use Rattle.session_model.specs.declared.entry.Why.TheVariants as why
use Rattle.run_laws.specs.Runs.{AreJobs, NoJob, OneMore as AnotherJob}
use Rattle.run_laws.proofs.Calm.{IsCall, IsUnoffered, Unoffered, is_call, is_offer}
use Rattle.run_laws.proofs.Falling.{is_take, takes, total}
use Rattle.run_laws.proofs.Seats.{same_head, same_tail}

-- Beginnings of a list

pub front_length : {X : Type 0} (xs ds rest : List X) → xs ≡ ds ++ rest → length ds ≤ length xs
front_length xs ds rest e = let n = ap length e in omega (arith, n, length-append ds rest)

-- The rest of a job: these are calls, and a beginning of them without an offer has so many at most.
record IsWithin (k : ℕ) (es : List (Entry Meaning)) : Type 0 where
  calls : AllByRecursion IsCall es
  few : (ds rest : List (Entry Meaning)) → es ≡ ds ++ rest → AllByRecursion IsUnoffered ds → length ds ≤ k

within_length : (k : ℕ) (es : List (Entry Meaning)) → AllByRecursion IsCall es → length es ≤ k → IsWithin k es
within_length k es calls short = record { calls = calls; few = λ ds rest e un. omega (arith, front_length es ds rest e, short) }

within_none : (k : ℕ) (es : List (Entry Meaning)) → es ≡ [] → IsWithin k es
within_none k es e = subst (IsWithin k) (sym e) (within_length k [] tt (omega arith))

within_more : (j k : ℕ) (es : List (Entry Meaning)) → j ≤ k → IsWithin j es → IsWithin k es
within_more j k es le w = record { calls = w.calls; few = λ ds rest e un. omega (arith, w.few ds rest e un, le) }

within_cons : (k : ℕ) (e : Entry Meaning) (es : List (Entry Meaning)) → IsCall e → IsWithin k es → IsWithin (k + 1) (e ∷ es)
within_cons k e es call w = record { calls = (call, w.calls); few = few }
  where
    few : (ds rest : List (Entry Meaning)) → e ∷ es ≡ ds ++ rest → AllByRecursion IsUnoffered ds → length ds ≤ k + 1
    few [] rest f un = omega arith
    few (d ∷ ds) rest f un = omega (arith, w.few ds rest (same_tail e d es (ds ++ rest) f) un.1)

-- The parts of a job

fail_within : (u : UnitId) (cause : Why) (es : List (Entry Meaning)) → IsFail u cause es → IsWithin 1 es
fail_within u cause [] f = absurd f
fail_within u cause (e ∷ []) f = within_length 1 (e ∷ []) (ap is_call f, tt) (omega arith)
fail_within u cause (e ∷ d ∷ es) f = absurd f

cut_within : (u : UnitId) (es : List (Entry Meaning)) → IsCut u es → IsWithin 1 es
cut_within u es (inl f) = fail_within u why.NoMemory es f
cut_within u es (inr f) = fail_within u why.Full es f

ends_link_within : (u : UnitId) (r : Reply) (es : List (Entry Meaning)) → EndsLink u r es → IsWithin 1 es
ends_link_within u (reply.Done q) es f = within_none 1 es f
ends_link_within u (reply.Pending q) es f = within_none 1 es f
ends_link_within u (reply.Defunct v) es f = within_none 1 es f
ends_link_within u (reply.Missing name) es f = fail_within u (why.Missing name) es f
ends_link_within u (reply.InError i) es f = fail_within u (why.InError i) es f
ends_link_within u (reply.AliasCycle i) es f = fail_within u (why.AliasCycle i) es f
ends_link_within u (reply.Offer g) es f = cut_within u es f
ends_link_within u _ es f = absurd f

-- an offer is none
offered_not : {P : Type 0} (u : UnitId) (e : Entry Meaning) (g : GenId) → e.event ≡ event.Link u → e.reply ≡ reply.Offer g → IsUnoffered e → P
offered_not u e g is o un = absurd (both_ways (is_offer e.reply) (subst (λ v. Unoffered v e.reply) is un) (ap is_offer o))

links_within : (u : UnitId) (es : List (Entry Meaning)) → Links u es → IsWithin 2 es
links_within u es (Cut ds c) = within_more 1 2 es (omega arith) (cut_within u es c)
links_within u es (Ends e ds is ends) = within_cons 1 e ds (ap is_call is) (ends_link_within u e.reply ds ends)
links_within u es (AgainLink e f g ds is o uses links) = record { calls = (ap is_call is, (ap is_call uses, (links_within u ds links).calls)); few = few }
  where
    few : (front rest : List (Entry Meaning)) → e ∷ f ∷ ds ≡ front ++ rest → AllByRecursion IsUnoffered front → length front ≤ 2
    few [] rest eq un = omega arith
    few (d ∷ front) rest eq un = offered_not u e g is o (subst IsUnoffered (sym (same_head e d (f ∷ ds) (front ++ rest) eq)) un.0)

after_resolve_within : (Next : List (Entry Meaning) → Type 0) (k : ℕ) → ((es : List (Entry Meaning)) → Next es → IsWithin k es) → (r : Reply) (es : List (Entry Meaning)) → AfterResolve Next r es → IsWithin k es
after_resolve_within Next k next reply.Resolved es f = next es f
after_resolve_within Next k next (reply.Defunct v) es f = within_none k es f
after_resolve_within Next k next _ es f = absurd f

resolves_within : (Next : List (Entry Meaning) → Type 0) (k : ℕ) → ((es : List (Entry Meaning)) → Next es → IsWithin k es) → (u : UnitId) (es : List (Entry Meaning)) → Resolves Next u es → IsWithin (k + 1) es
resolves_within Next k next u [] f = absurd f
resolves_within Next k next u (e ∷ es) (inl c) = within_more 1 (k + 1) (e ∷ es) (omega arith) (cut_within u (e ∷ es) c)
resolves_within Next k next u (e ∷ es) (inr p) = within_cons k e es (ap is_call p.0) (after_resolve_within Next k next e.reply es p.1)

resolve_links_within : (u : UnitId) (es : List (Entry Meaning)) → Resolves (Links u) u es → IsWithin 3 es
resolve_links_within u es f = resolves_within (Links u) 2 (links_within u) u es f

after_place_within : (u : UnitId) (r : Reply) (es : List (Entry Meaning)) → AfterPlace u r es → IsWithin 3 es
after_place_within u (reply.Placed base) es f = resolve_links_within u es f
after_place_within u (reply.NoRoom need) es f = within_more 1 3 es (omega arith) (fail_within u (why.NoRoom need) es f)
after_place_within u (reply.Defunct v) es f = within_none 3 es f
after_place_within u _ es f = absurd f

place_is_call : (u : UnitId) (e : Event Meaning) → is_place u e ≡ true → is_call e ≡ true
place_is_call u (event.Place v shape) f = refl
place_is_call u _ f = absurd (both_ways false refl f)

emit_is_call : (u : UnitId) (e : Event Meaning) → is_emit u e ≡ true → is_call e ≡ true
emit_is_call u (event.Emit v groups) f = refl
emit_is_call u _ f = absurd (both_ways false refl f)

places_within : (u : UnitId) (es : List (Entry Meaning)) → Places u es → IsWithin 4 es
places_within u [] f = absurd f
places_within u (e ∷ es) (inl c) = within_more 1 4 (e ∷ es) (omega arith) (cut_within u (e ∷ es) c)
places_within u (e ∷ es) (inr p) = within_cons 3 e es (place_is_call u e.event p.0) (after_place_within u e.reply es p.1)

after_emit_within : (u : UnitId) (r : Reply) (es : List (Entry Meaning)) → AfterEmit u r es → IsWithin 1 es
after_emit_within u reply.Emitted es f = within_none 1 es f
after_emit_within u (reply.BadDep i) es f = fail_within u (why.BadDep i) es f
after_emit_within u (reply.Defunct v) es f = within_none 1 es f
after_emit_within u _ es f = absurd f

ends_finish_within : (u : UnitId) (refusal : Option (Place × ℕ × ℤ)) (es : List (Entry Meaning)) → EndsFinish u refusal es → IsWithin 2 es
ends_finish_within u (Some (place, kind, v)) es f = within_more 1 2 es (omega arith) (fail_within u (why.Refused place kind v) es f)
ends_finish_within u None [] f = absurd f
ends_finish_within u None (e ∷ es) p = within_cons 1 e es (emit_is_call u e.event p.0) (after_emit_within u e.reply es p.1)

emits_within : (u : UnitId) (refusal : Option (Place × ℕ × ℤ)) (es : List (Entry Meaning)) → Emits u refusal es → IsWithin 2 es
emits_within u refusal es (inl c) = within_more 1 2 es (omega arith) (cut_within u es c)
emits_within u refusal es (inr f) = ends_finish_within u refusal es f

pub either_way : {G : Type 0} (b : Bool) (P Q : Type 0) → (P → G) → (Q → G) → MatchBool b P Q → G
either_way true P Q f g m = f m
either_way false P Q f g m = g m

after_start_within : (m : Plain) (u : UnitId) (es : List (Entry Meaning)) → AfterStart m u es → IsWithin 4 es
after_start_within m u es f = either_way (unit_test is_alias m u) (Links u es) _
    (λ g. within_more 2 4 es (omega arith) (links_within u es g))
    (either_way _ (Places u es) (Resolves (Links u) u es) (places_within u es) (λ g. within_more 3 4 es (omega arith) (resolve_links_within u es g))) f

after_bound_within : (m : Plain) (u : UnitId) (es : List (Entry Meaning)) → AfterBound m u es → IsWithin 3 es
after_bound_within m u es f = either_way (unit_test is_alias m u) (Resolves (Emits u (refusal_of m u)) u es) (Emits u (refusal_of m u) es)
    (resolves_within (Emits u (refusal_of m u)) 2 (emits_within u (refusal_of m u)) u es)
    (λ g. within_more 2 3 es (omega arith) (emits_within u (refusal_of m u) es g)) f

after_take_within : (m : Plain) (r : Reply) (es : List (Entry Meaning)) → AfterTake m r es → IsWithin 4 es
after_take_within m (reply.Start u) es f = after_start_within m u es f
after_take_within m (reply.Finish u (finishing.Bound matches)) es f = within_more 3 4 es (omega arith) (after_bound_within m u es f)
after_take_within m (reply.Finish u (finishing.Lost i)) es f = within_more 1 4 es (omega arith) (fail_within u (why.InError i) es f)
after_take_within m _ es f = absurd f

-- Calls with their numbers

abbrev pub NumberedCall : ℕ × Entry Meaning → Type 0
NumberedCall c = IsCall c.1

abbrev pub NumberedUnoffered : ℕ × Entry Meaning → Type 0
NumberedUnoffered c = IsUnoffered c.1

abbrev pub taken : ℕ × Entry Meaning → ℕ
taken c = takes c.1

-- These are calls, and a beginning of them without an offer has, beyond five for each take, so many at most.
pub record Costs (k : ℕ) (cs : List (ℕ × Entry Meaning)) : Type 0 where
  pub calls : AllByRecursion NumberedCall cs
  pub few : (ds rest : List (ℕ × Entry Meaning)) → cs ≡ ds ++ rest → AllByRecursion NumberedUnoffered ds → length ds ≤ k + 5 * total taken ds

-- Lists of facts

pub each_joined : {X : Type 0} (P : X → Type 0) (xs ys : List X) → AllByRecursion P xs → AllByRecursion P ys → AllByRecursion P (xs ++ ys)
each_joined P [] ys a b = b
each_joined P (x ∷ xs) ys a b = (a.0, each_joined P xs ys a.1 b)

pub each_front : {X : Type 0} (P : X → Type 0) (xs ys : List X) → AllByRecursion P (xs ++ ys) → AllByRecursion P xs
each_front P [] ys a = tt
each_front P (x ∷ xs) ys a = (a.0, each_front P xs ys a.1)

pub each_back : {X : Type 0} (P : X → Type 0) (xs ys : List X) → AllByRecursion P (xs ++ ys) → AllByRecursion P ys
each_back P [] ys a = a
each_back P (x ∷ xs) ys a = each_back P xs ys a.1

pub total_joined : {X : Type 0} (f : X → ℕ) (xs ys : List X) → total f (xs ++ ys) ≡ total f xs + total f ys
total_joined f [] ys = omega arith
total_joined f (x ∷ xs) ys = omega (arith, total_joined f xs ys)

pub from_entries : (P : Entry Meaning → Type 0) (cs : List (ℕ × Entry Meaning)) → AllByRecursion P (map (λ (c : ℕ × Entry Meaning). c.1) cs) → AllByRecursion (λ (c : ℕ × Entry Meaning). P c.1) cs
from_entries P [] a = tt
from_entries P (c ∷ cs) a = (a.0, from_entries P cs a.1)

pub to_entries : (P : Entry Meaning → Type 0) (cs : List (ℕ × Entry Meaning)) → AllByRecursion (λ (c : ℕ × Entry Meaning). P c.1) cs → AllByRecursion P (map (λ (c : ℕ × Entry Meaning). c.1) cs)
to_entries P [] a = tt
to_entries P (c ∷ cs) a = (a.0, to_entries P cs a.1)

-- Jobs

pub costs_none : (k : ℕ) (cs : List (ℕ × Entry Meaning)) → cs ≡ [] → Costs k cs
costs_none k cs e = subst (Costs k) (sym e) (record { calls = tt; few = λ ds rest f un. omega (arith, front_length [] ds rest f) })

costs_cons : (k : ℕ) (c : ℕ × Entry Meaning) (cs : List (ℕ × Entry Meaning)) → IsCall c.1 → Costs k cs → Costs (k + 1) (c ∷ cs)
costs_cons k c cs call w = record { calls = (call, w.calls); few = few }
  where
    few : (ds rest : List (ℕ × Entry Meaning)) → c ∷ cs ≡ ds ++ rest → AllByRecursion NumberedUnoffered ds → length ds ≤ k + 1 + 5 * total taken ds
    few [] rest f un = omega arith
    few (d ∷ ds) rest f un = omega (arith, w.few ds rest (same_tail c d cs (ds ++ rest) f) un.1)

-- a beginning of two lists: one of the first, or the first and a beginning of the second
front_cases : {X : Type 0} (xs ys ds rest : List X) → xs ++ ys ≡ ds ++ rest → ((more : List X) × (xs ≡ ds ++ more)) ⊎ ((es : List X) × (ds ≡ xs ++ es) × (ys ≡ es ++ rest))
front_cases [] ys ds rest e = inr (ds, refl, e)
front_cases (x ∷ xs) ys [] rest e = inl (x ∷ xs, refl)
front_cases {X} (x ∷ xs) ys (d ∷ ds) rest e = split (front_cases xs ys ds rest (same_tail x d (xs ++ ys) (ds ++ rest) e))
  where
    head : x ≡ d
    head = same_head x d (xs ++ ys) (ds ++ rest) e

    split : ((more : List X) × (xs ≡ ds ++ more)) ⊎ ((es : List X) × (ds ≡ xs ++ es) × (ys ≡ es ++ rest)) → ((more : List X) × (x ∷ xs ≡ (d ∷ ds) ++ more)) ⊎ ((es : List X) × (d ∷ ds ≡ (x ∷ xs) ++ es) × (ys ≡ es ++ rest))
    split (inl p) = inl (p.0, ap (λ l. x ∷ l) p.1 ∙ ap (λ z. z ∷ ds ++ p.0) head)
    split (inr p) = inr (p.0, ap (λ l. d ∷ l) p.1 ∙ ap (λ z. z ∷ xs ++ p.0) (sym head), p.2)

costs_joined : (j k : ℕ) (xs ys : List (ℕ × Entry Meaning)) → Costs j xs → Costs k ys → Costs (j + k) (xs ++ ys)
costs_joined j k xs ys a b = record { calls = each_joined NumberedCall xs ys a.calls b.calls; few = λ ds rest e un. split ds rest (front_cases xs ys ds rest e) un }
  where
    split : (ds rest : List (ℕ × Entry Meaning)) → ((more : List (ℕ × Entry Meaning)) × (xs ≡ ds ++ more)) ⊎ ((es : List (ℕ × Entry Meaning)) × (ds ≡ xs ++ es) × (ys ≡ es ++ rest)) → AllByRecursion NumberedUnoffered ds → length ds ≤ j + k + 5 * total taken ds
    split ds rest (inl p) un = omega (arith, a.few ds p.0 p.1 un)
    split ds rest (inr p) un =
        let both = subst (AllByRecursion NumberedUnoffered) p.1 un in
        let first = a.few xs [] (sym (append-nil xs)) (each_front NumberedUnoffered xs p.0 both) in
        let second = b.few p.0 rest p.2 (each_back NumberedUnoffered xs p.0 both) in
        subst (λ l. length l ≤ j + k + 5 * total taken l) (sym p.1) (omega (arith, first, second, length-append xs p.0, total_joined taken xs p.0))

job_costs : (h : List (Entry Meaning)) (cs : List (ℕ × Entry Meaning)) → IsJob h cs → Costs 0 cs
job_costs h [] job = absurd job
job_costs h (c ∷ cs) job = record { calls = (ap is_call job.0, from_entries IsCall cs w.calls); few = few }
  where
    w : IsWithin 4 (map (λ (d : ℕ × Entry Meaning). d.1) cs)
    w = after_take_within (state (take c.0 h)) c.1.reply (map (λ (d : ℕ × Entry Meaning). d.1) cs) job.1

    few : (ds rest : List (ℕ × Entry Meaning)) → c ∷ cs ≡ ds ++ rest → AllByRecursion NumberedUnoffered ds → length ds ≤ 0 + 5 * total taken ds
    few [] rest e un = omega arith
    few (d ∷ ds) rest e un =
        let one : taken d ≡ 1 = ap taken (sym (same_head c d cs (ds ++ rest) e)) ∙ ap is_take job.0 in
        let parts = ap (map (λ (f : ℕ × Entry Meaning). f.1)) (same_tail c d cs (ds ++ rest) e) ∙ map-append (λ (f : ℕ × Entry Meaning). f.1) ds rest in
        let short = w.few (map (λ (f : ℕ × Entry Meaning). f.1) ds) (map (λ (f : ℕ × Entry Meaning). f.1) rest) parts (to_entries IsUnoffered ds un.1) in
        omega (arith, one, short, length-map ds (λ (f : ℕ × Entry Meaning). f.1))

pub jobs_cost : (h : List (Entry Meaning)) (cs : List (ℕ × Entry Meaning)) → AreJobs h cs → Costs 0 cs
jobs_cost h cs NoJob = costs_none 0 cs refl
jobs_cost h cs (AnotherJob before job jobs is) = costs_joined 0 0 before job (jobs_cost h before jobs) (job_costs h job is)

-- A lookup

works_cost : (h : List (Entry Meaning)) (q : QueryId) (n : ℕ) (cs : List (ℕ × Entry Meaning)) → Works h q n cs → Costs 1 cs
works_cost h q n cs (Works.Collects k m e is got) = costs_cons 0 (m, e) [] (ap is_call is) (costs_none 0 [] refl)
works_cost h q n cs (Works.Job k m query last before rest there unmet job works) = subst (Costs 1) (append_assoc before (last ∷ []) rest)
    (costs_joined 0 1 (before ++ last ∷ []) rest (job_costs h (before ++ last ∷ []) job) (works_cost h q last.0 rest works))

ends_ask_cost : (h : List (Entry Meaning)) (n : ℕ) (r : Reply) (cs : List (ℕ × Entry Meaning)) → EndsAsk h n r cs → Costs 1 cs
ends_ask_cost h n (reply.Done q) cs w = works_cost h q n cs w
ends_ask_cost h n (reply.Pending q) cs w = works_cost h q n cs w
ends_ask_cost h n (reply.InError i) cs e = costs_none 1 cs e
ends_ask_cost h n (reply.Missing name) cs e = costs_none 1 cs e
ends_ask_cost h n (reply.NoDylib d) cs e = costs_none 1 cs e
ends_ask_cost h n _ cs e = absurd e

pub looks_cost : (h : List (Entry Meaning)) (l : Lookup) (cs : List (ℕ × Entry Meaning)) → Looks h l cs → Costs 2 cs
looks_cost h l cs (Looks.Asks n e ds is ends) = costs_cons 1 (n, e) ds (ap is_call is) (ends_ask_cost h n e.reply ds ends)
looks_cost h l cs (Looks.Again n m e f g ds is o uses looks) = record { calls = (ap is_call is, (ap is_call uses, (looks_cost h l ds looks).calls)); few = few }
  where
    few : (front rest : List (ℕ × Entry Meaning)) → (n, e) ∷ (m, f) ∷ ds ≡ front ++ rest → AllByRecursion NumberedUnoffered front → length front ≤ 2 + 5 * total taken front
    few [] rest eq un = omega arith
    few (d ∷ front) rest eq un =
        let un_e = subst NumberedUnoffered (sym (same_head (n, e) d ((m, f) ∷ ds) (front ++ rest) eq)) un.0 in
        absurd (both_ways (is_offer e.reply) (subst (λ v. Unoffered v e.reply) is un_e) (ap is_offer o))
