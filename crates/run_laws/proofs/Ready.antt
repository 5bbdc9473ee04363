-- The session that a set-up leads to.
use Rattle.std.proofs.Common.{◌≡◌, ℕ, ◌+◌, ◌≤◌, true, false, List, [], ◌∷◌, length, map, All, ◌⊎◌, inl, inr, refl, sym, ap, ◌∙◌, subst, arith, le_refl}
use Rattle.std.specs.Prelude.{nat_lt}
use Rattle.std.proofs.lemmas.Bool.{both_ways, cases_Bool}
use Rattle.std.proofs.lemmas.List.Elements.{All-head, All-tail}
use Rattle.orc_ids.specs.declared.ids.DylibId.{DylibId}
use Rattle.orc_ids.specs.declared.ids.NameId.{NameId}
use Rattle.orc_ids.specs.declared.ids.TrackId.{TrackId}
use Rattle.session_model.specs.Change.{change_of, changed, settled, without_replaced, new_unit, verdicts}
use Rattle.session_model.specs.Lists.{numbered}
use Rattle.session_model.specs.Answer.{Answers}
use Rattle.session_model.specs.History.{IsLegal}
use Rattle.session_model.specs.Meaning.{Meaning}
use Rattle.session_model.specs.Plain.{Plain, empty, has_dylib, failed_at}
use Rattle.session_model.specs.State.{after, state, state_from}
use Rattle.session_model.specs.declared.change.Change.{Change}
use Rattle.session_model.specs.declared.entry.Entry.{Entry}
use Rattle.session_model.specs.declared.entry.Event.TheVariants as event
use Rattle.session_model.specs.declared.entry.Reply.{Reply}
use Rattle.session_model.specs.declared.entry.Reply.TheVariants as reply
use Rattle.std.proofs.lemmas.List.{length-append, length-map}
use Rattle.session_laws.proofs.Declared.{numbered_length, only_failures_fail}
use Rattle.session_laws.specs.Failures.{IsFailure}
use Rattle.memory_laws.specs.Objects.{first_dylib, first_tracker, is_done}
use Rattle.run_laws.specs.Runs.{IsSetUp}
use Rattle.run_laws.proofs.Seats.{not_empty, same_head, same_tail}
use Rattle.memory_laws.proofs.SettingUp.{settled_none}

-- The dylib is there, and nothing was asked for or failed; there are so many units at most.
pub record IsReady (count : ℕ) (m : Plain) : Type 0 where
  pub dylib : has_dylib m 0 ≡ true
  pub generators : m.generators ≡ []
  pub queries : m.queries ≡ []
  pub jobs : m.jobs ≡ []
  pub unfailed : (i : ℕ) → failed_at m.rows i ≡ false
  pub few : length m.units ≤ count

-- n is as m, but for its rows, and its units, of which it has so many more at most
record Adds (more : ℕ) (m n : Plain) : Type 0 where
  dylibs : n.dylibs ≡ m.dylibs
  generators : n.generators ≡ m.generators
  queries : n.queries ≡ m.queries
  jobs : n.jobs ≡ m.jobs
  few : length n.units ≤ length m.units + more

still_unfailed : (m : Plain) (e : Entry Meaning) → ((i : ℕ) → failed_at m.rows i ≡ false) → (IsFailure e.event e.reply → ⊥) → (i : ℕ) → failed_at (after m e).rows i ≡ false
still_unfailed m e old unfailing i = split (cases_Bool (failed_at (after m e).rows i))
  where
    split : (failed_at (after m e).rows i ≡ true) ⊎ (failed_at (after m e).rows i ≡ false) → failed_at (after m e).rows i ≡ false
    split (inl f) = absurd (unfailing (only_failures_fail m e i (old i) f))
    split (inr f) = f

still_ready : (count more : ℕ) (m : Plain) (e : Entry Meaning) → IsReady count m → Adds more m (changed (change_of m e.seat.0 e.event e.reply) m) → (IsFailure e.event e.reply → ⊥) → IsReady (count + more) (after m e)
still_ready count more m e old adds unfailing = record {
  dylib = ap (λ (k : Plain). nat_lt 0 (length k.dylibs)) same ∙ (ap (λ ds. nat_lt 0 (length ds)) adds.dylibs ∙ old.dylib);
  generators = ap (λ (k : Plain). k.generators) same ∙ (adds.generators ∙ old.generators);
  queries = ap (λ (k : Plain). k.queries) same ∙ (adds.queries ∙ old.queries);
  jobs = ap (λ (k : Plain). k.jobs) same ∙ (adds.jobs ∙ old.jobs);
  unfailed = still_unfailed m e old.unfailed unfailing;
  few = let f = ap (λ (k : Plain). length k.units) same in omega (arith, f, adds.few, old.few);
}
  where
    n : Plain
    n = changed (change_of m e.seat.0 e.event e.reply) m

    same : settled n ≡ n
    same = settled_none n (adds.queries ∙ old.queries)

adds_none : (m : Plain) → Adds 0 m m
adds_none m = record { dylibs = refl; generators = refl; queries = refl; jobs = refl; few = omega arith }

one_more_at_most : (m : Plain) → Adds 1 m m
one_more_at_most m = record { dylibs = refl; generators = refl; queries = refl; jobs = refl; few = omega arith }

tracker_adds : (m : Plain) (s : ℕ) (d : DylibId) (r : Reply) → is_done r ≡ true → Adds 0 m (changed (change_of m s (event.Tracker d) r) m)
tracker_adds m s d (reply.Tracker t) done = record { dylibs = refl; generators = refl; queries = refl; jobs = refl; few = omega arith }
tracker_adds m s d (reply.Made e) done = adds_none m
tracker_adds m s d (reply.Defined v first count) done = adds_none m
tracker_adds m s d _ done = absurd (both_ways false refl done)

define_adds : (m : Plain) (s : ℕ) (d : DylibId) (t : TrackId) (u : Meaning) (r : Reply) → is_done r ≡ true → Adds 1 m (changed (change_of m s (event.Define d t u) r) m)
define_adds m s d t u (reply.Defined v first count) done = record {
  dylibs = refl;
  generators = refl;
  queries = refl;
  jobs = refl;
  few = let found = verdicts m.rows d.0 u.offers in
      omega (arith, length-append (numbered (without_replaced m.rows found) 0 m.units) (new_unit t.0 u found ∷ []), numbered_length (without_replaced m.rows found) 0 m.units);
}
define_adds m s d t u (reply.Made e) done = one_more_at_most m
define_adds m s d t u (reply.Tracker e) done = one_more_at_most m
define_adds m s d t u _ done = absurd (both_ways false refl done)

abbrev Done : Entry Meaning → Type 0
Done e = is_done e.reply ≡ true

-- one unit after the other is defined
defines_ready : (count : ℕ) (m : Plain) (d : DylibId) (t : TrackId) (units : List Meaning) (ds : List (Entry Meaning)) → map (λ (e : Entry Meaning). e.event) ds ≡ map (event.Define d t) units → All Done ds → IsReady count m → IsReady (count + length units) (state_from m ds)
defines_ready count m d t [] [] are done ready = subst (λ n. IsReady n m) (omega arith) ready
defines_ready count m d t [] (e ∷ es) are done ready = not_empty e.event (map (λ (f : Entry Meaning). f.event) es) are
defines_ready count m d t (u ∷ us) [] are done ready = not_empty (event.Define d t u) (map (event.Define d t) us) (sym are)
defines_ready count m d t (u ∷ us) (e ∷ es) are done ready =
    subst (λ n. IsReady n (state_from (after m e) es)) (omega arith)
    (defines_ready (count + 1) (after m e) d t us es (same_tail e.event (event.Define d t u) (map (λ (f : Entry Meaning). f.event) es) (map (event.Define d t) us) are) (All-tail Done e es done)
    (still_ready count 1 m e ready
    (subst (λ v. Adds 1 m (changed (change_of m e.seat.0 v e.reply) m)) (sym is) (define_adds m e.seat.0 d t u e.reply (All-head Done e es done)))
    (subst (λ v. IsFailure v e.reply → ⊥) (sym is) (λ f. f))))
  where
    is : e.event ≡ event.Define d t u
    is = same_head e.event (event.Define d t u) (map (λ (f : Entry Meaning). f.event) es) (map (event.Define d t) us) are

-- the dylib is the first one
first_ready : (jmax : ℕ) (main : NameId) (e : Entry Meaning) → e.event ≡ event.Dylib main → IsLegal jmax (e ∷ []) → IsReady 0 (after empty e)
first_ready jmax main e is l = subst (λ (c : Change Meaning). IsReady 0 (record (settled (changed c empty)) { entries = 1 })) (sym (ap (λ v. change_of empty e.seat.0 v e.reply) is ∙ ap (change_of empty e.seat.0 (event.Dylib main)) answered))
    (record { dylib = refl; generators = refl; queries = refl; jobs = refl; unfailed = λ i. refl; few = le_refl 0 })
  where
    answered : e.reply ≡ reply.Made (record { 0 = 0 })
    answered = subst (λ v. Answers jmax [] empty e.seat.0 v e.reply) is l.0

pub set_up_ready : (jmax : ℕ) (main : NameId) (units : List Meaning) (setup : List (Entry Meaning)) → IsLegal jmax setup → IsSetUp main units setup → IsReady (length units) (state setup)
set_up_ready jmax main units [] l s = not_empty (event.Dylib main) (event.Tracker first_dylib ∷ map (event.Define first_dylib first_tracker) units) (sym s.events)
set_up_ready jmax main units (a ∷ []) l s = not_empty (event.Tracker first_dylib) (map (event.Define first_dylib first_tracker) units) (sym (same_tail a.event (event.Dylib main) [] (event.Tracker first_dylib ∷ map (event.Define first_dylib first_tracker) units) s.events))
set_up_ready jmax main units (a ∷ b ∷ ds) l s = subst (λ n. IsReady n (state_from (after (after empty a) b) ds)) (omega arith) (defines_ready 0 (after (after empty a) b) first_dylib first_tracker units ds (same_tail b.event (event.Tracker first_dylib) (map (λ (f : Entry Meaning). f.event) ds) (map (event.Define first_dylib first_tracker) units) others) (All-tail Done b ds (All-tail Done a (b ∷ ds) s.done))
    (still_ready 0 0 (after empty a) b (first_ready jmax main a first (l.0, tt))
    (subst (λ v. Adds 0 (after empty a) (changed (change_of (after empty a) b.seat.0 v b.reply) (after empty a))) (sym second) (tracker_adds (after empty a) b.seat.0 first_dylib b.reply (All-head Done b ds (All-tail Done a (b ∷ ds) s.done))))
    (subst (λ v. IsFailure v b.reply → ⊥) (sym second) (λ f. f))))
  where
    first : a.event ≡ event.Dylib main
    first = same_head a.event (event.Dylib main) (map (λ (f : Entry Meaning). f.event) (b ∷ ds)) (event.Tracker first_dylib ∷ map (event.Define first_dylib first_tracker) units) s.events

    others : map (λ (f : Entry Meaning). f.event) (b ∷ ds) ≡ event.Tracker first_dylib ∷ map (event.Define first_dylib first_tracker) units
    others = same_tail a.event (event.Dylib main) (map (λ (f : Entry Meaning). f.event) (b ∷ ds)) (event.Tracker first_dylib ∷ map (event.Define first_dylib first_tracker) units) s.events

    second : b.event ≡ event.Tracker first_dylib
    second = same_head b.event (event.Tracker first_dylib) (map (λ (f : Entry Meaning). f.event) ds) (map (event.Define first_dylib first_tracker) units) others

-- how many entries a set-up has
pub setup_length : (main : NameId) (units : List Meaning) (setup : List (Entry Meaning)) → IsSetUp main units setup → length setup ≡ 2 + length units
setup_length main units setup s =
    let whole = ap length s.events in
    let defines = length-map units (event.Define first_dylib first_tracker) in
    omega (arith, length-map setup (λ (e : Entry Meaning). e.event), whole, defines)
