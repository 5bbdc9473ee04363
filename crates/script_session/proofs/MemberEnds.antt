-- The members of a script, and how the lines of its clients ended.
use Rattle.std.specs.Prelude.{⊤}
use Rattle.std.proofs.Common.{◌≡◌, ℕ, zero, suc, ◌+◌, ◌-◌, ◌<◌, ◌≤◌, ◌⊎◌, inl, inr, List, [], ◌∷◌, ◌++◌, length, map, append-nil, refl, sym, ap, subst, ◌∙◌, arith, All, Option, Some, slice_get}
use Rattle.std.proofs.lemmas.Bool.{cases_lt}
use Rattle.std.proofs.lemmas.List.{append_assoc, length-append}
use Rattle.std.proofs.lemmas.List.Elements.{All-cons, All-nil}
use Rattle.std.proofs.lemmas.Option.{none-some, same_Some, slice_get_within}
use Rattle.orc_ids.specs.declared.lookup.Outcome.{Outcome}
use Rattle.orc_ids.specs.declared.lookup.Stop.{Stop}
use Rattle.session_model.specs.Meaning.{Meaning}
use Rattle.session_model.specs.declared.entry.Entry.{Entry}
use Rattle.session_laws.proofs.Declared.{appended_cases}
use Rattle.notifiers.specs.declared.notice.Notice.{Notice}
use Rattle.turn_lock.specs.declared.view.View.{View}
use Rattle.shared_session.specs.Home.{seat_of}
use Rattle.shared_session.specs.Did.{Promise}
use Rattle.link_worker.specs.Does.{Does}
use Rattle.link_worker.specs.Works.{IsFree, Jobs, WasStopped}
use Rattle.shared_session.specs.declared.posts.TheConstants.{POSTS}
use Rattle.link_worker.specs.First.{IsFirst}
use Rattle.link_worker.proofs.NewSeats.{may_begin}
use Rattle.link_worker.proofs.Telling.{does_less}
use Rattle.crew.specs.Crew.{HaveWorked, IsKept, IsNew, MayBegin}
use Rattle.crew.proofs.Worked.{all_at, all_from, some_there}
use Rattle.script_model.specs.declared.line_end.LineEnd.{LineEnd}
use Rattle.script_model.specs.declared.line_end.LineEnd.TheVariants.{Stopped}
use Rattle.script_session.specs.Clients.{AreUnheard, HasDoneAll, IsEmpty, MakesAll}
use Rattle.script_session.specs.Members.{AreMembers, CanBegin, CanServe, HasServed, IsClientOf, Serves, ends_in, ends_of, unlodged_in}
use Rattle.script_model.specs.Plans.{CanCall, line_of}
use Rattle.script_model.specs.declared.calls.ClientCall.{ClientCall}
use Rattle.script_session.specs.declared.members.Member.{Member}
use Rattle.script_session.specs.declared.members.Role.{Role}
use Rattle.script_session.specs.declared.members.Role.TheVariants.{Client, Worker}

-- any calls
abbrev pub Anything : Promise
Anything h cs = ⊤

-- the one element of a list
pub only_one : {X : Type 0} (x y : X) → (x ∷ []) ≡ (y ∷ []) → x ≡ y
only_one x y same = same_Some x y (ap (λ l. slice_get l 0) same)

-- a list of one, and an element of it
one_there : (xs : List (List LineEnd)) (es e : List LineEnd) (j : ℕ) → xs ≡ e ∷ [] → slice_get xs j ≡ Some es → (j ≡ 0) × (e ≡ es)
one_there xs es e j is at = by j (subst (λ l. slice_get l j ≡ Some es) is at)
  where
    by : (j : ℕ) → slice_get (e ∷ []) j ≡ Some es → (j ≡ 0) × (e ≡ es)
    by zero at = (refl, same_Some e es at)
    by (suc j) at = absurd (none-some es at)

module _ {U N G : Type 0} where
  -- the last one's ends come first
  pub ends_last : (ms : List (Member U N G)) (m : Member U N G) → ends_of (ms ++ m ∷ []) ≡ ends_in m.role ++ ends_of ms
  ends_last [] m = sym (append-nil (ends_in m.role))
  ends_last (x ∷ xs) m = ap (λ l. l ++ ends_in x.role) (ends_last xs m) ∙ append_assoc (ends_in m.role) (ends_of xs) (ends_in x.role)

  -- the first so many are workers, and the others clients
  pub record AreRoles (workers : ℕ) (ms : List (Member U N G)) : Type 0 where
    pub none : (k : ℕ) (m : Member U N G) → slice_get ms k ≡ Some m → k < workers → ends_in m.role ≡ []
    pub one : (k : ℕ) (m : Member U N G) → slice_get ms k ≡ Some m → workers ≤ k → (es : List LineEnd) × (ends_in m.role ≡ es ∷ [])

  rest_roles : (workers : ℕ) (m : Member U N G) (ms : List (Member U N G)) → AreRoles (suc workers) (m ∷ ms) → AreRoles workers ms
  rest_roles workers m ms r = record { none = λ k x at lt. r.none (suc k) x at (omega (arith, lt)); one = λ k x at le. r.one (suc k) x at (omega (arith, le)) }

  rest_clients : (m : Member U N G) (ms : List (Member U N G)) → AreRoles 0 (m ∷ ms) → AreRoles 0 ms
  rest_clients m ms r = record { none = λ k x at lt. absurd (omega (arith, lt)); one = λ k x at le. r.one (suc k) x at (omega arith) }

  -- there are as many ends as clients
  pub count_ends : (workers : ℕ) (ms : List (Member U N G)) → workers ≤ length ms → AreRoles workers ms → workers + length (ends_of ms) ≡ length ms
  count_ends zero [] le r = refl
  count_ends (suc workers) [] le r = absurd (omega (arith, le))
  count_ends zero (m ∷ ms) le r =
      let one = r.one 0 m refl (omega arith) in
      let rest = count_ends 0 ms (omega arith) (rest_clients m ms r) in
      omega (arith, rest, length-append (ends_of ms) (ends_in m.role), ap length one.1)
  count_ends (suc workers) (m ∷ ms) le r =
      let none = r.none 0 m refl (omega arith) in
      let rest = count_ends workers ms (omega (arith, le)) (rest_roles workers m ms r) in
      omega (arith, rest, length-append (ends_of ms) (ends_in m.role), ap length none)

  -- whose ends they are
  pub record EndsAre (ms : List (Member U N G)) (c : ℕ) (es : List LineEnd) : Type 0 where
    pub place : ℕ
    pub member : Member U N G
    pub there : slice_get ms place ≡ Some member
    pub counts : place + c + 1 ≡ length ms
    pub ends : ends_in member.role ≡ es ∷ []

  pub ends_at : (workers : ℕ) (ms : List (Member U N G)) (c : ℕ) (es : List LineEnd) → workers ≤ length ms → AreRoles workers ms → slice_get (ends_of ms) c ≡ Some es → EndsAre ms c es
  ends_at workers [] c es le r at = absurd (none-some es at)
  ends_at zero (m ∷ ms) c es le r at = by (λ old. ends_at 0 ms c es (omega arith) (rest_clients m ms r) old) (appended_cases (ends_of ms) (ends_in m.role) c es at)
    where
      by : (slice_get (ends_of ms) c ≡ Some es → EndsAre ms c es) → (slice_get (ends_of ms) c ≡ Some es) ⊎ ((j : ℕ) × (c ≡ length (ends_of ms) + j) × (slice_get (ends_in m.role) j ≡ Some es)) → EndsAre (m ∷ ms) c es
      by before (inl old) = let e = before old in record { place = suc e.place; member = e.member; there = e.there; counts = omega (arith, e.counts); ends = e.ends }
      by before (inr (j, is, there)) =
          let one = r.one 0 m refl (omega arith) in
          let its = one_there (ends_in m.role) es one.0 j one.1 there in
          let count = count_ends 0 ms (omega arith) (rest_clients m ms r) in
          record { place = 0; member = m; there = refl; counts = omega (arith, is, its.0, count); ends = one.1 ∙ ap (λ e. e ∷ []) its.1 }
  ends_at (suc workers) (m ∷ ms) c es le r at =
      let none = r.none 0 m refl (omega arith) in
      let e = ends_at workers ms c es (omega (arith, le)) (rest_roles workers m ms r) (subst (λ l. slice_get l c ≡ Some es) (ap (λ l. ends_of ms ++ l) none ∙ append-nil (ends_of ms)) at) in
      record { place = suc e.place; member = e.member; there = e.there; counts = omega (arith, e.counts); ends = e.ends }

module _ {U N : Type 0} (means : U → Meaning) (heard : N → Option Outcome) (numbers : N → ℕ) where
  can_be_client : (calls : List (ClientCall U N)) (role : Role U N) → All (CanCall means heard numbers) calls → IsClientOf calls role → CanServe means heard numbers role
  can_be_client calls (Client its client) can (is, room) = (subst (All (CanCall means heard numbers)) (sym is) can, subst (λ l. IsEmpty (length l) client) (sym is) room)
  can_be_client calls Worker can none = absurd none

  -- all members can begin
  pub all_can : {G : Type 0} (clients : List (List (ClientCall U N))) (workers : ℕ) (ms : List (Member U N G)) → AreMembers clients workers ms → All (All (CanCall means heard numbers)) clients → All (CanBegin means heard numbers) ms
  all_can {G} clients workers ms are can = all_from (CanBegin means heard numbers) ms (λ k m at. record { role = by k m at (cases_lt k workers); fired = all_at (λ (x : Member U N G). x.fired ≡ []) ms k m are.untold at })
    where
      by : (k : ℕ) (m : Member U N G) → slice_get ms k ≡ Some m → (k < workers) ⊎ (workers ≤ k) → CanServe means heard numbers m.role
      by k m at (inl few) = subst (CanServe means heard numbers) (sym (are.is_worker k m at few)) tt
      by k m at (inr past) =
          let below = slice_get_within ms k m at in
          let c : ℕ = (workers + length clients) - (k + 1) in
          let a = are.is_client k c m at (omega (arith, below, are.count, past)) (omega (arith, below, are.count)) in
          can_be_client a.0 m.role (all_at (All (CanCall means heard numbers)) clients c a.0 can a.1) a.2

-- new seats may serve
pub may_serve : {U N G : Type 0} (means : U → Meaning) (heard : N → Option Outcome) (numbers : N → ℕ) (jmax posts : ℕ) (v : View (Entry U)) (members : List (Member U N G)) → posts ≡ POSTS → IsFirst means jmax v → All (CanBegin means heard numbers) members → MayBegin (λ m w. (posts ≡ POSTS) × IsFree means w × CanBegin means heard numbers m) v members
may_serve means heard numbers jmax posts v members all first can k m lt number w low high new = (all, may_begin means jmax v members first k m lt number w low high new, can k m lt)

-- what each role's work leaves, by the role that it was
module _ {U N : Type 0} (means : U → Meaning) (heard : N → Option Outcome) (numbers : N → ℕ) (jmax : ℕ) where
  left_none : (role other : Role U N) (v w : View (Entry U)) (told : List (Notice N)) → role ≡ Worker → HasServed means heard numbers jmax role other v w told → (other ≡ Worker) × Does means heard v w [] told Jobs
  left_none role other v w told is did = by other (subst (λ r. HasServed means heard numbers jmax r other v w told) is did)
    where
      by : (r : Role U N) → HasServed means heard numbers jmax Worker r v w told → (r ≡ Worker) × Does means heard v w [] told Jobs
      by (Client calls client) did = absurd did
      by Worker did = (refl, did)

  left_one : (calls : List (ClientCall U N)) (role other : Role U N) (es : List LineEnd) (v w : View (Entry U)) (told : List (Notice N)) → IsClientOf calls role → ends_in other ≡ es ∷ [] → HasServed means heard numbers jmax role other v w told → HasDoneAll means heard jmax (map (line_of means) calls) es v w [] told
  left_one calls (Client its client) (Client rest done) es v w told (is, room) ends did =
      subst (λ l. HasDoneAll means heard jmax (map (line_of means) l) es v w [] told) is (subst (λ l. HasDoneAll means heard jmax (map (line_of means) its.items) l v w [] told) (only_one done.lines.items es ends) did.0)
  left_one calls (Client its client) Worker es v w told c ends did = absurd did
  left_one calls Worker other es v w told none ends did = absurd none

  some_ends : (calls : List (ClientCall U N)) (role other : Role U N) (v w : View (Entry U)) (told : List (Notice N)) → IsClientOf calls role → HasServed means heard numbers jmax role other v w told → (es : List LineEnd) × (ends_in other ≡ es ∷ [])
  some_ends calls (Client its client) (Client rest done) v w told c did = (done.lines.items, refl)
  some_ends calls (Client its client) Worker v w told c did = absurd did
  some_ends calls Worker other v w told none did = absurd none

  -- whoever it is
  some_work : (role other : Role U N) (v w : View (Entry U)) (told : List (Notice N)) → HasServed means heard numbers jmax role other v w told → Does means heard v w [] told Anything × All (AreUnheard heard numbers) (unlodged_in other)
  some_work (Client calls before) (Client left client) v w told did =
      (does_less means heard v w [] told (MakesAll (map (line_of means) calls.items) client.lines.items) Anything (λ h cs k. tt) did.0.does, All-cons (AreUnheard heard numbers) client.unlodged.items [] did.1 (All-nil (AreUnheard heard numbers)))
  some_work (Client calls before) Worker v w told did = absurd did
  some_work Worker (Client left client) v w told did = absurd did
  some_work Worker Worker v w told did = (does_less means heard v w [] told Jobs Anything (λ h cs k. tt) did, All-nil (AreUnheard heard numbers))

  -- a seat that was at work, by the whole history
  pub record WasAtWork (P : Promise) (seen log : List (Entry U)) (number : ℕ) (told : List (Notice N)) : Type 0 where
    pub before : View (Entry U)
    pub after : View (Entry U)
    pub begins : IsNew number seen before
    pub same : after.number ≡ number
    pub does : Does means heard before after [] told P
    pub free : IsFree means after
    pub kept : IsKept seat_of log after

  -- a client whose lines ended so
  pub record WasClient (seen log : List (Entry U)) (number : ℕ) (calls : List (ClientCall U N)) (es : List LineEnd) (told : List (Notice N)) : Type 0 where
    pub work : WasAtWork (MakesAll (map (line_of means) calls) es) seen log number told
    pub causes : (i : ℕ) (st : Stop) → slice_get es i ≡ Some (Stopped st) → WasStopped means jmax work.before.seen work.after.seen st

  module _ {G : Type 0} (clients : List (List (ClientCall U N))) (workers : ℕ) (v w : View (Entry U)) (old new : List (Member U N G)) (from : v.spare_from ≡ 1) (are : AreMembers clients workers old) (worked : HaveWorked seat_of (Serves means heard numbers jmax) v w old new) where
    -- a client's lines, by its place
    pub client_was : (log : List (Entry U)) → All (IsKept seat_of log) worked.views → (k c : ℕ) (m n : Member U N G) (es : List LineEnd) → slice_get old k ≡ Some m → slice_get new k ≡ Some n → k + c + 1 ≡ workers + length clients → c < length clients → ends_in n.role ≡ es ∷ [] →
        (calls : List (ClientCall U N)) × (slice_get clients c ≡ Some calls) × WasClient v.seen log (1 + c) calls es n.fired
    client_was log kept k c m n es at now place few ends =
        let x = some_there worked.views k (omega (arith, place, few, worked.seats, are.count)) in
        let done = worked.each k (1 + c) m n x.0 at now x.1 (omega (arith, place, from, are.count)) in
        let a = are.is_client k c m at few place in
        let all = left_one a.0 m.role n.role es done.before x.0 n.fired a.2 ends done.did.0 in (
          a.0,
          a.1,
          record {
            work = record { before = done.before; after = x.0; begins = done.begins; same = done.same; does = all.does; free = done.did.1; kept = all_at (IsKept seat_of log) worked.views k x.0 kept x.1 };
            causes = all.causes;
          },
        )

    -- a worker's jobs, by its place
    pub worker_was : (log : List (Entry U)) → All (IsKept seat_of log) worked.views → (k number : ℕ) → k < workers → number + k ≡ workers + length clients → (told : List (Notice N)) × WasAtWork Jobs v.seen log number told
    worker_was log kept k number few place =
        let m = some_there old k (omega (arith, few, are.count)) in
        let n = some_there new k (omega (arith, few, are.count, worked.count)) in
        let x = some_there worked.views k (omega (arith, few, are.count, worked.seats)) in
        let done = worked.each k number m.0 n.0 x.0 m.1 n.1 x.1 (omega (arith, place, from, are.count)) in
        let left = left_none m.0.role n.0.role done.before x.0 n.0.fired (are.is_worker k m.0 m.1 few) done.did.0 in
        (n.0.fired, record { before = done.before; after = x.0; begins = done.begins; same = done.same; does = left.1; free = done.did.1; kept = all_at (IsKept seat_of log) worked.views k x.0 kept x.1 })

    -- whoever is at a place
    pub member_was : (log : List (Entry U)) → All (IsKept seat_of log) worked.views → (k number : ℕ) (n : Member U N G) → slice_get new k ≡ Some n → number + k ≡ workers + length clients → WasAtWork Anything v.seen log number n.fired × All (AreUnheard heard numbers) (unlodged_in n.role)
    member_was log kept k number n now place =
        let below = slice_get_within new k n now in
        let m = some_there old k (omega (arith, below, worked.count)) in
        let x = some_there worked.views k (omega (arith, below, worked.count, worked.seats)) in
        let done = worked.each k number m.0 n x.0 m.1 now x.1 (omega (arith, place, from, are.count)) in
        let work = some_work m.0.role n.role done.before x.0 n.fired done.did.0 in
        (record { before = done.before; after = x.0; begins = done.begins; same = done.same; does = work.0; free = done.did.1; kept = all_at (IsKept seat_of log) worked.views k x.0 kept x.1 }, work.1)

    -- workers first, and then clients
    pub roles : AreRoles workers new
    roles = record {
      none = λ k n now few.
          let below = slice_get_within new k n now in
          let m = some_there old k (omega (arith, below, worked.count)) in
          let x = some_there worked.views k (omega (arith, below, worked.count, worked.seats)) in
          let number : ℕ = (workers + length clients) - k in
          let done = worked.each k number m.0 n x.0 m.1 now x.1 (omega (arith, few, from, are.count)) in
          ap ends_in (left_none m.0.role n.role done.before x.0 n.fired (are.is_worker k m.0 m.1 few) done.did.0).0;
      one = λ k n now past.
          let below = slice_get_within new k n now in
          let m = some_there old k (omega (arith, below, worked.count)) in
          let x = some_there worked.views k (omega (arith, below, worked.count, worked.seats)) in
          let c : ℕ = (workers + length clients) - (k + 1) in
          let place : k + c + 1 ≡ workers + length clients = omega (arith, below, worked.count, are.count) in
          let done = worked.each k (1 + c) m.0 n x.0 m.1 now x.1 (omega (arith, place, from, are.count)) in
          let a = are.is_client k c m.0 m.1 (omega (arith, place, past)) place in
          some_ends a.0 m.0.role n.role done.before x.0 n.fired a.2 done.did.0;
    }
