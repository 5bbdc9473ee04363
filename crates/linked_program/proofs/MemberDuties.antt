-- New seats begin without a unit, and what each has done at the end.
use Rattle.std.proofs.Common.{◌≡◌, ℕ, zero, suc, ◌+◌, ◌-◌, ◌<◌, ◌⊎◌, inl, inr, Bool, true, false, cond, eqb, List, [], ◌∷◌, ◌++◌, length, refl, sym, ap, subst, ◌∙◌, arith, All, Option, Some, None, slice_get}
use Rattle.std.specs.Prelude.{if◌then◌else◌, ◌==◌, option_to_list}
use Rattle.std.proofs.lemmas.Bool.{eq-eqb, eqb-true, ne_eqb}
use Rattle.std.proofs.lemmas.List.{length_push}
use Rattle.std.proofs.lemmas.Option.{slice_get_within}
use Rattle.session_laws.proofs.Declared.{pushed_cases}
use Rattle.orc_ids.specs.declared.ids.NameId.{NameId}
use Rattle.code_memory.specs.declared.image.Segment.{Segment}
use Rattle.session_model.specs.Meaning.{Meaning}
use Rattle.session_model.specs.declared.entry.Entry.{Entry}
use Rattle.turn_lock.specs.declared.view.View.{View}
use Rattle.shared_session.specs.Home.{seat_of}
use Rattle.session_model.specs.declared.look_end.LookEnd.{LookEnd}
use Rattle.session_model.specs.declared.look_end.LookEnd.TheVariants as look
use Rattle.crew.specs.Crew.{HaveWorked, IsKept, Says, WasDone}
use Rattle.crew.proofs.Worked.{all_at, some_there}
use Rattle.linked_program.specs.Clients.{IsClient}
use Rattle.linked_program.specs.Members.{AreMembers, HasServed, Serves, is_client, last_end}
use Rattle.linked_program.specs.Worked.{IsMember, MembersWorked}
use Rattle.linked_program.specs.declared.client.ClientEnd.{ClientEnd}
use Rattle.linked_program.specs.declared.members.Member.{Member}
use Rattle.link_worker.proofs.Calls.{some_is}

none_some : {X : Type 0} (x : X) → ◌≡◌ {A = Option X} None (Some x) → ⊥
none_some x e = cc

module _ {U : Type 0} (means : U → Meaning) (jmax : ℕ) where
  -- a seat that worked has the number that it had
  pub client_number : (entry : NameId) (v w : View (Entry U)) (end : LookEnd) (memory : Option (List Segment)) → IsClient means jmax entry v w end memory → w.number ≡ v.number
  client_number entry v w (look.Found matches) (Some memory) did = ap (λ (x : View (Entry U)). x.number) did.view
  client_number entry v w (look.Found matches) None none = absurd none
  client_number entry v w (look.Failed i) None did = ap (λ (x : View (Entry U)). x.number) did.view
  client_number entry v w (look.InError i) None did = ap (λ (x : View (Entry U)). x.number) did.view
  client_number entry v w (look.Missing name) None did = ap (λ (x : View (Entry U)). x.number) did.view
  client_number entry v w (look.NoDylib d) None did = ap (λ (x : View (Entry U)). x.number) did.view
  client_number entry v w (look.JournalFull len) None (did, stopped) = ap (λ (x : View (Entry U)). x.number) did.view
  client_number entry v w look.NoMemory None did = ap (λ (x : View (Entry U)). x.number) did.view
  client_number entry v w (look.Failed i) (Some memory) none = absurd none
  client_number entry v w (look.InError i) (Some memory) none = absurd none
  client_number entry v w (look.Missing name) (Some memory) none = absurd none
  client_number entry v w (look.NoDylib d) (Some memory) none = absurd none
  client_number entry v w (look.JournalFull len) (Some memory) none = absurd none
  client_number entry v w look.NoMemory (Some memory) none = absurd none

module _ {G : Type 0} where
  -- what was popped off the end is the last
  pub last_popped : (items rest : List (Member G)) (o : Option (Member G)) (m : Member G) → items ≡ rest ++ option_to_list o → o ≡ Some m → m.end ≡ last_end items
  last_popped items rest o m is some = sym (last_of rest) ∙ ap last_end (sym (is ∙ ap (λ p. rest ++ option_to_list p) some))
    where
      last_of : (ms : List (Member G)) → last_end (ms ++ m ∷ []) ≡ m.end
      last_of [] = refl
      last_of (x ∷ []) = refl
      last_of (x ∷ y ∷ ms) = last_of (y ∷ ms)

  pub no_last : (ms : List (Member G)) → length ms ≡ 0 → None ≡ last_end ms
  no_last [] none = refl
  no_last (m ∷ ms) none = absurd (omega (arith, none))

module _ {G : Type 0} (entry : NameId) where
  -- workers alone
  abbrev pub AreWorkers : List (Member G) → Type 0
  AreWorkers ms = (k : ℕ) (m : Member G) → slice_get ms k ≡ Some m → (m.entry ≡ entry) × (is_client m.role ≡ false)

  pub one_more_worker : (ms : List (Member G)) (m : Member G) → (m.entry ≡ entry) × (is_client m.role ≡ false) → AreWorkers ms → AreWorkers (ms ++ m ∷ [])
  one_more_worker ms m is are k x at = by (pushed_cases ms m k x at)
    where
      by : (slice_get ms k ≡ Some x) ⊎ ((k ≡ length ms) × (x ≡ m)) → (x.entry ≡ entry) × (is_client x.role ≡ false)
      by (inl old) = are k x old
      by (inr last) = subst (λ (y : Member G). (y.entry ≡ entry) × (is_client y.role ≡ false)) (sym last.1) is

  -- and then the client
  pub client_last : (workers : ℕ) (ms : List (Member G)) (m : Member G) → length ms ≡ workers → (m.entry ≡ entry) × (is_client m.role ≡ true) → AreWorkers ms → AreMembers entry workers (ms ++ m ∷ [])
  client_last workers ms m count is are = record { count = length_push ms m ∙ ap (λ n. n + 1) count; each = λ k x at. by k x (pushed_cases ms m k x at) }
    where
      by : (k : ℕ) (x : Member G) → (slice_get ms k ≡ Some x) ⊎ ((k ≡ length ms) × (x ≡ m)) → (x.entry ≡ entry) × (is_client x.role ≡ eqb k workers)
      by k x (inl old) = let w = are k x old in let below = slice_get_within ms k x old in (w.0, w.1 ∙ sym (ne_eqb k workers (λ same. omega (arith, same, below, count))))
      by k x (inr last) = subst (λ (y : Member G). (y.entry ≡ entry) × (is_client y.role ≡ eqb k workers)) (sym last.1) (is.0, is.1 ∙ sym (eq-eqb k workers (last.0 ∙ count)))

module _ {U G : Type 0} (means : U → Meaning) (jmax : ℕ) where
  -- what a member does
  abbrev pub Does : Member G → Member G → View (Entry U) → View (Entry U) → Type 0
  Does m n v w = Serves means jmax m.entry (is_client m.role) v w n.end

  -- the last member has the client's end
  last_is : (members : List (Member G)) (k : ℕ) (m : Member G) → slice_get members k ≡ Some m → length members ≡ k + 1 → last_end members ≡ m.end
  last_is [] k m there count = absurd (none_some m there)
  last_is (x ∷ []) zero m there count = ap (λ (y : Member G). y.end) (some_is x m there)
  last_is (x ∷ []) (suc k) m there count = absurd (none_some m there)
  last_is (x ∷ y ∷ ys) zero m there count = absurd (omega (arith, count))
  last_is (x ∷ y ∷ ys) (suc k) m there count = last_is (y ∷ ys) k m there (omega (arith, count))

  module _ (workers : ℕ) (entry : NameId) (v w : View (Entry U)) (old new : List (Member G)) (from : v.spare_from ≡ 1) (members : AreMembers entry workers old) (worked : HaveWorked seat_of Does v w old new) where
    -- a member by its place
    record At (k number : ℕ) : Type 0 where
      before : Member G
      then' : Member G
      knew : View (Entry U)
      then_is : slice_get new k ≡ Some then'
      knew_is : slice_get worked.views k ≡ Some knew
      done : WasDone seat_of Does number v.seen before then' knew
      role : is_client before.role ≡ eqb k workers
      its : before.entry ≡ entry

    at : (k number : ℕ) → k < workers + 1 → number + k ≡ workers + 1 → At k number
    at k number lt is =
        let o = some_there old k (omega (arith, lt, members.count)) in
        let n = some_there new k (omega (arith, lt, members.count, worked.count)) in
        let x = some_there worked.views k (omega (arith, lt, members.count, worked.seats)) in
        let m = members.each k o.0 o.1 in
        record { before = o.0; then' = n.0; knew = x.0; then_is = n.1; knew_is = x.1; done = worked.each k number o.0 n.0 x.0 o.1 n.1 x.1 (omega (arith, is, from, members.count)); role = m.1; its = m.0 }

    serves : (k number : ℕ) (a : At k number) → HasServed means jmax entry (eqb k workers) a.done.before a.knew a.then'.end
    serves k number a = subst (λ n. HasServed means jmax n (eqb k workers) a.done.before a.knew a.then'.end) a.its (subst (λ q. HasServed means jmax a.before.entry q a.done.before a.knew a.then'.end) a.role a.done.did.0)

    -- the client's end is there
    pub end_there : (c : ClientEnd) × (last_end new ≡ Some c)
    end_there =
        let a = at workers 1 (omega arith) (omega arith) in
        some_end a.done.before a.knew a.then'.end (last_is new workers a.then' a.then_is (worked.count ∙ members.count)) (subst (λ q. HasServed means jmax entry q a.done.before a.knew a.then'.end) (eq-eqb workers workers refl) (serves workers 1 a))
      where
        some_end : (x y : View (Entry U)) (end : Option ClientEnd) → last_end new ≡ end → HasServed means jmax entry true x y end → (c : ClientEnd) × (last_end new ≡ Some c)
        some_end x y (Some c) is did = (c, is)
        some_end x y None is none = absurd none

    -- a member by its seat
    member_of : (log : List (Entry U)) (c : ClientEnd) → last_end new ≡ Some c → All (IsKept seat_of log) worked.views → (k s : ℕ) → k < workers + 1 → s + k ≡ workers + 1 → eqb k workers ≡ eqb s 1 → IsMember means jmax entry v.seen log s (if s == 1 then Some c else None)
    member_of log c is kept k s lt number client =
        let a = at k s lt number in
        record {
          before = a.done.before;
          after = a.knew;
          new = a.done.begins;
          same = a.done.same;
          served = by_seat (eqb s 1) a.done.before a.knew a.then'.end (λ t. end_of k a.then' a.then_is (client ∙ t)) (subst (λ q. HasServed means jmax entry q a.done.before a.knew a.then'.end) client (serves k s a));
          free = a.done.did.1;
          kept = all_at (IsKept seat_of log) worked.views k a.knew kept a.knew_is;
        }
      where
        end_of : (j : ℕ) (m : Member G) → slice_get new j ≡ Some m → eqb j workers ≡ true → m.end ≡ Some c
        end_of j m there same = sym (last_is new j m there (worked.count ∙ (members.count ∙ ap (λ n. n + 1) (sym (eqb-true j workers same))))) ∙ is

        by_seat : (q : Bool) (x y : View (Entry U)) (end : Option ClientEnd) → (q ≡ true → end ≡ Some c) → HasServed means jmax entry q x y end → HasServed means jmax entry q x y (cond q (Some c) None)
        by_seat true x y end last did = subst (HasServed means jmax entry true x y) (last refl) did
        by_seat false x y end last did = did

    -- all of them
    pub members_worked : (log : List (Entry U)) (c : ClientEnd) → last_end new ≡ Some c → Says seat_of log w → MembersWorked means jmax workers entry v log c
    members_worked log c is said = let k = worked.kept log said in record { first = k.0; member = each k.1 }
      where
        each : All (IsKept seat_of log) worked.views → (s : ℕ) → 0 < s → s < workers + 2 → IsMember means jmax entry v.seen log s (if s == 1 then Some c else None)
        each kept zero some few = absurd (omega (arith, some))
        each kept (suc zero) some few = member_of log c is kept workers 1 (omega arith) (omega arith) (eq-eqb workers workers refl)
        each kept (suc (suc j)) some few =
            let k : ℕ = (workers + 1) - suc (suc j) in
            let number : suc (suc j) + k ≡ workers + 1 = omega (arith, few) in
            let other : eqb k workers ≡ false = ne_eqb k workers (λ same. omega (arith, same, number)) in
            member_of log c is kept k (suc (suc j)) (omega (arith, number)) number (other ∙ sym (ne_eqb (suc (suc j)) 1 (λ same. omega (arith, same))))
