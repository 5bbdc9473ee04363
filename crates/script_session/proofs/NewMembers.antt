-- The members of a script, as they are made.
use Rattle.std.proofs.Common.{◌≡◌, ℕ, zero, suc, ◌+◌, ◌<◌, ◌⊎◌, inl, inr, List, [], ◌∷◌, ◌++◌, length, append-nil, refl, sym, ap, subst, ◌∙◌, arith, All, Option, Some, slice_get}
use Rattle.std.proofs.lemmas.List.{append_assoc, length-append, length_push}
use Rattle.std.proofs.lemmas.List.Elements.{All-append, All-cons, All-nil}
use Rattle.std.proofs.lemmas.Option.{none-some, slice_get_within}
use Rattle.orc_ids.specs.declared.lookup.Outcome.{Outcome}
use Rattle.session_model.specs.Meaning.{Meaning}
use Rattle.session_laws.proofs.Declared.{appended_cases, pushed_cases}
use Rattle.crew.proofs.Worked.{all_from}
use Rattle.script_session.specs.Members.{AllSkipped, AreAdded, AreMembers, IsClientOf, WasSkipped}
use Rattle.script_model.specs.declared.calls.ClientCall.{ClientCall}
use Rattle.script_session.specs.declared.members.Member.{Member}
use Rattle.script_session.specs.declared.members.Role.TheVariants.{Worker}

module _ {U N G : Type 0} where
  -- workers that nobody was told by
  abbrev pub AreWorkers : List (Member U N G) → Type 0
  AreWorkers ms = (k : ℕ) (m : Member U N G) → slice_get ms k ≡ Some m → (m.role ≡ Worker) × (m.fired ≡ [])

  pub worker_last : (ms : List (Member U N G)) (n : Member U N G) → n.role ≡ Worker → n.fired ≡ [] → AreWorkers ms → AreWorkers (ms ++ n ∷ [])
  worker_last ms n role fired are k m at = by (pushed_cases ms n k m at)
    where
      by : (slice_get ms k ≡ Some m) ⊎ ((k ≡ length ms) × (m ≡ n)) → (m.role ≡ Worker) × (m.fired ≡ [])
      by (inl old) = are k m old
      by (inr last) = subst (λ x. (x.role ≡ Worker) × (x.fired ≡ [])) (sym last.1) (role, fired)

  -- workers, and then the clients
  pub all_members : (clients : List (List (ClientCall U N))) (workers : ℕ) (first members : List (Member U N G)) → length first ≡ workers → AreWorkers first → AreAdded clients first members → AreMembers clients workers members
  all_members clients workers first members count are added = record {
    count = omega (arith, ap length added.are, length-append first added.added, count, added.count);
    untold = subst (All (λ m. m.fired ≡ [])) (sym added.are) (All-append (λ m. m.fired ≡ []) first added.added (all_from (λ m. m.fired ≡ []) first (λ k m at. (are k m at).1)) added.untold);
    is_worker = λ k m at few. worker_at k m few (appended_cases first added.added k m (subst (λ l. slice_get l k ≡ Some m) added.are at));
    is_client = λ k c m at few place. client_at k c m place few (appended_cases first added.added k m (subst (λ l. slice_get l k ≡ Some m) added.are at));
  }
    where
      worker_at : (k : ℕ) (m : Member U N G) → k < workers → (slice_get first k ≡ Some m) ⊎ ((j : ℕ) × (k ≡ length first + j) × (slice_get added.added j ≡ Some m)) → m.role ≡ Worker
      worker_at k m few (inl old) = (are k m old).0
      worker_at k m few (inr (j, is, there)) = absurd (omega (arith, few, is, count))

      client_at : (k c : ℕ) (m : Member U N G) → k + c + 1 ≡ workers + length clients → c < length clients → (slice_get first k ≡ Some m) ⊎ ((j : ℕ) × (k ≡ length first + j) × (slice_get added.added j ≡ Some m)) →
          (calls : List (ClientCall U N)) × (slice_get clients c ≡ Some calls) × IsClientOf calls m.role
      client_at k c m place few (inl old) = let below = slice_get_within first k m old in absurd (omega (arith, below, count, place, few))
      client_at k c m place few (inr (j, is, there)) = added.is_client j c m there (omega (arith, place, is, count))

  -- none is added yet
  pub none_added : (members : List (Member U N G)) → AreAdded [] members members
  none_added members = record {
    added = [];
    are = sym (append-nil members);
    count = refl;
    untold = All-nil (λ m. m.fired ≡ []);
    is_client = λ k c m at place. absurd (none-some m at);
  }

  -- a client is added behind the members; the clients behind it in the list were added before
  pub client_added : (clients : List (List (ClientCall U N))) (calls : List (ClientCall U N)) (before members : List (Member U N G)) (n : Member U N G) → IsClientOf calls n.role → n.fired ≡ [] → AreAdded clients before members → AreAdded (calls ∷ clients) before (members ++ n ∷ [])
  client_added clients calls before members n role fired a = record {
    added = a.added ++ n ∷ [];
    are = ap (λ l. l ++ n ∷ []) a.are ∙ append_assoc before a.added (n ∷ []);
    count = omega (arith, length_push a.added n, a.count);
    untold = All-append (λ m. m.fired ≡ []) a.added (n ∷ []) a.untold (All-cons (λ m. m.fired ≡ []) n [] fired (All-nil (λ m. m.fired ≡ [])));
    is_client = λ k c m at place. by k c m place (pushed_cases a.added n k m at);
  }
    where
      by : (k c : ℕ) (m : Member U N G) → k + c + 1 ≡ length (calls ∷ clients) → (slice_get a.added k ≡ Some m) ⊎ ((k ≡ length a.added) × (m ≡ n)) → (its : List (ClientCall U N)) × (slice_get (calls ∷ clients) c ≡ Some its) × IsClientOf its m.role
      by k zero m place (inl old) = let below = slice_get_within a.added k m old in absurd (omega (arith, below, place, a.count))
      by k (suc c) m place (inl old) = a.is_client k c m old (omega (arith, place))
      by k zero m place (inr last) = (calls, refl, subst (λ x. IsClientOf calls x.role) (sym last.1) role)
      by k (suc c) m place (inr last) = absurd (omega (arith, last.0, place, a.count))

-- Members whose lines are skipped
module _ {U N : Type 0} (means : U → Meaning) (heard : N → Option Outcome) (numbers : N → ℕ) where
  pub none_skipped : {G : Type 0} → AllSkipped means heard numbers {G = G} [] []
  none_skipped = record { count = refl; each = λ k m n at now. absurd (none-some m at) }

  pub skipped_more : {G : Type 0} (old new : List (Member U N G)) (m n : Member U N G) → AllSkipped means heard numbers old new → WasSkipped means heard numbers m n → AllSkipped means heard numbers (old ++ m ∷ []) (new ++ n ∷ [])
  skipped_more {G} old new m n all one = record {
    count = omega (arith, length_push old m, length_push new n, all.count);
    each = λ k x y at now. by k x y (pushed_cases old m k x at) (pushed_cases new n k y now);
  }
    where
      by : (k : ℕ) (x y : Member U N G) → (slice_get old k ≡ Some x) ⊎ ((k ≡ length old) × (x ≡ m)) → (slice_get new k ≡ Some y) ⊎ ((k ≡ length new) × (y ≡ n)) → WasSkipped means heard numbers x y
      by k x y (inl a) (inl b) = all.each k x y a b
      by k x y (inl a) (inr b) = let below = slice_get_within old k x a in absurd (omega (arith, below, b.0, all.count))
      by k x y (inr a) (inl b) = let below = slice_get_within new k y b in absurd (omega (arith, below, a.0, all.count))
      by k x y (inr a) (inr b) = subst (λ z. WasSkipped means heard numbers z y) (sym a.1) (subst (WasSkipped means heard numbers m) (sym b.1) one)
