-- What the seats behind the first do: clients their lines, and workers jobs.
use Rattle.std.specs.Prelude.{◌≡◌, ⊤, ℕ, ◌+◌, ◌<◌, List, [], ◌∷◌, ◌++◌, length, map, slice_get, All, Option, Some}
use Rattle.orc_ids.specs.declared.lookup.Outcome.{Outcome}
use Rattle.session_model.specs.Meaning.{Meaning}
use Rattle.session_model.specs.declared.entry.Entry.{Entry}
use Rattle.turn_lock.specs.declared.view.View.{View}
use Rattle.notifiers.specs.declared.notice.Notice.{Notice}
use Rattle.link_worker.specs.Does.{Does}
use Rattle.link_worker.specs.Works.{IsFree, Jobs}
use Rattle.script_model.specs.Lines.{AreSkipped}
use Rattle.script_model.specs.declared.line_end.LineEnd.{LineEnd}
use Rattle.script_session.specs.Clients.{AreUnheard, HasDoneAll, IsEmpty}
use Rattle.script_model.specs.Plans.{CanCall, line_of}
use Rattle.script_model.specs.declared.calls.ClientCall.{ClientCall}
use Rattle.script_session.specs.declared.members.Member.{Member}
use Rattle.script_session.specs.declared.members.Role.{Role}
use Rattle.script_session.specs.declared.members.Role.TheVariants.{Client, Worker}

module _ {U N : Type 0} (means : U → Meaning) (heard : N → Option Outcome) (number : N → ℕ) where
  -- a client's lines can be called, and there is room for their ends
  abbrev pub CanServe : Role U N → Type 0
  CanServe (Client calls client) = All (CanCall means heard number) calls.items × IsEmpty (length calls.items) client
  CanServe Worker = ⊤

  -- a member can serve, and nobody was told yet
  pub record CanBegin {G : Type 0} (m : Member U N G) : Type 0 where
    pub role : CanServe m.role
    pub fired : m.fired ≡ []

  -- a client did its lines, and a worker jobs; these were told at their calls
  abbrev pub HasServed : ℕ → Role U N → Role U N → View (Entry U) → View (Entry U) → List (Notice N) → Type 0
  HasServed jmax (Client calls before) (Client left client) v w told = HasDoneAll means heard jmax (map (line_of means) calls.items) client.lines.items v w [] told × AreUnheard heard number client.unlodged.items
  HasServed jmax Worker Worker v w told = Does means heard v w [] told Jobs
  HasServed jmax role other v w told = ⊥

  -- no line of a client was done
  abbrev pub IsSkipped : Role U N → Role U N → Type 0
  IsSkipped (Client calls before) (Client left client) = AreSkipped (map (line_of means) calls.items) client.lines.items × AreUnheard heard number client.unlodged.items
  IsSkipped Worker Worker = ⊤
  IsSkipped role other = ⊥

  -- what a member did, by its roles before and after; and it holds no unit afterwards
  abbrev pub Serves : {G : Type 0} → ℕ → Member U N G → Member U N G → View (Entry U) → View (Entry U) → Type 0
  Serves jmax m n v w = HasServed jmax m.role n.role v w n.fired × IsFree means w

  -- no line of a member was done, and nobody was told
  pub record WasSkipped {G : Type 0} (m n : Member U N G) : Type 0 where
    pub role : IsSkipped m.role n.role
    pub untold : n.fired ≡ []

  pub record AllSkipped {G : Type 0} (old new : List (Member U N G)) : Type 0 where
    pub count : length new ≡ length old
    pub each : (k : ℕ) (m n : Member U N G) → slice_get old k ≡ Some m → slice_get new k ≡ Some n → WasSkipped m n

module _ {U N : Type 0} where
  -- the work of a client with these lines, with room for their ends
  abbrev pub IsClientOf : List (ClientCall U N) → Role U N → Type 0
  IsClientOf calls (Client its client) = (its.items ≡ calls) × IsEmpty (length calls) client
  IsClientOf calls Worker = ⊥

  -- the ends of a client's lines
  abbrev pub ends_in : Role U N → List (List LineEnd)
  ends_in (Client calls client) = client.lines.items ∷ []
  ends_in Worker = []

  -- the notifiers of a client that no query has
  abbrev pub unlodged_in : Role U N → List (List (ℕ × N))
  unlodged_in (Client calls client) = client.unlodged.items ∷ []
  unlodged_in Worker = []

  module _ {G : Type 0} where
    -- so many workers, and then the clients, the first one last
    pub record AreMembers (clients : List (List (ClientCall U N))) (workers : ℕ) (members : List (Member U N G)) : Type 0 where
      pub count : length members ≡ workers + length clients
      pub untold : All (λ m. m.fired ≡ []) members
      pub is_worker : (k : ℕ) (m : Member U N G) → slice_get members k ≡ Some m → k < workers → m.role ≡ Worker
      pub is_client : (k c : ℕ) (m : Member U N G) → slice_get members k ≡ Some m → c < length clients → k + c + 1 ≡ workers + length clients → (calls : List (ClientCall U N)) × (slice_get clients c ≡ Some calls) × IsClientOf calls m.role

    -- behind the members before stand clients, the first one last
    pub record AreAdded (clients : List (List (ClientCall U N))) (before members : List (Member U N G)) : Type 0 where
      pub added : List (Member U N G)
      pub are : members ≡ before ++ added
      pub count : length added ≡ length clients
      pub untold : All (λ m. m.fired ≡ []) added
      pub is_client : (k c : ℕ) (m : Member U N G) → slice_get added k ≡ Some m → k + c + 1 ≡ length clients → (calls : List (ClientCall U N)) × (slice_get clients c ≡ Some calls) × IsClientOf calls m.role

    -- the ends of all clients, the last member's first
    abbrev pub ends_of : List (Member U N G) → List (List LineEnd)
    ends_of [] = []
    ends_of (m ∷ ms) = ends_of ms ++ ends_in m.role

    -- who was told at each member's calls, and the notifiers that no query has
    abbrev pub told_of : List (Member U N G) → List (List (Notice N))
    told_of [] = []
    told_of (m ∷ ms) = told_of ms ++ m.fired ∷ []

    abbrev pub unlodged_of : List (Member U N G) → List (List (ℕ × N))
    unlodged_of [] = []
    unlodged_of (m ∷ ms) = unlodged_of ms ++ unlodged_in m.role
