-- What the seats behind the first do: the client looks the entry up, and workers do jobs.
use Rattle.std.specs.Prelude.{◌≡◌, ◌==◌, ◌+◌, ℕ, Bool, true, false, List, [], ◌∷◌, length, slice_get, Option, Some, None}
use Rattle.orc_ids.specs.declared.ids.NameId.{NameId}
use Rattle.session_model.specs.Meaning.{Meaning}
use Rattle.session_model.specs.declared.entry.Entry.{Entry}
use Rattle.turn_lock.specs.declared.view.View.{View}
use Rattle.link_worker.specs.Works.{IsFree}
use Rattle.link_worker.specs.Assists.{HasDoneJobs}
use Rattle.linked_program.specs.Clients.{IsClientOf}
use Rattle.linked_program.specs.declared.client.ClientEnd.{ClientEnd}
use Rattle.linked_program.specs.declared.members.Member.{Member}
use Rattle.linked_program.specs.declared.members.Role.{Role}
use Rattle.linked_program.specs.declared.members.Role.TheVariants.{Client, Worker}

abbrev pub is_client : Role → Bool
is_client Client = true
is_client Worker = false

module _ {U : Type 0} (means : U → Meaning) (jmax : ℕ) where
  -- the client looked the entry up, and this is what it came to; any other seat did jobs
  abbrev pub HasServed : NameId → Bool → View (Entry U) → View (Entry U) → Option ClientEnd → Type 0
  HasServed entry true v w (Some client) = IsClientOf means jmax entry v w client
  HasServed entry true v w None = ⊥
  HasServed entry false v w end = HasDoneJobs means v w

  -- and it holds no unit afterwards
  abbrev pub Serves : NameId → Bool → View (Entry U) → View (Entry U) → Option ClientEnd → Type 0
  Serves entry client v w end = HasServed entry client v w end × IsFree means w

module _ {G : Type 0} where
  -- what the last member's lookup came to
  abbrev pub last_end : List (Member G) → Option ClientEnd
  last_end [] = None
  last_end (m ∷ []) = m.end
  last_end (m ∷ n ∷ ms) = last_end (n ∷ ms)

  -- so many workers, and the client last
  pub record AreMembers (entry : NameId) (workers : ℕ) (members : List (Member G)) : Type 0 where
    pub count : length members ≡ workers + 1
    pub each : (k : ℕ) (m : Member G) → slice_get members k ≡ Some m → (m.entry ≡ entry) × (is_client m.role ≡ (k == workers))
