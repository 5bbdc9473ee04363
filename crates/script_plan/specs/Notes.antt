-- Where the notes of a plan are.
use Rattle.std.specs.Prelude.{◌≡◌, ℕ, List, [], ◌++◌, length, map, flat_map}
use Rattle.std.specs.List.{enumerate_from}
use Rattle.std.specs.Option.{option_to_list}
use Rattle.script_model.specs.declared.calls.ClientCall.{ClientCall}
use Rattle.script_model.specs.declared.calls.ClientCall.TheVariants as client
use Rattle.script_model.specs.declared.calls.Plan.{Plan}

module _ {U N : Type 0} where
  -- the note of a call that has one, with its number
  abbrev pub watch_of : ClientCall U N → List (ℕ × N)
  watch_of (client.LookUp names watch) = option_to_list watch
  watch_of _ = []

  -- the notes of the lines of clients, in their order
  abbrev pub watches_of : List (List (ClientCall U N)) → List (ℕ × N)
  watches_of clients = flat_map (flat_map watch_of) clients

  abbrev pub watches : Plan U N → List (ℕ × N)
  watches plan = watches_of (map (λ calls. calls.items) plan.clients.items)

  -- the notes of the plan, and the unused ones numbered on from there, are all the notes with their numbers
  abbrev pub AreHandedOut : List N → Plan U N → List N → Type 0
  AreHandedOut notes plan unused = watches plan ++ enumerate_from (length (watches plan)) unused ≡ enumerate_from 0 notes

-- these are the first of the notes before; those after are left
abbrev pub AreTaken : {N : Type 0} → List (ℕ × N) → List N → List N → Type 0
AreTaken taken before after = map (λ w. w.1) taken ++ after ≡ before
