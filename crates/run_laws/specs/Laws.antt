-- How the lookup of a run ends, and how long its history is.
use Rattle.std.specs.Prelude.{◌≡◌, ℕ, ◌+◌, ◌*◌, ◌≤◌, ⊤, List, [], ◌∷◌, ◌++◌, length, Some}
use Rattle.orc_ids.specs.declared.ids.InstId.{InstId}
use Rattle.orc_ids.specs.declared.ids.NameId.{NameId}
use Rattle.session_model.specs.Calls.{Looks, numbered_calls}
use Rattle.session_model.specs.Meaning.{Meaning}
use Rattle.session_model.specs.declared.entry.Entry.{Entry}
use Rattle.session_model.specs.declared.entry.Reply.{Reply}
use Rattle.session_model.specs.declared.entry.Reply.TheVariants as reply
use Rattle.run_laws.specs.Runs.{ClientCalls, IsRunBy, lookup_of}

-- the reply that ends the lookup of an entry: no unit defines it; or its query was lost; or it was found, with an address
abbrev pub EndsLookup : NameId → Reply → Type 0
EndsLookup entry (reply.Missing name) = name ≡ entry
EndsLookup entry (reply.Lost at i) = ⊤
EndsLookup entry (reply.Found at matches) = (i : InstId) × (address : ℕ) × (matches ≡ Some (i, address) ∷ [])
EndsLookup entry r = ⊥

-- a lookup that ended, did so
abbrev pub LookupEndsSo : Type 0
LookupEndsSo = (jmax : ℕ) (main entry : NameId) (units : List Meaning) (h setup later : List (Entry Meaning)) → IsRunBy jmax main units h setup later →
    (before copied : List (ℕ × Entry Meaning)) (n : ℕ) (last : Entry Meaning) → numbered_calls 1 1 h ≡ (before ++ (n, last) ∷ []) ++ copied → Looks h (lookup_of entry) (before ++ (n, last) ∷ []) → EndsLookup entry last.reply

-- The history has at most three entries for the client, and twelve for each unit, beyond its set-up.
abbrev pub RunIsShort : Type 0
RunIsShort = (jmax : ℕ) (main entry : NameId) (units : List Meaning) (h setup later : List (Entry Meaning)) → IsRunBy jmax main units h setup later →
    (looked copied : List (ℕ × Entry Meaning)) → ClientCalls h entry looked copied → length copied ≤ 1 → length later ≤ 3 + 12 * length units
