-- How a run ended, by what was done with its program.
use Rattle.std.specs.Prelude.{◌≡◌, ℕ, ⊤, List, [], ◌∷◌, Option, Some, None}
use Rattle.orc_ids.specs.declared.ids.InstId.{InstId}
use Rattle.orc_ids.specs.declared.lookup.Stop.TheVariants as stop
use Rattle.code_memory.specs.declared.image.Segment.{Segment}
use Rattle.session_model.specs.Meaning.{Bindings}
use Rattle.session_model.specs.declared.look_end.LookEnd.TheVariants as look
use Rattle.linked_program.specs.declared.client.ClientEnd.{ClientEnd}
use Rattle.linked_program.specs.declared.concluding.Outcome.{Outcome}
use Rattle.linked_program.specs.declared.concluding.Outcome.TheVariants as outcome
use Rattle.run_laws.specs.declared.linked.Linked.{Linked}
use Rattle.run_laws.specs.declared.linked.Linked.TheVariants as linked
use Rattle.session_model.specs.declared.look_end.LookEnd.{LookEnd}

-- one instance was found, and the memory is there
abbrev pub IsFoundOne : Bindings → Option (List Segment) → Type 0
IsFoundOne matches (Some memory) = (i : InstId) × (address : ℕ) × (matches ≡ Some (i, address) ∷ [])
IsFoundOne matches None = ⊥

-- the run found it so
abbrev pub IsFoundAs : Bindings → Option (List Segment) → Linked → Type 0
IsFoundAs matches (Some memory) end = (i : InstId) × (address : ℕ) × (matches ≡ Some (i, address) ∷ []) × (end ≡ linked.Found address memory)
IsFoundAs matches None end = ⊥

-- the only ends that a lookup of a run has
abbrev pub IsPossibleEnd : LookEnd → Option (List Segment) → Type 0
IsPossibleEnd (look.Found matches) memory = IsFoundOne matches memory
IsPossibleEnd (look.InError i) memory = ⊥
IsPossibleEnd (look.NoDylib d) memory = ⊥
IsPossibleEnd end memory = ⊤

abbrev pub IsPossibleClient : ClientEnd → Type 0
IsPossibleClient c = IsPossibleEnd c.end c.memory

abbrev pub ConcludesEnd : LookEnd → Option (List Segment) → Linked → Type 0
ConcludesEnd (look.Found matches) memory end = IsFoundAs matches memory end
ConcludesEnd (look.Failed i) memory end = end ≡ linked.Failed i
ConcludesEnd (look.Missing name) memory end = end ≡ linked.Missing
ConcludesEnd (look.JournalFull len) memory end = end ≡ linked.Stopped (stop.JournalFull len)
ConcludesEnd look.NoMemory memory end = end ≡ linked.Stopped stop.NoMemory
ConcludesEnd (look.InError i) memory end = ⊥
ConcludesEnd (look.NoDylib d) memory end = ⊥

abbrev pub ConcludesClient : ClientEnd → Linked → Type 0
ConcludesClient c end = ConcludesEnd c.end c.memory end

abbrev pub IsPossible : Outcome → Type 0
IsPossible (outcome.Client c) = IsPossibleClient c
IsPossible o = ⊤

abbrev pub Concludes : Outcome → Linked → Type 0
Concludes (outcome.Refused k) end = end ≡ linked.Refused k
Concludes (outcome.Stopped st) end = end ≡ linked.Stopped st
Concludes (outcome.Client c) end = ConcludesClient c end
