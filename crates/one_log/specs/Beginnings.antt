-- Two histories of one run, of which one is a beginning of the other.
use Rattle.std.specs.Prelude.{◌≡◌, ℕ, ◌+◌, ◌<◌, ◌⊎◌, ⊤, true, false, List, ◌++◌, take, slice_get, Some, None}
use Rattle.orc_ids.specs.declared.ids.UnitId.{UnitId}
use Rattle.code_memory.specs.Mapped.{byte_at}
use Rattle.session_model.specs.Calls.{refusal_of}
use Rattle.session_model.specs.Meaning.{Meaning, Bindings}
use Rattle.session_model.specs.State.{state}
use Rattle.session_model.specs.declared.entry.Entry.{Entry}
use Rattle.session_model.specs.declared.entry.Event.TheVariants as event
use Rattle.session_model.specs.declared.entry.Finishing.TheVariants.{Bound}
use Rattle.session_model.specs.declared.entry.Reply.TheVariants as reply
use Rattle.session_model.specs.declared.entry.Why.TheVariants as why
use Rattle.run_laws.specs.Ended.{is_whole}
use Rattle.run_laws.specs.declared.linked.Linked.{Linked}
use Rattle.run_laws.specs.declared.linked.Linked.TheVariants.{Found, Missing, Failed, Refused}

-- no unit is given up for want of memory
abbrev pub IsSpared : List (Entry Meaning) → Type 0
IsSpared h = (n : ℕ) (e : Entry Meaning) (u : UnitId) → slice_get h n ≡ Some e → e.event ≡ event.Fail u why.NoMemory → ⊥

-- A unit whose job Finish was taken, and that is then given up for a full journal, has no edge out of range: one that has is given up for that edge.
abbrev pub EdgesAreTold : List (Entry Meaning) → Type 0
EdgesAreTold h = (n k : ℕ) (taken e : Entry Meaning) (u : UnitId) (bound : Bindings) → n < k → slice_get h n ≡ Some taken → slice_get h k ≡ Some e →
    taken.event ≡ event.Take → taken.reply ≡ reply.Finish u (Bound bound) → e.event ≡ event.Fail u why.Full → e.reply ≡ reply.Failed → refusal_of (state (take (n + 1) h)) u ≡ None

-- A run that was stopped gave no unit up for want of memory, and told each edge. One that wasn't gave none up for either cause.
abbrev pub StopsClean : Linked → List (Entry Meaning) → Type 0
StopsClean end h = is_whole end ≡ false → IsSpared h × EdgesAreTold h

-- what the second list begins with
abbrev pub IsBeginning : {X : Type 0} → List X → List X → Type 0
IsBeginning {X} front whole = (more : List X) × (whole ≡ front ++ more)

-- The runs ended alike: with the same address and the same memory, for the same instance, at the same unit, or both without the entry.
abbrev pub EndAlike : Linked → Linked → Type 0
EndAlike (Found address memory) (Found other image) = (address ≡ other) × (byte_at memory ≡ byte_at image)
EndAlike Missing Missing = ⊤
EndAlike (Failed i) (Failed j) = i ≡ j
EndAlike (Refused k) (Refused j) = k ≡ j
EndAlike a b = ⊥

-- One of the two is a beginning of the other. One that was not stopped begins with each other one, and two that were not are the same, and ended alike.
pub record AreOne (h g : List (Entry Meaning)) (h_end g_end : Linked) : Type 0 where
  pub begins : IsBeginning h g ⊎ IsBeginning g h
  pub first_whole : is_whole h_end ≡ true → IsBeginning g h
  pub second_whole : is_whole g_end ≡ true → IsBeginning h g
  pub both_whole : is_whole h_end ≡ true → is_whole g_end ≡ true → (h ≡ g) × EndAlike h_end g_end
