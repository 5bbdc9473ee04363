-- What a session hands out beside its answers.
use Rattle.std.specs.Prelude.{◌≡◌, ◌≤◌, ⊤, ℕ, List, Option, Some, None, Result, Ok}
use Rattle.orc_ids.specs.declared.lookup.Stop.{Stop}
use Rattle.orc_ids.specs.declared.place.Shape.{Shape}
use Rattle.session_model.specs.Meaning.{Meaning}
use Rattle.session_model.specs.Plain.{Plain}
use Rattle.session_model.specs.Answer.{IsFree}
use Rattle.session_model.specs.Memory.{memory}
use Rattle.session_model.specs.declared.entry.Entry.{Entry}
use Rattle.session_model.specs.declared.entry.Reply.{Reply}
use Rattle.session_model.specs.declared.entry.Reply.TheVariants as reply
use Rattle.code_memory.specs.Mapped.{byte_at}
use Rattle.code_memory.specs.declared.image.Segment.{Segment}
use Rattle.session_steps.specs.Performs.{state_of}

-- the ranges have the memory's bytes
abbrev pub IsMemory : Plain → List Segment → Type 0
IsMemory m image = (address : ℕ) → byte_at image address ≡ memory m address

-- with the reply Image there is a copy of the memory, and else none
abbrev pub IsCopied : {U : Type 0} → (U → Meaning) → List (Entry U) → Result Reply Stop → Option (List Segment) → Type 0
IsCopied means h (Ok reply.Image) (Some image) = IsMemory (state_of means h) image
IsCopied means h (Ok reply.Image) None = ⊥
IsCopied means h answer image = image ≡ None

-- a unit that is placed is placed at the lowest free base
abbrev pub IsLowest : Plain → Shape → Reply → Type 0
IsLowest m shape (reply.Placed base) = (other : ℕ) → IsFree m.units shape other → base ≤ other
IsLowest m shape r = ⊤
