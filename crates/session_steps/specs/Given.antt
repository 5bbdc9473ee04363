-- Units that are handed in: why one gets no entry, and where it is handed back.
use Rattle.std.specs.Prelude.{◌≡◌, ℕ, List, Option, Some, None, Result, Ok, Err}
use Rattle.jit_dylib.specs.declared.error.DefineError.{DefineError}
use Rattle.jit_dylib.specs.declared.error.DefineError.TheVariants as error
use Rattle.orc_ids.specs.declared.ids.SeatNo.{SeatNo}
use Rattle.orc_ids.specs.declared.lookup.Stop.{Stop}
use Rattle.orc_ids.specs.declared.lookup.Stop.TheVariants as stop
use Rattle.session_model.specs.Meaning.{Meaning}
use Rattle.session_model.specs.State.{plain_event}
use Rattle.session_model.specs.History.{places}
use Rattle.session_model.specs.declared.entry.Entry.{Entry}
use Rattle.session_model.specs.declared.entry.Event.{Event}
use Rattle.session_model.specs.declared.entry.Reply.{Reply}
use Rattle.session_model.specs.declared.entry.Reply.TheVariants as reply
use Rattle.session_steps.specs.Performs.{state_of, IsStopped}

-- each event that wants one place is stopped for this reason
abbrev pub StopsEach : {U : Type 0} → (U → Meaning) → ℕ → List (Entry U) → Stop → Type 0
StopsEach {U} means jmax h why = (s : SeatNo) (e : Event U) → places (state_of means h) s.0 (plain_event means e) ≡ 1 → IsStopped means jmax h h s e why

-- the answer to a unit whose names weren't taken
abbrev pub undefined_answer : DefineError → Result Reply Stop
undefined_answer (error.Duplicate name i) = Ok (reply.Duplicate name i)
undefined_answer error.NoMemory = Err stop.NoMemory

-- the unit comes back
abbrev pub ComesBack : {U : Type 0} → (U → Meaning) → U → Option U → Type 0
ComesBack means unit back = (u : _) × (back ≡ Some u) × (means u ≡ means unit)

-- it does wherever it isn't defined
abbrev pub HandsBack : {U : Type 0} → (U → Meaning) → U → Result Reply Stop → Option U → Type 0
HandsBack means unit (Ok (reply.Defined v first count)) back = back ≡ None
HandsBack means unit answer back = ComesBack means unit back

-- it does wherever no generator is made of it
abbrev pub HandsBackGenerator : {U : Type 0} → (U → Meaning) → U → Result Reply Stop → Option U → Type 0
HandsBackGenerator means unit (Ok (reply.Generator g)) back = back ≡ None
HandsBackGenerator means unit answer back = ComesBack means unit back
