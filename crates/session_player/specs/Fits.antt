-- What the session asks of each call, where it is made.
use Rattle.std.specs.Prelude.{◌≤◌, ⊤, ℕ, List, [], ◌∷◌, length, Ok}
use Rattle.orc_ids.specs.declared.ids.SeatNo.{SeatNo}
use Rattle.orc_ids.specs.declared.limits.TheConstants.{ORDER_LIMIT, WANTED_LIMIT}
use Rattle.session_model.specs.Answer.{HasSource}
use Rattle.session_model.specs.Meaning.{Meaning}
use Rattle.session_model.specs.State.{plain_history}
use Rattle.session_model.specs.declared.entry.Entry.{Entry}
use Rattle.session_model.specs.declared.entry.Reply.{Reply}
use Rattle.session_steps.specs.Allowed.{MayPlace, MayEmit, MayFail}
use Rattle.session_steps.specs.Performs.{state_of}
use Rattle.session_player.specs.Plays.{Does}
use Rattle.session_player.specs.declared.call.Call.{Call}
use Rattle.session_player.specs.declared.call.Call.TheVariants as call
use Rattle.session_player.specs.declared.call.SeatCall.{SeatCall}

-- Lists are within their limits, an alias names a dylib that exists, and the holder of a unit hands in its
-- own shape, its own groups and bytes, and a cause that is there.
abbrev pub Fits : {U : Type 0} → (U → Meaning) → ℕ → List (Entry U) → SeatNo → Call U → Type 0
Fits means jmax h s (call.SetOrder d order) = length order ≤ ORDER_LIMIT
Fits means jmax h s (call.Attach d t unit) = HasSource (state_of means h) (means unit)
Fits means jmax h s (call.Define d t unit) = HasSource (state_of means h) (means unit)
Fits means jmax h s (call.Ask order wanted level) = (length order ≤ ORDER_LIMIT) × (length wanted ≤ WANTED_LIMIT)
Fits means jmax h s (call.Place u shape) = MayPlace (state_of means h) s.0 u shape
Fits means jmax h s (call.Emit u groups bytes) = MayEmit (state_of means h) s.0 u groups bytes
Fits means jmax h s (call.Fail u why) = MayFail jmax (plain_history means h) (state_of means h) s.0 u why
Fits means jmax h s c = ⊤

-- each call does, wherever the calls before it may have led
abbrev pub EachFits : {U : Type 0} → (U → Meaning) → ℕ → List (Entry U) → List (SeatCall U) → Type 0
EachFits means jmax h [] = ⊤
EachFits {U} means jmax h (c ∷ cs) = Fits means jmax h c.seat c.call × ((new : List (Entry U)) (r : Reply) → Does means jmax h new c.seat c.call (Ok r) → EachFits means jmax new cs)
