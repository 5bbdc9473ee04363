-- What a list of calls does, one after the other.
use Rattle.std.specs.Prelude.{◌≡◌, ℕ, List, [], ◌∷◌, ◌++◌, take, slice_get, None, Some, Result, Ok, Err, IfOk}
use Rattle.orc_ids.specs.declared.ids.SeatNo.{SeatNo}
use Rattle.orc_ids.specs.declared.lookup.Stop.{Stop}
use Rattle.session_model.specs.Meaning.{Meaning}
use Rattle.session_model.specs.State.{plain_history}
use Rattle.session_model.specs.declared.entry.Entry.{Entry}
use Rattle.session_model.specs.declared.entry.Event.TheVariants as event
use Rattle.session_model.specs.declared.entry.Reply.{Reply}
use Rattle.session_steps.specs.Handed.{IsLowest}
use Rattle.session_steps.specs.Performs.{state_of, Performs, PerformsWith, Collects, Takes}
use Rattle.session_player.specs.declared.call.Call.{Call}
use Rattle.session_player.specs.declared.call.Call.TheVariants as call
use Rattle.session_player.specs.declared.call.SeatCall.{SeatCall}

-- what the seat's call does, which is answered so: a unit gets the lowest free base
abbrev pub Does : {U : Type 0} → (U → Meaning) → ℕ → List (Entry U) → List (Entry U) → SeatNo → Call U → Result Reply Stop → Type 0
Does means jmax old new s (call.Dylib name) r = Performs means jmax old new s (event.Dylib name) r
Does means jmax old new s (call.SetOrder d order) r = Performs means jmax old new s (event.SetOrder d order) r
Does means jmax old new s (call.Attach d t unit) r = PerformsWith means jmax old new s (λ share. event.Attach d t share) unit r
Does means jmax old new s (call.Define d t unit) r = PerformsWith means jmax old new s (λ share. event.Define d t share) unit r
Does means jmax old new s (call.Generate g) r = Performs means jmax old new s (event.Generate g) r
Does means jmax old new s (call.Ask order wanted level) r = Performs means jmax old new s (event.Ask order wanted level None) r
Does means jmax old new s (call.Collect q) r = Collects means jmax old new s q r
Does means jmax old new s call.Take r = Takes means jmax old new s r
Does means jmax old new s (call.Place u shape) r = Performs means jmax old new s (event.Place u shape) r × IfOk r (IsLowest (state_of means old) shape)
Does means jmax old new s (call.Resolve u) r = Performs means jmax old new s (event.Resolve u) r
Does means jmax old new s (call.Emit u groups bytes) r = Performs means jmax old new s (event.Emit u groups) r
Does means jmax old new s (call.Fail u why) r = Performs means jmax old new s (event.Fail u why) r
Does means jmax old new s (call.Tracker d) r = Performs means jmax old new s (event.Tracker d) r
Does means jmax old new s (call.MoveTracker t to) r = Performs means jmax old new s (event.MoveTracker t to) r
Does means jmax old new s (call.Remove t) r = Performs means jmax old new s (event.Remove t) r
Does means jmax old new s call.Image r = Performs means jmax old new s event.Image r
Does means jmax old new s (call.Link u) r = Performs means jmax old new s (event.Link u) r

-- each call is answered by a reply, in order, from journal to journal
abbrev pub Plays : {U : Type 0} → (U → Meaning) → ℕ → List (SeatCall U) → List (Entry U) → List (Entry U) → Type 0
Plays means jmax [] old new = new ≡ old
Plays {U} means jmax (c ∷ cs) old new = (mid : List (Entry U)) × (r : Reply) × Does means jmax old mid c.seat c.call (Ok r) × Plays means jmax cs mid new

-- the calls before this one are, and this one is stopped
pub record IsStoppedAt {U : Type 0} (means : U → Meaning) (jmax : ℕ) (calls : List (SeatCall U)) (at : ℕ) (why : Stop) (old new : List (Entry U)) : Type 0 where
  pub call : SeatCall U
  pub there : slice_get calls at ≡ Some call
  pub before : Plays means jmax (take at calls) old new
  pub stopped : Does means jmax new new call.seat call.call (Err why)

-- the calls lead journals of the same meaning to journals of the same meaning
abbrev pub IsOneHistory : {U : Type 0} → (U → Meaning) → Type 0
IsOneHistory {U} means = (jmax : ℕ) (calls : List (SeatCall U)) (old new other end : List (Entry U)) →
    Plays means jmax calls old new → Plays means jmax calls other end →
    plain_history means old ≡ plain_history means other → plain_history means new ≡ plain_history means end

-- a call leaves the entries that were there
abbrev pub CallsGrow : {U : Type 0} → (U → Meaning) → Type 0
CallsGrow {U} means = (jmax : ℕ) (old new : List (Entry U)) (s : SeatNo) (c : Call U) (r : Result Reply Stop) → Does means jmax old new s c r → (more : List (Entry U)) × (new ≡ old ++ more)
