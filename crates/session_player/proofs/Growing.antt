-- A call leaves the entries that were there.
use Rattle.std.proofs.Common.{◌≡◌, ℕ, None, List, [], ◌∷◌, ◌++◌, Result, Ok, Err, sym, ◌∙◌, append-nil}
use Rattle.orc_ids.specs.declared.ids.QueryId.{QueryId}
use Rattle.orc_ids.specs.declared.ids.SeatNo.{SeatNo}
use Rattle.orc_ids.specs.declared.lookup.Stop.{Stop}
use Rattle.orc_ids.specs.declared.lookup.Stop.TheVariants.{JournalFull, NoMemory}
use Rattle.session_model.specs.Meaning.{Meaning}
use Rattle.session_model.specs.declared.entry.Entry.{Entry}
use Rattle.session_model.specs.declared.entry.Event.{Event}
use Rattle.session_model.specs.declared.entry.Event.TheVariants as event
use Rattle.session_model.specs.declared.entry.Reply.{Reply}
use Rattle.session_model.specs.declared.entry.Reply.TheVariants as reply
use Rattle.session_steps.specs.Performs.{Performs, Collects, Takes}
use Rattle.session_player.specs.Plays.{Does}
use Rattle.session_player.specs.declared.call.Call.{Call}
use Rattle.session_player.specs.declared.call.Call.TheVariants as call

module _ {U : Type 0} (means : U → Meaning) (jmax : ℕ) where
  abbrev Grows : List (Entry U) → List (Entry U) → Type 0
  Grows old new = (more : List (Entry U)) × (new ≡ old ++ more)

  same : (old new : List (Entry U)) → new ≡ old → Grows old new
  same old new e = ([], e ∙ sym (append-nil old))

  performs_grow : (old new : List (Entry U)) (s : SeatNo) (e : Event U) (r : Result Reply Stop) → Performs means jmax old new s e r → Grows old new
  performs_grow old new s e (Ok r) p = (record { seat = s; event = e; reply = r } ∷ [], p.grown)
  performs_grow old new s e (Err (JournalFull len)) p = same old new p.0
  performs_grow old new s e (Err NoMemory) p = same old new p

  collects_grow : (old new : List (Entry U)) (s : SeatNo) (q : QueryId) (r : Result Reply Stop) → Collects means jmax old new s q r → Grows old new
  collects_grow old new s q (Ok reply.Open) p = same old new p.0
  collects_grow old new s q (Err (JournalFull len)) p = same old new p.0.0
  collects_grow old new s q (Err NoMemory) p = same old new p.0
  collects_grow old new s q (Ok r) p = (record { seat = s; event = event.Collect q; reply = r } ∷ [], p.grown)

  takes_grow : (old new : List (Entry U)) (s : SeatNo) (r : Result Reply Stop) → Takes means jmax old new s r → Grows old new
  takes_grow old new s (Ok (reply.Idle held)) p = same old new p.0
  takes_grow old new s (Err (JournalFull len)) p = same old new p.0.0
  takes_grow old new s (Err NoMemory) p = same old new p.0
  takes_grow old new s (Ok r) p = (record { seat = s; event = event.Take; reply = r } ∷ [], p.grown)

  pub does_grow : (old new : List (Entry U)) (s : SeatNo) (c : Call U) (r : Result Reply Stop) → Does means jmax old new s c r → (more : List (Entry U)) × (new ≡ old ++ more)
  does_grow old new s (call.Dylib name) r p = performs_grow old new s (event.Dylib name) r p
  does_grow old new s (call.SetOrder d order) r p = performs_grow old new s (event.SetOrder d order) r p
  does_grow old new s (call.Attach d t unit) r p = performs_grow old new s (event.Attach d t p.0) r p.2
  does_grow old new s (call.Define d t unit) r p = performs_grow old new s (event.Define d t p.0) r p.2
  does_grow old new s (call.Generate g) r p = performs_grow old new s (event.Generate g) r p
  does_grow old new s (call.Ask order wanted level) r p = performs_grow old new s (event.Ask order wanted level None) r p
  does_grow old new s (call.Collect q) r p = collects_grow old new s q r p
  does_grow old new s call.Take r p = takes_grow old new s r p
  does_grow old new s (call.Place u shape) r p = performs_grow old new s (event.Place u shape) r p.0
  does_grow old new s (call.Resolve u) r p = performs_grow old new s (event.Resolve u) r p
  does_grow old new s (call.Emit u groups bytes) r p = performs_grow old new s (event.Emit u groups) r p
  does_grow old new s (call.Fail u why) r p = performs_grow old new s (event.Fail u why) r p
  does_grow old new s (call.Tracker d) r p = performs_grow old new s (event.Tracker d) r p
  does_grow old new s (call.MoveTracker t to) r p = performs_grow old new s (event.MoveTracker t to) r p
  does_grow old new s (call.Remove t) r p = performs_grow old new s (event.Remove t) r p
  does_grow old new s call.Image r p = performs_grow old new s event.Image r p
  does_grow old new s (call.Link u) r p = performs_grow old new s (event.Link u) r p

  -- a call that is stopped leaves just those
  performs_stay : (old new : List (Entry U)) (s : SeatNo) (e : Event U) (why : Stop) → Performs means jmax old new s e (Err why) → new ≡ old
  performs_stay old new s e (JournalFull len) p = p.0
  performs_stay old new s e NoMemory p = p

  collects_stay : (old new : List (Entry U)) (s : SeatNo) (q : QueryId) (why : Stop) → Collects means jmax old new s q (Err why) → new ≡ old
  collects_stay old new s q (JournalFull len) p = p.0.0
  collects_stay old new s q NoMemory p = p.0

  takes_stay : (old new : List (Entry U)) (s : SeatNo) (why : Stop) → Takes means jmax old new s (Err why) → new ≡ old
  takes_stay old new s (JournalFull len) p = p.0.0
  takes_stay old new s NoMemory p = p.0

  pub does_stay : (old new : List (Entry U)) (s : SeatNo) (c : Call U) (why : Stop) → Does means jmax old new s c (Err why) → new ≡ old
  does_stay old new s (call.Dylib name) w p = performs_stay old new s (event.Dylib name) w p
  does_stay old new s (call.SetOrder d order) w p = performs_stay old new s (event.SetOrder d order) w p
  does_stay old new s (call.Attach d t unit) w p = performs_stay old new s (event.Attach d t p.0) w p.2
  does_stay old new s (call.Define d t unit) w p = performs_stay old new s (event.Define d t p.0) w p.2
  does_stay old new s (call.Generate g) w p = performs_stay old new s (event.Generate g) w p
  does_stay old new s (call.Ask order wanted level) w p = performs_stay old new s (event.Ask order wanted level None) w p
  does_stay old new s (call.Collect q) w p = collects_stay old new s q w p
  does_stay old new s call.Take w p = takes_stay old new s w p
  does_stay old new s (call.Place u shape) w p = performs_stay old new s (event.Place u shape) w p.0
  does_stay old new s (call.Resolve u) w p = performs_stay old new s (event.Resolve u) w p
  does_stay old new s (call.Emit u groups bytes) w p = performs_stay old new s (event.Emit u groups) w p
  does_stay old new s (call.Fail u why) w p = performs_stay old new s (event.Fail u why) w p
  does_stay old new s (call.Tracker d) w p = performs_stay old new s (event.Tracker d) w p
  does_stay old new s (call.MoveTracker t to) w p = performs_stay old new s (event.MoveTracker t to) w p
  does_stay old new s (call.Remove t) w p = performs_stay old new s (event.Remove t) w p
  does_stay old new s call.Image w p = performs_stay old new s event.Image w p
  does_stay old new s (call.Link u) w p = performs_stay old new s (event.Link u) w p
