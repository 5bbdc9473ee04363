-- What each event leaves of the notes, and what it tells.
use Rattle.std.proofs.Common.{◌≡◌, ℕ, Bool, true, false, ◌⊎◌, inl, inr, List, [], ◌∷◌, ◌++◌, Option, Result, Ok, Err, refl, ap, sym, subst, ◌∙◌}
use Rattle.std.specs.Bool.{if◌then◌else◌}
use Rattle.std.proofs.lemmas.Option.{none-some}
use Rattle.orc_ids.specs.declared.ids.QueryId.{QueryId}
use Rattle.orc_ids.specs.declared.ids.SeatNo.{SeatNo}
use Rattle.orc_ids.specs.declared.lookup.Stop.{Stop}
use Rattle.orc_ids.specs.declared.lookup.Stop.TheVariants.{JournalFull, NoMemory}
use Rattle.session_model.specs.Lists.{only_if}
use Rattle.session_model.specs.Meaning.{Meaning}
use Rattle.session_model.specs.State.{state, plain_event, plain_entry, plain_history}
use Rattle.session_model.specs.Answer.{Answers}
use Rattle.session_model.specs.History.{IsLegal}
use Rattle.session_model.specs.declared.entry.Entry.{Entry}
use Rattle.session_model.specs.declared.entry.Event.{Event}
use Rattle.session_model.specs.declared.entry.Event.TheVariants as event
use Rattle.session_model.specs.declared.entry.Reply.{Reply}
use Rattle.session_model.specs.declared.entry.Reply.TheVariants as reply
use Rattle.session_laws.proofs.Declared.{one_more_legal}
use Rattle.closure_laws.proofs.Declared.{quiet_settles_none}
use Rattle.notifiers.specs.declared.notice.Notice.{Notice}
use Rattle.notifiers.specs.declared.notice.Unheard.{Unheard}
use Rattle.session_steps.specs.Fires.{AreFires, is_lodged}
use Rattle.session_steps.specs.Log.{Log}
use Rattle.session_steps.specs.Performs.{Performs, IsStopped, Takes, Collects}
use Rattle.session_steps.proofs.Declared.{plain_push}
use Rattle.history_laws.specs.Notes.{event_note, AreNoted, AreTold}
use Rattle.history_laws.specs.Laws.{may_settle, may_lodge, LogIsNoted, EmptyIsNoted, QuietIsNoted, SettlingIsTold, LodgingIsTold, CollectIsNoted, TakeIsNoted}
use Rattle.history_laws.proofs.Noting.{AreArmed, armed_same, armed_grown, fires_noted, none_fire}
use Rattle.history_laws.proofs.Unlodged.{Lodges, entry_lodges, unlodged, unstirred}

pub empty_is_noted : {N : Type 0} → EmptyIsNoted N
empty_is_noted = record { count = refl; waiting = λ k q t o. absurd (none-some q t); settled = λ k n end x. refl }

-- an event with its unit's meaning may do what the event may
plain_kind : {U : Type 0} (means : U → Meaning) (e : Event U) → (may_settle (plain_event means e) ≡ may_settle e) × (may_lodge (plain_event means e) ≡ may_lodge e)
plain_kind means (event.Dylib name) = (refl, refl)
plain_kind means (event.SetOrder d order) = (refl, refl)
plain_kind means (event.Attach d t u) = (refl, refl)
plain_kind means (event.Define d t u) = (refl, refl)
plain_kind means (event.Generate g) = (refl, refl)
plain_kind means (event.Ask order wanted level _) = (refl, refl)
plain_kind means (event.Collect q) = (refl, refl)
plain_kind means event.Take = (refl, refl)
plain_kind means (event.Place u shape) = (refl, refl)
plain_kind means (event.Resolve u) = (refl, refl)
plain_kind means (event.Emit u groups) = (refl, refl)
plain_kind means (event.Fail u why) = (refl, refl)
plain_kind means (event.Tracker d) = (refl, refl)
plain_kind means (event.MoveTracker t to) = (refl, refl)
plain_kind means (event.Remove t) = (refl, refl)
plain_kind means event.Image = (refl, refl)
plain_kind means (event.Link u) = (refl, refl)

-- An entry

quiet_entry : {N : Type 0} (jmax : ℕ) (h : List (Entry Meaning)) (e : Entry Meaning) (armed : List (Option (Unheard N))) → IsLegal jmax h → AreNoted h armed → Answers jmax h (state h) e.seat.0 e.event e.reply → may_settle e.event ≡ false → may_lodge e.event ≡ false → AreNoted (h ++ e ∷ []) armed
quiet_entry jmax h e armed legal noted a quiet alone = (fires_noted h e armed armed []
    (armed_same h e armed noted (subst (λ b. Lodges (only_if b (event_note e.event)) (state h) (state (h ++ e ∷ [])).queries) (unlodged jmax h (state h) e.seat.0 e.event e.reply a alone) (entry_lodges jmax h e a)))
    (none_fire (h ++ e ∷ []) armed (quiet_settles_none jmax h e ((one_more_legal jmax h e).0 legal a) (unstirred (state h) e.seat.0 e.event e.reply quiet)))).0

-- the events that settle nothing lodge nothing
quiet_lodges_none : {U : Type 0} (e : Event U) → may_settle e ≡ false → may_lodge e ≡ false
quiet_lodges_none (event.Ask order wanted level _) q = q
quiet_lodges_none (event.Link u) q = q
quiet_lodges_none _ q = refl

-- Logs

stopped_same : {U : Type 0} (means : U → Meaning) (jmax : ℕ) (old new : List (Entry U)) (s : SeatNo) (e : Event U) (stop : Stop) → IsStopped means jmax old new s e stop → new ≡ old
stopped_same means jmax old new s e (JournalFull len) p = p.0
stopped_same means jmax old new s e NoMemory p = p

kept_noted : {U N : Type 0} (means : U → Meaning) (old new : Log U N) → LogIsNoted means old → new.journal ≡ old.journal → new.armed ≡ old.armed → LogIsNoted means new
kept_noted means old new noted journal armed = subst (λ a. AreNoted (plain_history means new.journal) a) (sym armed) (subst (λ h. AreNoted (plain_history means h) old.armed) (sym journal) noted)

grown : {U : Type 0} (means : U → Meaning) (old new : List (Entry U)) (e : Entry U) → new ≡ old ++ e ∷ [] → plain_history means new ≡ plain_history means old ++ plain_entry means e ∷ []
grown means old new e g = ap (plain_history means) g ∙ plain_push means old e

pub quiet_is_noted : {U N : Type 0} (means : U → Meaning) → QuietIsNoted means N
quiet_is_noted {U} means jmax old new s e (Ok r) legal noted quiet same p = subst (λ h. AreNoted h new.armed) (sym (grown means old.journal new.journal entry p.grown)) (subst (λ a. AreNoted (plain_history means old.journal ++ plain_entry means entry ∷ []) a) (sym same)
    (quiet_entry jmax (plain_history means old.journal) (plain_entry means entry) old.armed legal noted p.answered ((plain_kind means e).0 ∙ quiet) ((plain_kind means e).1 ∙ quiet_lodges_none e quiet)))
  where
    entry : Entry U
    entry = record { seat = s; event = e; reply = r }
quiet_is_noted {U} means jmax old new s e (Err stop) legal noted quiet same p = kept_noted means old new noted (stopped_same means jmax old.journal new.journal s e stop p) same

-- what an entry has told, given who had a notifier
told_entry : {U N : Type 0} (means : U → Meaning) (old new : Log U N) (e : Entry U) (armed : List (Option (Unheard N))) (fires : List (Notice N)) → new.journal ≡ old.journal ++ e ∷ [] → AreArmed (plain_history means old.journal) (plain_entry means e) armed → AreFires (plain_history means new.journal) armed new.armed fires → LogIsNoted means new × AreTold (plain_history means new.journal) fires
told_entry means old new e armed fires g a f = let is = grown means old.journal new.journal e g in
    subst (λ h. AreNoted h new.armed × AreTold h fires) (sym is) (fires_noted (plain_history means old.journal) (plain_entry means e) armed new.armed fires a (subst (λ h. AreFires h armed new.armed fires) is f))

pub settling_is_told : {U N : Type 0} (means : U → Meaning) → SettlingIsTold means N
settling_is_told {U} means jmax old new s e (Ok r) fires legal noted alone p f = told_entry means old new entry old.armed fires p.grown
    (armed_same h (plain_entry means entry) old.armed noted (subst (λ b. Lodges (only_if b (event_note (plain_event means e))) (state h) (state (h ++ plain_entry means entry ∷ [])).queries) (unlodged jmax h (state h) s.0 (plain_event means e) r p.answered ((plain_kind means e).1 ∙ alone)) (entry_lodges jmax h (plain_entry means entry) p.answered))) f
  where
    entry : Entry U
    entry = record { seat = s; event = e; reply = r }

    h : List (Entry Meaning)
    h = plain_history means old.journal
settling_is_told {U} means jmax old new s e (Err stop) fires legal noted alone p f = (kept_noted means old new noted (stopped_same means jmax old.journal new.journal s e stop p) f.1, f.0)

pub lodging_is_told : {U N : Type 0} (means : U → Meaning) → LodgingIsTold means N
lodging_is_told {U} means jmax old new s e (Ok r) then' fires legal noted its p f = told_entry means old new entry (if is_lodged r then old.armed ++ then' ∷ [] else old.armed) fires p.grown
    (by (is_lodged r) (entry_lodges jmax h (plain_entry means entry) p.answered)) f
  where
    entry : Entry U
    entry = record { seat = s; event = e; reply = r }

    h : List (Entry Meaning)
    h = plain_history means old.journal

    by : (b : Bool) → Lodges (only_if b (event_note (plain_event means e))) (state h) (state (h ++ plain_entry means entry ∷ [])).queries → AreArmed h (plain_entry means entry) (if b then old.armed ++ then' ∷ [] else old.armed)
    by true l = armed_grown h (plain_entry means entry) old.armed then' noted its l
    by false l = armed_same h (plain_entry means entry) old.armed noted l
lodging_is_told {U} means jmax old new s e (Err stop) then' fires legal noted its p f = (kept_noted means old new noted (stopped_same means jmax old.journal new.journal s e stop p) f.1, f.0)

-- Collects and takes

-- nothing has changed, or it is answered like other events
collects_as : {U : Type 0} (means : U → Meaning) (jmax : ℕ) (old new : List (Entry U)) (s : SeatNo) (q : QueryId) (answer : Result Reply Stop) → Collects means jmax old new s q answer → (new ≡ old) ⊎ Performs means jmax old new s (event.Collect q) answer
collects_as means jmax old new s q (Ok reply.Open) c = inl c.0
collects_as means jmax old new s q (Err (JournalFull len)) c = inr c.0
collects_as means jmax old new s q (Err NoMemory) c = inr c.0
collects_as means jmax old new s q (Ok _) c = inr c

takes_as : {U : Type 0} (means : U → Meaning) (jmax : ℕ) (old new : List (Entry U)) (s : SeatNo) (answer : Result Reply Stop) → Takes means jmax old new s answer → (new ≡ old) ⊎ Performs means jmax old new s event.Take answer
takes_as means jmax old new s (Ok (reply.Idle held)) t = inl t.0
takes_as means jmax old new s (Err (JournalFull len)) t = inr t.0
takes_as means jmax old new s (Err NoMemory) t = inr t.0
takes_as means jmax old new s (Ok _) t = inr t

pub collect_is_noted : {U N : Type 0} (means : U → Meaning) → CollectIsNoted means N
collect_is_noted means jmax old new s q answer legal noted same c = split (collects_as means jmax old.journal new.journal s q answer c)
  where
    split : (new.journal ≡ old.journal) ⊎ Performs means jmax old.journal new.journal s (event.Collect q) answer → LogIsNoted means new
    split (inl journal) = kept_noted means old new noted journal same
    split (inr p) = quiet_is_noted means jmax old new s (event.Collect q) answer legal noted refl same p

pub take_is_noted : {U N : Type 0} (means : U → Meaning) → TakeIsNoted means N
take_is_noted means jmax old new s answer legal noted same t = split (takes_as means jmax old.journal new.journal s answer t)
  where
    split : (new.journal ≡ old.journal) ⊎ Performs means jmax old.journal new.journal s event.Take answer → LogIsNoted means new
    split (inl journal) = kept_noted means old new noted journal same
    split (inr p) = quiet_is_noted means jmax old new s event.Take answer legal noted refl same p
