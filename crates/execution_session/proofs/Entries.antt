-- What an event has done that may settle queries, and lodges none.
use Rattle.std.proofs.Common.{◌≡◌, ℕ, true, false, List, [], ◌∷◌, ◌++◌, length, Option, Result, Ok, Err, refl, sym, subst}
use Rattle.orc_ids.specs.declared.ids.SeatNo.{SeatNo}
use Rattle.orc_ids.specs.declared.lookup.Stop.{Stop}
use Rattle.orc_ids.specs.declared.lookup.Stop.TheVariants as stop
use Rattle.session_model.specs.Meaning.{Meaning}
use Rattle.session_model.specs.State.{plain_event, plain_history}
use Rattle.session_model.specs.History.{places}
use Rattle.session_model.specs.declared.entry.Entry.{Entry}
use Rattle.session_model.specs.declared.entry.Event.{Event}
use Rattle.session_model.specs.declared.entry.Reply.{Reply}
use Rattle.notifiers.specs.declared.notice.Notice.{Notice}
use Rattle.notifiers.specs.declared.notice.Unheard.{Unheard}
use Rattle.session_steps.specs.declared.live.Live.{Live}
use Rattle.session_steps.specs.Fires.{AreFires, FiresBy}
use Rattle.session_steps.specs.Log.{Log}
use Rattle.session_steps.specs.Performs.{state_of, lacks_places, Performs}
use Rattle.session_steps.specs.Rest.{Rests}
use Rattle.session_steps.specs.Steps.{IsStep}
use Rattle.session_steps.proofs.Declared.{entry, did_step, stopped}

-- it was answered by an entry
pub did_tell : {U N : Type 0} (means : U → Meaning) (jmax n : ℕ) (old new : Live U N) (view final : List (Entry U)) (s : SeatNo) (e : Event U) (r : Reply) (told : Result Reply Stop) → view ≡ old.journal.items → Rests means jmax old → new ≡ record old { parts = new.parts } → places (state_of means old.journal.items) s.0 (plain_event means e) ≡ n → lacks_places means jmax old.journal.items n ≡ false →
    IsStep means (state_of means old.journal.items) s.0 (plain_event means e) r old.parts new.parts → final ≡ new.journal.items ++ entry s e r ∷ [] → told ≡ Ok r → Performs means jmax view final s e told
did_tell means jmax n old new view final s e r told seen rest same count place step grown heard = subst (Performs means jmax view final s e) (sym heard)
    (did_step means jmax n old new view final s e r r seen rest same count place step grown refl)

-- it has told whoever had a notifier before
pub did_fire : {U N : Type 0} (means : U → Meaning) (answer : Result Reply Stop) (r : Reply) (old new : Log U N) (armed : List (Option (Unheard N))) (fires : List (Notice N)) → answer ≡ Ok r → armed ≡ old.armed → AreFires (plain_history means new.journal) armed new.armed fires → FiresBy means answer old new fires
did_fire means answer r old new armed fires heard same f = subst (λ a. FiresBy means a old new fires) (sym heard) (subst (λ l. AreFires (plain_history means new.journal) l new.armed fires) same f)

-- there is no place for it
pub was_full : {U : Type 0} (means : U → Meaning) (jmax n : ℕ) (h view : List (Entry U)) (s : SeatNo) (e : Event U) (why : Stop) (told : Result Reply Stop) → view ≡ h → places (state_of means h) s.0 (plain_event means e) ≡ n → (why ≡ stop.JournalFull (length h)) × (lacks_places means jmax h n ≡ true) → told ≡ Err why → Performs means jmax view view s e told
was_full means jmax n h view s e why told seen count full heard = subst (Performs means jmax view view s e) (sym heard) (subst (λ l. Performs means jmax l l s e (Err why)) (sym seen) (stopped means jmax h s e n why count full))
