-- Fails of units: the entry, and that the holder of a unit always has a place for it.
use Rattle.std.proofs.Common.{◌≡◌, ℕ, true, false, List, [], ◌∷◌, ◌++◌, slice_get, Some, Result, Ok, ap, sym, subst, ◌∙◌}
use Rattle.std.specs.Vec.{vec_capacity}
use Rattle.std.proofs.lemmas.Bool.{both_ways}
use Rattle.orc_ids.specs.declared.ids.SeatNo.{SeatNo}
use Rattle.orc_ids.specs.declared.ids.UnitId.{UnitId}
use Rattle.orc_ids.specs.declared.lookup.Stop.{Stop}
use Rattle.session_model.specs.Meaning.{Meaning}
use Rattle.session_model.specs.Plain.{UnitRow}
use Rattle.session_model.specs.State.{plain_history}
use Rattle.session_model.specs.History.{places}
use Rattle.session_model.specs.declared.entry.Entry.{Entry}
use Rattle.session_model.specs.declared.entry.Event.TheVariants as event
use Rattle.session_model.specs.declared.entry.Reply.{Reply}
use Rattle.session_model.specs.declared.entry.Why.{Why}
use Rattle.session_laws.proofs.Declared.{holder_can_fail}
use Rattle.session_parts.specs.declared.parts.Parts.{Parts}
use Rattle.session_steps.specs.declared.live.Live.{Live}
use Rattle.session_steps.specs.Allowed.{MayFail}
use Rattle.session_steps.specs.Gives.{GivesUp}
use Rattle.session_steps.specs.Moved.{CanEnter}
use Rattle.session_steps.specs.Performs.{state_of, lacks_places, Performs}
use Rattle.session_steps.specs.Rest.{Rests}
use Rattle.session_steps.proofs.Declared.{entry, enters, free}

fail_enters : {U N : Type 0} (means : U → Meaning) (jmax n : ℕ) (old : Live U N) (p : Parts U N) (s : SeatNo) (u : UnitId) (why : Why) (r : Reply) → Rests means jmax old → places (state_of means old.journal.items) s.0 (event.Fail u why) ≡ n → lacks_places means jmax old.journal.items n ≡ false →
    MayFail jmax (plain_history means old.journal.items) (state_of means old.journal.items) s.0 u why → GivesUp means (state_of means old.journal.items) s.0 u why r old.parts p → CanEnter means jmax old.journal.items (vec_capacity old.journal) (entry s (event.Fail u why) r) p
fail_enters means jmax n old p s u why r rest count place cause step = record {
  before = old.parts;
  rest = rest;
  place = free means jmax old.journal.items s.0 (event.Fail u why) n count place;
  answered = step.answered jmax (plain_history means old.journal.items) cause;
  goes = step.goes;
  lawful = step.lawful;
}

pub can_fail : {U N : Type 0} (means : U → Meaning) (jmax n : ℕ) (old new : Live U N) (s : SeatNo) (u : UnitId) (why : Why) (r : Reply) → Rests means jmax old → new ≡ record old { parts = new.parts } → places (state_of means old.journal.items) s.0 (event.Fail u why) ≡ n → lacks_places means jmax old.journal.items n ≡ false →
    MayFail jmax (plain_history means old.journal.items) (state_of means old.journal.items) s.0 u why → GivesUp means (state_of means old.journal.items) s.0 u why r old.parts new.parts → CanEnter means jmax new.journal.items (vec_capacity new.journal) (entry s (event.Fail u why) r) new.parts
can_fail {U} {N} means jmax n old new s u why r rest same count place cause step = subst (λ j. CanEnter means jmax j.items (vec_capacity j) (entry s (event.Fail u why) r) new.parts) (sym (ap (λ (l : Live U N). l.journal) same))
    (fail_enters means jmax n old new.parts s u why r rest count place cause step)

pub did_fail : {U N : Type 0} (means : U → Meaning) (jmax n : ℕ) (old new : Live U N) (view final : List (Entry U)) (s : SeatNo) (u : UnitId) (why : Why) (r : Reply) (told : Result Reply Stop) → view ≡ old.journal.items → Rests means jmax old → new ≡ record old { parts = new.parts } → places (state_of means old.journal.items) s.0 (event.Fail u why) ≡ n → lacks_places means jmax old.journal.items n ≡ false →
    MayFail jmax (plain_history means old.journal.items) (state_of means old.journal.items) s.0 u why → GivesUp means (state_of means old.journal.items) s.0 u why r old.parts new.parts → final ≡ new.journal.items ++ entry s (event.Fail u why) r ∷ [] → told ≡ Ok r → Performs means jmax view final s (event.Fail u why) told
did_fail {U} {N} means jmax n old new view final s u why r told seen rest same count place cause step grown heard = subst (Performs means jmax view final s (event.Fail u why)) (sym heard)
    (subst (λ h. Performs means jmax h final s (event.Fail u why) (Ok r)) (sym seen)
    (enters means jmax old.journal.items final (vec_capacity old.journal) (entry s (event.Fail u why) r) new.parts (fail_enters means jmax n old new.parts s u why r rest count place cause step)
    (grown ∙ ap (λ (l : Live U N). l.journal.items ++ entry s (event.Fail u why) r ∷ []) same)))

-- the seat that holds the unit is never stopped
pub holder_has_place : {U N : Type 0} (means : U → Meaning) (jmax n : ℕ) (old : Live U N) (s : SeatNo) (u : UnitId) (x : UnitRow) (why : Why) → Rests means jmax old → slice_get (state_of means old.journal.items).units u.0 ≡ Some x → x.seat ≡ Some s.0 → places (state_of means old.journal.items) s.0 (event.Fail u why) ≡ n → lacks_places means jmax old.journal.items n ≡ true → ⊥
holder_has_place means jmax n old s u x why rest at held count lacks = both_ways (lacks_places means jmax old.journal.items n)
    (sym (ap (lacks_places means jmax old.journal.items) count) ∙ holder_can_fail jmax (plain_history means old.journal.items) rest.legal rest.places s.0 u x why at held) lacks
