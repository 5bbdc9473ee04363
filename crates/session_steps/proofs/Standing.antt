-- What an event finds in a session at rest, and how its steps are put together.
use Rattle.std.proofs.Common.{◌≡◌, ℕ, ◌+◌, ◌≤◌, true, false, List, [], ◌∷◌, ◌++◌, length, slice_get, Option, None, refl, ap, sym, subst, ◌∙◌, arith}
use Rattle.std.specs.Bool.{if◌then◌else◌}
use Rattle.std.specs.Prelude.{◌||◌, flat_map, option_map}
use Rattle.std.specs.Vec.{vec_capacity}
use Rattle.std.proofs.lemmas.Bool.{eq-eqb}
use Rattle.list_laws.proofs.Lists.{list_same}
use Rattle.orc_ids.specs.declared.ids.SeatNo.{SeatNo}
use Rattle.orc_ids.specs.declared.lookup.Stop.{Stop}
use Rattle.orc_ids.specs.declared.lookup.Stop.TheVariants as stop
use Rattle.session_model.specs.Meaning.{Meaning}
use Rattle.session_model.specs.Plain.{Plain, kept}
use Rattle.session_model.specs.State.{state, plain_event, plain_entry, plain_history}
use Rattle.session_model.specs.Change.{change_of, changed}
use Rattle.session_model.specs.History.{is_full, places}
use Rattle.session_model.specs.declared.change.Change.{Change}
use Rattle.session_model.specs.declared.change.Change.TheVariants as change
use Rattle.session_model.specs.declared.entry.Entry.{Entry}
use Rattle.session_model.specs.declared.entry.Event.{Event}
use Rattle.session_model.specs.declared.entry.Reply.{Reply}
use Rattle.session_laws.proofs.Declared.{element_below, chains_end, legal_is_sound, kept_within}
use Rattle.closure_laws.specs.Quiet.{stirs, SettlesNow}
use Rattle.closure_laws.proofs.Declared.{rows_have_homes, done_is_bound, names_are_once, instances_are_offered, quiet_settles_none}
use Rattle.instances.specs.Graph.{Graph, Tells}
use Rattle.notifiers.specs.declared.notice.Unheard.{Unheard}
use Rattle.notifiers.specs.declared.notice.Notice.{Notice}
use Rattle.query_book.specs.Ledger.{Ledger}
use Rattle.session_parts.specs.declared.parts.Parts.{Parts}
use Rattle.session_parts.specs.Ends.{AreEnds}
use Rattle.session_parts.specs.Parts.{AreParts}
use Rattle.session_parts.specs.Replies.{Refuses}
use Rattle.session_steps.specs.declared.live.Live.{Live}
use Rattle.session_steps.specs.Performs.{state_of, lacks_places, IsStopped, Enters}
use Rattle.session_steps.specs.Rest.{IsAtRest, Rests}
use Rattle.session_steps.specs.Moved.{Same, Goes, CanEnter, HandsInLawful, IsStill}
use Rattle.session_steps.specs.Fires.{is_one_of, notice_of, AreFires}
use Rattle.session_steps.specs.Stands.{Stands}
use Rattle.session_steps.specs.Steps.{IsStep, IsQuietStep, IsTellingStep}
use Rattle.session_steps.proofs.Counting.{few_queries}
use Rattle.session_steps.proofs.Elements.{unmapped}
use Rattle.session_steps.proofs.Rested.{plain_push, entering}

pub stands : {U N : Type 0} (means : U → Meaning) (jmax : ℕ) (p : Parts U N) (h : List (Entry U)) (capacity : ℕ) → IsAtRest means jmax p h capacity → Stands means (state_of means h) p
stands means jmax p h capacity r = record {
  parts = r.parts;
  queries = r.queries;
  lawful = r.lawful;
  sound = legal_is_sound jmax (plain_history means h) r.legal;
  homes = rows_have_homes jmax (plain_history means h) r.legal;
  once = names_are_once jmax (plain_history means h) r.legal (λ u x t. (r.lawful.units u x t).differ);
  offered = λ i w x t here there. element_below x.meaning.offers w.offer (w.name, w.flags) (instances_are_offered jmax (plain_history means h) r.legal i w x t here there);
  bound = done_is_bound jmax (plain_history means h) r.legal;
  chains = chains_end jmax (plain_history means h) r.legal;
  numbered = omega (arith, within, r.limit);
  few = omega (arith, within, r.limit, few_queries (plain_history means h));
}
  where
    within : (state_of means h).entries + kept (state_of means h) ≤ jmax
    within = kept_within jmax (plain_history means h) r.legal r.places

-- Steps

same_tells : (g h : Graph) → h ≡ g → Tells g h
same_tells g h e = subst (Tells g) (sym e) (record { stands = λ i b n. refl; kept = λ i k. k })

-- a change that leaves instances and queries
pub goes_by : {U N : Type 0} (means : U → Meaning) (m : Plain) (s : ℕ) (e : Event Meaning) (r : Reply) (c : Change Meaning) (old new : Parts U N) → change_of m s e r ≡ c → AreParts means new (changed c m) → new.graph ≡ old.graph → new.book ≡ old.book → (changed c m).queries ≡ m.queries → old.book.queries ≡ m.queries → Goes means m s e r old new
goes_by {U} {N} means m s e r c old new is parts graph book queries had = record {
  parts = subst (λ d. AreParts means new (changed d m)) (sym is) parts;
  tells = same_tells old.graph new.graph graph;
  queries = ap (λ (b : Ledger N). b.queries) book ∙ (had ∙ (sym queries ∙ ap (λ d. (changed d m).queries) (sym is)));
  book = Same book;
}

-- a refusal
pub refused_step : {U N : Type 0} (means : U → Meaning) (m : Plain) (s : ℕ) (e : Event Meaning) (r : Reply) (p : Parts U N) → Stands means m p → Refuses m e r → IsQuietStep means m s e r p p
refused_step means m s e r p at it = record {
  step = record {
    answered = λ jmax past l ends. it.answered jmax past s;
    goes = goes_by means m s e r change.Nothing p p (it.quiet s) at.parts refl refl refl at.queries;
    lawful = subst HandsInLawful (sym (it.quiet s)) tt;
  };
  quiet = ap stirs (it.quiet s);
  book = refl;
}

-- nothing that a contract sees has changed
pub still_rests : {U N : Type 0} (means : U → Meaning) (jmax : ℕ) (p q : Parts U N) (h : List (Entry U)) (capacity : ℕ) → IsAtRest means jmax p h capacity → IsStill means (state_of means h) p q → IsAtRest means jmax q h capacity
still_rests {U} {N} means jmax p q h capacity r s = record {
  limit = r.limit;
  room = r.room;
  legal = r.legal;
  places = r.places;
  parts = s.parts;
  lawful = r.lawful;
  queries = ap (λ (b : Ledger N). b.queries) s.book ∙ r.queries;
  ends = subst (λ (b : Ledger N). AreEnds (plain_history means h) b.ends) (sym s.book) r.ends;
  current = subst (λ (b : Ledger N). Rattle.query_book.specs.Ledger.IsCurrent (Rattle.session_model.specs.Query.stand_at (state_of means h).rows) b) (sym s.book) r.current;
  waits = subst (λ (b : Ledger N). Rattle.session_parts.specs.Dues.WaitsOpen (state_of means h) b.ends) (sym s.book) r.waits;
  due = ap (λ (b : Ledger N). b.due) s.book ∙ r.due;
  told = s.changed ∙ r.told;
}

-- an entry for a step
pub can_enter : {U N : Type 0} (means : U → Meaning) (jmax : ℕ) (old : Live U N) (e : Entry U) (p : Parts U N) → Rests means jmax old → is_full jmax (state_of means old.journal.items) e.seat.0 (plain_event means e.event) ≡ false →
    IsStep means (state_of means old.journal.items) e.seat.0 (plain_event means e.event) e.reply old.parts p → CanEnter means jmax old.journal.items (vec_capacity old.journal) e p
can_enter means jmax old e p rest place step = record {
  before = old.parts;
  rest = rest;
  place = place;
  answered = step.answered jmax (plain_history means old.journal.items) refl rest.ends;
  goes = step.goes;
  lawful = step.lawful;
}

-- the journal has no place for the event's entry
pub stopped : {U : Type 0} (means : U → Meaning) (jmax : ℕ) (h : List (Entry U)) (s : SeatNo) (e : Event U) (n : ℕ) (why : Stop) → places (state_of means h) s.0 (plain_event means e) ≡ n → (why ≡ stop.JournalFull (length h)) × (lacks_places means jmax h n ≡ true) → IsStopped means jmax h h s e why
stopped means jmax h s e n why count full = subst (λ w. IsStopped means jmax h h s e w) (sym full.0) (refl, record { length = refl; full = ap (lacks_places means jmax h) count ∙ full.1 })

-- it has one
pub free : {U : Type 0} (means : U → Meaning) (jmax : ℕ) (h : List (Entry U)) (s : ℕ) (e : Event U) (n : ℕ) → places (state_of means h) s (plain_event means e) ≡ n → lacks_places means jmax h n ≡ false → is_full jmax (state_of means h) s (plain_event means e) ≡ false
free means jmax h s e n count f = ap (lacks_places means jmax h) count ∙ f

-- what a call did that entered
pub enters : {U N : Type 0} (means : U → Meaning) (jmax : ℕ) (h new : List (Entry U)) (capacity : ℕ) (e : Entry U) (p : Parts U N) → CanEnter means jmax h capacity e p → new ≡ h ++ e ∷ [] → Enters means jmax h new e
enters means jmax h new capacity e p c grown = record { place = c.place; answered = c.answered; grown = grown }

-- Nothing settles

pub quiet_fires : {N : Type 0} (h : List (Entry Meaning)) (armed left : List (Option (Unheard N))) (fires : List (Notice N)) → AreFires h armed left fires → ((k : ℕ) → SettlesNow h k → ⊥) → (fires ≡ []) × (left ≡ armed)
quiet_fires {N} h armed left fires f none = (f.told ∙ ap (flat_map (notice_of (state h) armed)) empty, list_same left armed (λ k. f.others k ∙ (ap (λ ns. option_map (λ (o : Option (Unheard N)). if is_one_of k ns then None else o) (slice_get armed k)) empty ∙ sym (unmapped (slice_get armed k)))))
  where
    no_number : (ns : List ℕ) → f.numbers ≡ ns → ns ≡ []
    no_number [] e = refl
    no_number (n ∷ ns) e = absurd (none n ((f.settle n).0 (ap (is_one_of n) e ∙ ap (λ b. b || is_one_of n ns) (eq-eqb n n refl))))

    empty : f.numbers ≡ []
    empty = no_number f.numbers refl

-- an entry that stirs no instance
pub quiet_entry : {U N : Type 0} (means : U → Meaning) (jmax : ℕ) (h : List (Entry U)) (capacity : ℕ) (e : Entry U) (p : Parts U N) {new : List (Entry U)} (left : List (Option (Unheard N))) (fires : List (Notice N)) → CanEnter means jmax h capacity e p → stirs (change_of (state_of means h) e.seat.0 (plain_event means e.event) e.reply) ≡ false →
    new ≡ h ++ e ∷ [] → AreFires (plain_history means new) p.book.armed left fires → (fires ≡ []) × (left ≡ p.book.armed)
quiet_entry means jmax h capacity e p left fires c quiet grown f = quiet_fires (plain_history means h ++ plain_entry means e ∷ []) p.book.armed left fires (subst (λ past. AreFires past p.book.armed left fires) (ap (plain_history means) grown ∙ plain_push means h e) f)
    (quiet_settles_none jmax (plain_history means h) (plain_entry means e) (subst (Rattle.session_model.specs.History.IsLegal jmax) (plain_push means h e) (entering means jmax h capacity e p c).legal) quiet)

-- An event of a session

-- its entry
abbrev pub entry : {U : Type 0} → SeatNo → Event U → Reply → Entry U
entry s e r = record { seat = s; event = e; reply = r }

pub can_step : {U N : Type 0} (means : U → Meaning) (jmax n : ℕ) (old new : Live U N) (s : SeatNo) (e : Event U) (r : Reply) → Rests means jmax old → new ≡ record old { parts = new.parts } → places (state_of means old.journal.items) s.0 (plain_event means e) ≡ n → lacks_places means jmax old.journal.items n ≡ false →
    IsStep means (state_of means old.journal.items) s.0 (plain_event means e) r old.parts new.parts → CanEnter means jmax new.journal.items (vec_capacity new.journal) (entry s e r) new.parts
can_step {U} {N} means jmax n old new s e r rest same count place step = subst (λ j. CanEnter means jmax j.items (vec_capacity j) (entry s e r) new.parts) (sym (ap (λ (l : Live U N). l.journal) same))
    (can_enter means jmax old (entry s e r) new.parts rest (free means jmax old.journal.items s.0 e n count place) step)

pub did_step : {U N : Type 0} (means : U → Meaning) (jmax n : ℕ) (old new : Live U N) (view final : List (Entry U)) (s : SeatNo) (e : Event U) (r told : Reply) → view ≡ old.journal.items → Rests means jmax old → new ≡ record old { parts = new.parts } → places (state_of means old.journal.items) s.0 (plain_event means e) ≡ n → lacks_places means jmax old.journal.items n ≡ false →
    IsStep means (state_of means old.journal.items) s.0 (plain_event means e) r old.parts new.parts → final ≡ new.journal.items ++ entry s e r ∷ [] → told ≡ r → Enters means jmax view final (entry s e told)
did_step {U} {N} means jmax n old new view final s e r told seen rest same count place step grown heard = subst (λ w. Enters means jmax view final (entry s e w)) (sym heard)
    (subst (λ h. Enters means jmax h final (entry s e r)) (sym seen) (enters means jmax old.journal.items final (vec_capacity old.journal) (entry s e r) new.parts (can_enter means jmax old (entry s e r) new.parts rest (free means jmax old.journal.items s.0 e n count place) step)
    (grown ∙ ap (λ (l : Live U N). l.journal.items ++ entry s e r ∷ []) same)))

-- a refusal that leaves the session as it was
pub quiet_telling : {U N : Type 0} (means : U → Meaning) (m : Plain) (s : ℕ) (e : Event Meaning) (r : Reply) (old new : Parts U N) → IsQuietStep means m s e r old new → IsTellingStep means m s e r old new
quiet_telling means m s e r old new q = record { step = q.step; book = q.book }
