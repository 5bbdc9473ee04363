-- A pass that collects, asks or uses a generator is given no unit.
use Rattle.std.proofs.Common.{◌≡◌, ℕ, true, false, List, [], ◌∷◌, ◌++◌, refl, sym, subst, Ok, Err}
use Rattle.std.proofs.lemmas.Bool.{both_ways}
use Rattle.orc_ids.specs.declared.lookup.Stop.TheVariants as stop
use Rattle.orc_ids.specs.declared.ids.GenId.{GenId}
use Rattle.orc_ids.specs.declared.ids.QueryId.{QueryId}
use Rattle.orc_ids.specs.declared.lookup.Level.{Level}
use Rattle.orc_ids.specs.declared.lookup.OrderItem.{OrderItem}
use Rattle.orc_ids.specs.declared.lookup.Wanted.{Wanted}
use Rattle.std.specs.Prelude.{Option}
use Rattle.session_model.specs.Meaning.{Meaning}
use Rattle.session_model.specs.Plain.{Plain}
use Rattle.session_model.specs.Change.{change_of, changed, other_change}
use Rattle.session_model.specs.State.{plain_entry, plain_event, plain_history, state}
use Rattle.session_model.specs.declared.entry.Entry.{Entry}
use Rattle.session_model.specs.declared.entry.Event.{Event}
use Rattle.session_model.specs.declared.entry.Event.TheVariants as event
use Rattle.session_model.specs.declared.entry.Reply.{Reply}
use Rattle.session_model.specs.declared.entry.Reply.TheVariants as reply
use Rattle.closure_laws.proofs.Declared.{one_more}
use Rattle.history_laws.proofs.Giving.{NoTake, change_seats_none}
use Rattle.turn_lock.specs.declared.view.View.{View}
use Rattle.shared_session.specs.Does.{seat}
use Rattle.materialization.specs.Rest.{HoldsNone}
use Rattle.materialization.specs.declared.stage.Stage.TheVariants as stage
use Rattle.materialization.proofs.Leaving.{others_leave_has}
use Rattle.materialization.proofs.Seats.{after_has, none_kept}
use Rattle.link_worker.specs.Laws.{FreeStays, is_take}
use Rattle.link_worker.specs.Works.{IsFree}
use Rattle.link_worker.proofs.Turning.{TurnOf, found, legal_after, number_is, seen_plain}
use Rattle.link_worker.proofs.Working.{still_free}

pub collect_untaken : (m : Plain) (s : ℕ) (q : QueryId) (r : Reply) → NoTake s (change_of m s (event.Collect q) r)
collect_untaken m s q (reply.Defunct u) = tt
collect_untaken m s q _ = tt

pub ask_untaken : (m : Plain) (s : ℕ) (order : List OrderItem) (wanted : List Wanted) (level : Level) (asked : Option ℕ) (r : Reply) → NoTake s (change_of m s (event.Ask order wanted level asked) r)
ask_untaken m s order wanted level asked (reply.Done q) = tt
ask_untaken m s order wanted level asked (reply.Pending q) = tt
ask_untaken m s order wanted level asked (reply.Defunct u) = tt
ask_untaken m s order wanted level asked _ = tt

pub generate_untaken : (m : Plain) (s : ℕ) (g : GenId) (r : Reply) → NoTake s (change_of m s (event.Generate g) r)
generate_untaken m s g (reply.Defined v first count) = tt
generate_untaken m s g reply.TooMany = tt
generate_untaken m s g (reply.Duplicate name i) = tt
generate_untaken m s g (reply.Defunct u) = tt
generate_untaken m s g _ = tt

-- it has no unit before the entry and none after it
pub free_after : {U : Type 0} (means : U → Meaning) (jmax : ℕ) (v x : View (Entry U)) → IsFree means v → (does : List (Entry U) → List (Entry U) → Type 0) (t : TurnOf means jmax v x does) (e : Event U) (r : Reply) →
    t.new ≡ t.old ++ record { seat = seat v.number; event = e; reply = r } ∷ [] → NoTake v.number (change_of (state (plain_history means t.old)) v.number (plain_event means e) r) → IsFree means x
free_after means jmax v x free does t e r grown untaken =
    let f = found means jmax v x does t in
    let p : Entry Meaning = plain_entry means (record { seat = seat v.number; event = e; reply = r }) in
    let h = plain_history means t.old in
    let c = change_of (state h) v.number (plain_event means e) r in
    let before : HoldsNone (state h) v.number = subst (λ l. HoldsNone (state l) v.number) (sym f.grown) (others_leave_has jmax (plain_history means v.seen) (plain_history means f.more) f.legal v.number 0 f.others stage.Over free) in
    let one = one_more jmax h p (legal_after means jmax v x does t (record { seat = seat v.number; event = e; reply = r }) grown) in
    subst (λ s. HoldsNone (state (plain_history means x.seen)) s) (sym (number_is means jmax v x does t))
    (subst (λ l. HoldsNone (state l) v.number) (sym (seen_plain means jmax v x does t (record { seat = seat v.number; event = e; reply = r }) grown))
    (after_has jmax h p one 0 stage.Over (none_kept (state h) (changed c (state h)) v.number (change_seats_none (state h) v.number c untaken) before)))

other_untaken : (s : ℕ) (e : Event Meaning) (r : Reply) → NoTake s (other_change s e r)
other_untaken s e (reply.Defunct u) = tt
other_untaken s (event.Generate g) reply.TooMany = tt
other_untaken s (event.Generate g) (reply.Duplicate name i) = tt
other_untaken s e r = tt

-- only a take gives a seat a unit
pub untaken : (m : Plain) (s : ℕ) (e : Event Meaning) (r : Reply) → is_take e ≡ false → NoTake s (change_of m s e r)
untaken m s (event.Dylib name) (reply.Made d) none = tt
untaken m s (event.Tracker d) (reply.Tracker t) none = tt
untaken m s (event.SetOrder d order) reply.Set none = tt
untaken m s (event.Attach d t u) (reply.Generator g) none = tt
untaken m s (event.Define d t u) (reply.Defined v first count) none = tt
untaken m s (event.Generate g) (reply.Defined v first count) none = tt
untaken m s (event.Ask order wanted level asked) (reply.Done q) none = tt
untaken m s (event.Ask order wanted level asked) (reply.Pending q) none = tt
untaken m s event.Take r none = absurd (both_ways true none refl)
untaken m s (event.Place u shape) (reply.Placed base) none = tt
untaken m s (event.Resolve u) reply.Resolved none = tt
untaken m s (event.Link u) (reply.Done q) none = tt
untaken m s (event.Link u) (reply.Pending q) none = tt
untaken m s (event.Emit u groups) reply.Emitted none = tt
untaken m s (event.Fail u why) reply.Failed none = tt
untaken m s (event.MoveTracker t to) reply.Moved none = tt
untaken m s (event.Remove t) reply.Removed none = tt
untaken m s e r none = other_untaken s e r

pub free_stays : {U : Type 0} (means : U → Meaning) → FreeStays means
free_stays means jmax v x e (Ok r) t none free = free_after means jmax v x free _ t e r t.did.grown (untaken (state (plain_history means t.old)) v.number (plain_event means e) r none)
free_stays means jmax v x e (Err (stop.JournalFull len)) t none free = still_free means jmax v x free _ t t.did.0
free_stays means jmax v x e (Err stop.NoMemory) t none free = still_free means jmax v x free _ t t.did
