-- What a copy of the memory comes to.
use Rattle.std.proofs.Common.{◌≡◌, ℕ, zero, suc, ◌+◌, nat_eq, true, false, ◌&&◌, List, [], ◌∷◌, ◌++◌, length, take, slice_get, refl, sym, ap, subst, ◌∙◌, Option, Some, Result, Ok, Err}
use Rattle.std.specs.Option.{option_map_or}
use Rattle.std.proofs.lemmas.Bool.{and_parts, both_ways}
use Rattle.std.proofs.lemmas.Option.{none-some}
use Rattle.orc_ids.specs.declared.lookup.Stop.{Stop}
use Rattle.orc_ids.specs.declared.lookup.Stop.TheVariants as stop
use Rattle.code_memory.specs.declared.image.Segment.{Segment}
use Rattle.session_model.specs.Change.{linked_unit, settled}
use Rattle.session_model.specs.Lists.{changed_at, first_some, or_else}
use Rattle.session_model.specs.Meaning.{Meaning}
use Rattle.session_model.specs.Memory.{memory, unit_byte}
use Rattle.session_model.specs.Plain.{Plain, UnitRow, empty, is_waiting}
use Rattle.session_model.specs.State.{plain_history, state}
use Rattle.session_model.specs.declared.entry.Entry.{Entry}
use Rattle.session_model.specs.declared.entry.Event.TheVariants as event
use Rattle.session_model.specs.declared.entry.Reply.{Reply}
use Rattle.session_model.specs.declared.entry.Reply.TheVariants as reply
use Rattle.session_model.specs.declared.rows.UnitPhase.{UnitPhase}
use Rattle.session_model.specs.declared.rows.UnitPhase.TheVariants as stage
use Rattle.session_laws.proofs.Declared.{state_from_push, settling_keeps}
use Rattle.closure_laws.specs.Quiet.{SettlesNow}
use Rattle.closure_laws.proofs.Declared.{quiet_settles_none}
use Rattle.session_steps.specs.Handed.{IsCopied, IsMemory}
use Rattle.session_steps.specs.Performs.{Performs}
use Rattle.shared_session.specs.Does.{seat}
use Rattle.turn_lock.specs.declared.view.View.{View}
use Rattle.shared_session.specs.Did.{Single}
use Rattle.shared_session.proofs.Doing.{less_is_done}
use Rattle.link_worker.specs.Jobs.{IsCause}
use Rattle.link_worker.specs.Works.{IsFree}
use Rattle.link_worker.proofs.Collecting.{one_lacks}
use Rattle.link_worker.proofs.Freeing.{free_stays}
use Rattle.link_worker.proofs.Turning.{TurnOf, legal_after, no_call, one_call, seen_is}
use Rattle.link_worker.proofs.Working.{stopped_now}
use Rattle.link_worker.specs.Copies.{CopiesAt, IsStoppedAt, OneCopy}

-- a unit that waits holds what it holds once it is linked
same_byte : (address : ℕ) (x : UnitRow) → is_waiting x.phase ≡ true → unit_byte address (linked_unit x) ≡ unit_byte address x
same_byte address x waits = by x.phase waits
  where
    by : (p : UnitPhase) → is_waiting p ≡ true → unit_byte address (linked_unit x) ≡ unit_byte address (record x { phase = p })
    by stage.Waiting w = refl
    by _ w = absurd (both_ways false refl w)

same_bytes : (address k u : ℕ) (xs : List UnitRow) → option_map_or (λ (x : UnitRow). option_map_or (nat_eq k) x.query false && is_waiting x.phase) (slice_get xs u) false ≡ true →
    first_some (unit_byte address) (changed_at u linked_unit xs) ≡ first_some (unit_byte address) xs
same_bytes address k u [] w = refl
same_bytes address k zero (x ∷ xs) w = ap (λ o. or_else o (first_some (unit_byte address) xs)) (same_byte address x (and_parts (option_map_or (nat_eq k) x.query false) (is_waiting x.phase) w).1)
same_bytes address k (suc u) (x ∷ xs) w = ap (or_else (unit_byte address x)) (same_bytes address k u xs w)

-- settling leaves the memory as it was
settled_memory : (m : Plain) (address : ℕ) → memory (settled m) address ≡ memory m address
settled_memory m address = settling_keeps (λ n. memory n address ≡ memory m address) (λ u k q n p w b e. same_bytes address k u n.units w ∙ p) 0 m.queries m refl

-- the entry of a copy
abbrev copied_entry : {U : Type 0} → ℕ → Entry U
copied_entry s = record { seat = seat s; event = event.Image; reply = reply.Image }

-- a copy leaves the memory so, too
has_memory : (before now : List (Entry Meaning)) (s : ℕ) (image : List Segment) → IsMemory (state before) image → now ≡ before ++ copied_entry s ∷ [] → IsMemory (state now) image
has_memory before now s image are is address = are address ∙ (sym (settled_memory (state before) address) ∙ sym (ap (λ m. memory m address) (ap state is ∙ state_from_push empty before (copied_entry s))))

module _ {U : Type 0} (means : U → Meaning) (jmax : ℕ) (v w : View (Entry U)) where
  -- a turn in which the memory is copied
  abbrev pub CopyOf : Result Reply Stop → Option (List Segment) → Type 0
  CopyOf answer image = TurnOf means jmax v w (λ old new. Performs means jmax old new (seat v.number) event.Image answer × IsCopied means old answer image)

  pub copied : (r : Reply) (image : List Segment) → CopyOf (Ok r) (Some image) → CopiesAt means v w image
  copied reply.Image image t = less_is_done means v w (Single (plain_history means t.old) (copied_entry v.number)) (OneCopy image)
      (λ h cs s. (
        length (plain_history means t.old) + 1,
        copied_entry v.number,
        s.0,
        refl,
        has_memory (plain_history means t.old) (take (length (plain_history means t.old) + 1) h) v.number image t.did.1 s.2,
        λ k now. quiet_settles_none jmax (plain_history means t.old) (copied_entry v.number) (legal_after means jmax v w _ t (copied_entry v.number) t.did.0.grown) refl k (subst (λ l. SettlesNow l k) s.2 now),
      ))
      (one_call means jmax v w _ t (copied_entry v.number) refl t.did.0.grown)
  copied _ image t = absurd (none-some image (sym t.did.1))

  pub copy_stopped : (st : Stop) (image : Option (List Segment)) → CopyOf (Err st) image → IsStoppedAt means jmax v w st
  copy_stopped (stop.JournalFull len) image t =
      let s = t.did.0 in
      let none = no_call means jmax v w _ t s.0 in
      let lawful = t.passed.shows.legal in (
        none,
        stopped_now means jmax v.seen w.seen (stop.JournalFull len) none.later
            (subst (λ l. IsCause means jmax l (stop.JournalFull len)) (sym (seen_is means jmax v w _ t ∙ s.0)) (s.1.length, one_lacks jmax (plain_history means t.old) v.number event.Image lawful.legal lawful.places s.1.full)),
      )
  copy_stopped stop.NoMemory image t = let none = no_call means jmax v w _ t t.did.0 in (none, stopped_now means jmax v.seen w.seen stop.NoMemory none.later tt)

  -- a seat that held no unit holds none
  pub copy_free : (answer : Result Reply Stop) (image : Option (List Segment)) → CopyOf answer image → IsFree means v → IsFree means w
  copy_free answer image t free = free_stays means jmax v w event.Image answer (record { old = t.old; new = t.new; passed = t.passed; did = t.did.0 }) refl free
