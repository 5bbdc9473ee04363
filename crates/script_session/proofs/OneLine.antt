-- What a seat's calls make of a line.
use Rattle.std.proofs.Common.{◌≡◌, ◌⊎◌, inl, inr, ℕ, ◌+◌, ◌-◌, nat_lt, true, false, List, [], ◌∷◌, ◌++◌, length, take, append-nil, refl, sym, ap, subst, ◌∙◌, Option, Some, None, Result, Ok, Err}
use Rattle.std.proofs.lemmas.Bool.{both_ways}
use Rattle.std.proofs.lemmas.List.{map-append}
use Rattle.std.proofs.lemmas.List.Elements.{All-cons, All-nil}
use Rattle.orc_ids.specs.declared.ids.DylibId.{DylibId}
use Rattle.orc_ids.specs.declared.ids.NameId.{NameId}
use Rattle.orc_ids.specs.declared.ids.TrackId.{TrackId}
use Rattle.orc_ids.specs.declared.lookup.Level.{Level}
use Rattle.orc_ids.specs.declared.lookup.Outcome.{Outcome}
use Rattle.orc_ids.specs.declared.lookup.Stop.{Stop}
use Rattle.orc_ids.specs.declared.lookup.Stop.TheVariants as stop
use Rattle.orc_ids.specs.declared.lookup.Wanted.{Wanted}
use Rattle.code_memory.specs.Mapped.{byte_at}
use Rattle.code_memory.specs.declared.image.Segment.{Segment}
use Rattle.exec_run.specs.Run.{RunsTo}
use Rattle.exec_run.specs.declared.ran.RunEnd.{RunEnd}
use Rattle.session_model.specs.Calls.{Asks, Lookup, Looks, lookup_event}
use Rattle.session_model.specs.History.{places}
use Rattle.session_model.specs.Meaning.{Bindings, Meaning}
use Rattle.session_model.specs.Plain.{kept}
use Rattle.session_model.specs.State.{plain_entry, plain_event, plain_history, state}
use Rattle.session_model.specs.declared.entry.Entry.{Entry}
use Rattle.session_model.specs.declared.entry.Event.{Event}
use Rattle.session_model.specs.declared.entry.Event.TheVariants as event
use Rattle.session_model.specs.declared.entry.Reply.{Reply}
use Rattle.session_model.specs.declared.entry.Reply.TheVariants as reply
use Rattle.session_steps.specs.Handed.{IsMemory}
use Rattle.session_steps.specs.Performs.{Performs, PerformsWith, state_of}
use Rattle.notifiers.specs.Notices.{AreHeard, Told}
use Rattle.notifiers.specs.declared.notice.Notice.{Notice}
use Rattle.notifiers.specs.declared.notice.Unheard.{Unheard}
use Rattle.history_laws.specs.Laws.{may_settle}
use Rattle.history_laws.specs.Notes.{AreTold}
use Rattle.history_laws.proofs.Unlodged.{unstirred}
use Rattle.shared_session.specs.Does.{Tells, seat}
use Rattle.turn_lock.specs.declared.view.View.{View}
use Rattle.shared_session.specs.Did.{Did, Nothing, Promise}
use Rattle.shared_session.proofs.Doing.{less_is_done, nothing_is_done}
use Rattle.session_model.specs.Stopped.{IsCutShort}
use Rattle.session_model.proofs.Stopping.{cut_by}
use Rattle.link_worker.specs.Does.{Call, Does, Nobody, PlacesLowest, ToldAt}
use Rattle.link_worker.specs.Jobs.{IsCause, SpareAll}
use Rattle.session_model.specs.Ends.{EndsAs}
use Rattle.link_worker.specs.Looks.{HasLooked, left_of}
use Rattle.link_worker.specs.Works.{IsFree, WasStopped}
use Rattle.session_model.specs.declared.look_end.LookEnd.{LookEnd}
use Rattle.session_model.specs.declared.look_end.LookEnd.TheVariants as look
use Rattle.link_worker.proofs.Collecting.{one_lacks}
use Rattle.link_worker.proofs.Freeing.{free_stays}
use Rattle.link_worker.proofs.Stepping.{no_notices}
use Rattle.link_worker.proofs.Telling.{does_less, does_none, does_one, is_placing, places_nothing, told_by, told_none, IsCalledLowest}
use Rattle.link_worker.proofs.Turning.{TurnOf, legal_after, no_call, one_call, seen_is}
use Rattle.link_worker.proofs.Working.{stopped_now}
use Rattle.link_worker.specs.Copies.{CopiesAt, IsStoppedAt, OneCopy}
use Rattle.script_model.specs.Given.{Given, address_of, given_names, match_of}
use Rattle.script_model.proofs.Callers.{same_after}
use Rattle.script_model.specs.Asking.{Line, LookUp, One, Run}
use Rattle.script_model.specs.Lines.{CallsOf, CopiesAndRuns, given_by}
use Rattle.script_model.specs.declared.line_end.LineEnd.{LineEnd}
use Rattle.script_model.specs.declared.line_end.LineEnd.TheVariants.{Looked, Ran, Replied, Stopped, Unfound}
use Rattle.script_session.specs.Clients.{Begins, HasDone, Makes}
use Rattle.script_session.specs.Lines.{AreSame, line_end, lookup_end}

-- some call of an event
abbrev some_entry : Event Meaning → Reply → Entry Meaning
some_entry e r = record { seat = seat 0; event = e; reply = r }

-- before its first call, each line that has one has made the beginning of its calls
none_begins_one : (h : List (Entry Meaning)) (given : Given) (e : Event Meaning) → IsCutShort (CallsOf h given (One e)) []
none_begins_one h given e = record { rest = (0, some_entry e reply.Set) ∷ []; would = (reply.Set, (0, some_entry e reply.Set, refl, refl, refl)); more = λ e. cc }

none_begins_lookup : (h : List (Entry Meaning)) (given : Given) (l : Lookup) → IsCutShort (CallsOf h given (LookUp l)) []
none_begins_lookup h given l = record { rest = (0, some_entry (lookup_event l) (reply.Missing (record { 0 = 0 }))) ∷ []; would = Asks 0 (some_entry (lookup_event l) (reply.Missing (record { 0 = 0 }))) [] refl refl; more = λ e. cc }

none_begins_run : (h : List (Entry Meaning)) (given : Given) (name : NameId) (fuel : ℕ) (args : List ℕ) (address : ℕ) → address_of name given ≡ Some address → IsCutShort (CallsOf h given (Run name fuel args)) []
none_begins_run h given name fuel args address is = record { rest = (0, some_entry event.Image reply.Image) ∷ []; would = (address, is, refl); more = λ e. cc }

module _ {U N : Type 0} (means : U → Meaning) (heard : N → Option Outcome) (jmax : ℕ) (v w : View (Entry U)) (given : Given) where
  -- a call that was answered, or stopped
  abbrev pub Performed : Event U → Result Reply Stop → Type 0
  Performed e answer = TurnOf means jmax v w (λ old new. Performs means jmax old new (seat v.number) e answer)

  -- the entry of a call
  abbrev entry_of : Event U → Reply → Entry U
  entry_of e r = record { seat = seat v.number; event = e; reply = r }

  -- nothing was called, and nobody told
  stopped_first : (line : Line) (st : Stop) (told : List (Notice N)) → ((h : List (Entry Meaning)) → IsCutShort (CallsOf h given line) []) → Did means v w Nothing → WasStopped means jmax v.seen w.seen st → HasDone means heard jmax given line (Stopped st) v w told told
  stopped_first line st told begins none was = (does_none means heard v w told (Begins st given line) (λ h. cut_by (CallsOf h given line) [] st (begins h)) none, was)

  -- a call that was stopped made no entry
  stopped_call : (e : Event U) (st : Stop) → ((old : List (Entry U)) → places (state_of means old) v.number (plain_event means e) ≡ 1) → Performed e (Err st) → Did means v w Nothing × WasStopped means jmax v.seen w.seen st
  stopped_call e stop.NoMemory needs t = let none = no_call means jmax v w _ t t.did in (none, stopped_now means jmax v.seen w.seen stop.NoMemory none.later tt)
  stopped_call e (stop.JournalFull len) needs t =
      let none = no_call means jmax v w _ t t.did.0 in
      let lawful = t.passed.shows.legal in
      let full : nat_lt jmax ((state_of means t.old).entries + kept (state_of means t.old) + 1) ≡ true = subst (λ n. nat_lt jmax ((state_of means t.old).entries + kept (state_of means t.old) + n) ≡ true) (needs t.old) t.did.1.full in (
        none,
        stopped_now means jmax v.seen w.seen (stop.JournalFull len) none.later
            (subst (λ l. IsCause means jmax l (stop.JournalFull len)) (sym (seen_is means jmax v w _ t ∙ t.did.0)) (t.did.1.length, one_lacks jmax (plain_history means t.old) v.number (plain_event means e) lawful.legal lawful.places full)),
      )

  -- one that was answered, at which these were told
  answered : (e : Event U) (r : Reply) (old new told : List (Notice N)) → is_placing (plain_event means e) ≡ false → (t : Performed e (Ok r)) → new ≡ old ++ told → AreHeard heard told → AreTold (plain_history means t.old ++ plain_entry means (entry_of e r) ∷ []) told →
      HasDone means heard jmax given (One (plain_event means e)) (Replied r) v w old new
  answered e r old new told still t added heard_it at_it =
      does_one means heard v w (plain_history means t.old) (plain_entry means (entry_of e r)) old new told added heard_it at_it (places_nothing (state (plain_history means t.old)) (plain_event means e) r still)
      (Makes given (One (plain_event means e)) (Replied r)) (λ h cs s. (length (plain_history means t.old) + 1, plain_entry means (entry_of e r), s.0, refl, refl))
      (one_call means jmax v w _ t (entry_of e r) refl t.did.grown)

  -- a line of one call that settles no query
  pub one_line : (e : Event U) (answer : Result Reply Stop) (told : List (Notice N)) → is_placing (plain_event means e) ≡ false → may_settle (plain_event means e) ≡ false → ((old : List (Entry U)) → places (state_of means old) v.number (plain_event means e) ≡ 1) → Performed e answer →
      HasDone means heard jmax given (One (plain_event means e)) (line_end answer) v w told told
  one_line e (Ok r) told still quiet needs t = answered e r told told [] still t (sym (append-nil told)) (All-nil (λ n. heard n.what ≡ Some n.outcome))
      (told_none jmax (plain_history means t.old) (plain_entry means (entry_of e r)) (legal_after means jmax v w _ t (entry_of e r) t.did.grown) (unstirred (state (plain_history means t.old)) v.number (plain_event means e) r quiet))
  one_line e (Err st) told still quiet needs t =
      let s = stopped_call e st needs t in
      stopped_first (One (plain_event means e)) st told (λ h. none_begins_one h given (plain_event means e)) s.0 s.1

  -- one of a call that has told the notes of those that it settled
  pub telling_line : (e : Event U) (answer : Result Reply Stop) (fires old new : List (Notice N)) → is_placing (plain_event means e) ≡ false → ((h : List (Entry U)) → places (state_of means h) v.number (plain_event means e) ≡ 1) →
      TurnOf means jmax v w (λ before after. Tells means jmax v.number before after e answer fires) → Told heard fires old new → HasDone means heard jmax given (One (plain_event means e)) (line_end answer) v w old new
  telling_line e (Ok r) fires old new still needs t told =
      let turn : Performed e (Ok r) = record { old = t.old; new = t.new; passed = t.passed; did = t.did.performs } in
      answered e r old new told.told still turn told.added told.heard_it
      (told_by heard (plain_history means t.old ++ plain_entry means (entry_of e r) ∷ []) fires old new
      (subst (λ h. AreTold h fires) (ap (plain_history means) t.did.performs.grown ∙ map-append (plain_entry means) t.old (entry_of e r ∷ [])) t.did.tells) told)
  telling_line e (Err st) fires old new still needs t told =
      let turn : Performed e (Err st) = record { old = t.old; new = t.new; passed = t.passed; did = t.did.performs } in
      let s = stopped_call e st needs turn in
      subst (λ l. HasDone means heard jmax given (One (plain_event means e)) (Stopped st) v w old l) (sym (no_notices heard fires old new t.did.tells told)) (stopped_first (One (plain_event means e)) st old (λ h. none_begins_one h given (plain_event means e)) s.0 s.1)

  -- a run that began at an address
  module _ (name : NameId) (fuel : ℕ) (args : List ℕ) (address : ℕ) (is : address_of name given ≡ Some address) (told : List (Notice N)) where
    -- what a copy makes, at which nobody is told
    copy_does : (memory : List Segment) (P : Promise) → ((h : List (Entry Meaning)) (n : ℕ) (c : Entry Meaning) → c.event ≡ event.Image → IsMemory (state (take n h)) memory → P h ((n, c) ∷ [])) → CopiesAt means v w memory → Does means heard v w told told P
    copy_does memory P each copied = record {
      told = [];
      added = sym (append-nil told);
      heard_it = All-nil (λ n. heard n.what ≡ Some n.outcome);
      did = less_is_done means v w (OneCopy memory) (λ h cs. P h cs × ToldAt {N = N} h cs [] × PlacesLowest h cs)
          (λ h cs k. subst (λ l. P h l × ToldAt {N = N} h l [] × PlacesLowest h l) (sym k.2) (
            each h k.0 k.1 k.3 k.4,
            Call k.0 k.1 [] [] [] (record { numbers = []; rising = tt; settle = λ q. (λ one. absurd (both_ways false refl one), λ now. absurd (k.5 q now)); told = refl }) Nobody,
            All-cons (IsCalledLowest h) (k.0, k.1) [] (places_nothing (state (take (k.0 - 1) h)) k.1.event k.1.reply (subst (λ f. is_placing f ≡ false) (sym k.3) refl)) (All-nil (IsCalledLowest h)),
          ))
          copied;
    }

    pub ran : (memory : List Segment) (end : RunEnd) (output : List ℕ) → RunsTo (byte_at memory) address args fuel end output → CopiesAt means v w memory → HasDone means heard jmax given (Run name fuel args) (Ran end output) v w told told
    ran memory end output runs copied = copy_does memory (Makes given (Run name fuel args) (Ran end output))
        (λ h n c image has. subst (λ o. CopiesAndRuns h o fuel args end output ((n, c) ∷ [])) (sym is) (image, (memory, has, runs))) copied

    -- the memory was copied, and there was none to run it in
    pub not_ran : (memory : List Segment) → CopiesAt means v w memory → HasDone means heard jmax given (Run name fuel args) (Stopped stop.NoMemory) v w told told
    not_ran memory copied = (
      copy_does memory (Begins stop.NoMemory given (Run name fuel args)) (λ h n c image has. record { rest = []; would = (address, is, image) }) copied,
      stopped_now means jmax v.seen w.seen stop.NoMemory copied.later tt,
    )

    pub not_copied : (st : Stop) → IsStoppedAt means jmax v w st → HasDone means heard jmax given (Run name fuel args) (Stopped st) v w told told
    not_copied st s = stopped_first (Run name fuel args) st told (λ h. none_begins_run h given name fuel args address is) s.0 s.1

  -- a name without an address
  pub unfound : (name : NameId) (fuel : ℕ) (args : List ℕ) (told : List (Notice N)) → address_of name given ≡ None → w ≡ v → HasDone means heard jmax given (Run name fuel args) Unfound v w told told
  unfound name fuel args told none same = subst (λ x. HasDone means heard jmax given (Run name fuel args) Unfound v x told told) (sym same)
      (does_none means heard v v told (Makes given (Run name fuel args) Unfound) (λ h. (none, refl)) (nothing_is_done means v))

  -- a lookup whose notifier couldn't be made
  pub not_armed : (l : Lookup) (told : List (Notice N)) → w ≡ v → HasDone means heard jmax given (LookUp l) (Stopped stop.NoMemory) v w told told
  not_armed l told same = subst (λ x. HasDone means heard jmax given (LookUp l) (Stopped stop.NoMemory) v x told told) (sym same)
      (does_none means heard v v told (Begins stop.NoMemory given (LookUp l)) (λ h. cut_by (CallsOf h given (LookUp l)) [] stop.NoMemory (none_begins_lookup h given l)) (nothing_is_done means v), stopped_now means jmax v.seen v.seen stop.NoMemory ([], sym (append-nil v.seen)) tt)

  -- a lookup
  module _ (old new : List (Notice N)) (l : Lookup) (then' back : Option (Unheard N)) where
    ended : (e : LookEnd) → Does means heard v w old new (λ h cs. Looks h l cs × EndsAs e cs × (back ≡ left_of then' cs) × SpareAll cs) → Does means heard v w old new (Makes given (LookUp l) (Looked e))
    ended e does = does_less means heard v w old new (λ h cs. Looks h l cs × EndsAs e cs × (back ≡ left_of then' cs) × SpareAll cs) (Makes given (LookUp l) (Looked e)) (λ h cs k. (k.0, k.1)) does

    cut : (st : Stop) → Does means heard v w old new (λ h cs. IsCutShort (Looks h l) cs × (back ≡ left_of then' cs)) → Does means heard v w old new (Begins st given (LookUp l))
    cut st does = does_less means heard v w old new (λ h cs. IsCutShort (Looks h l) cs × (back ≡ left_of then' cs)) (Begins st given (LookUp l)) (λ h cs k. cut_by (Looks h l) cs st k.0) does

    pub looked : (e : LookEnd) → HasLooked means heard jmax v w old new l then' e back → HasDone means heard jmax given (LookUp l) (lookup_end e) v w old new
    looked (look.Found matches) has = ended (look.Found matches) has
    looked (look.Failed i) has = ended (look.Failed i) has
    looked (look.InError i) has = ended (look.InError i) has
    looked (look.Missing name) has = ended (look.Missing name) has
    looked (look.NoDylib d) has = ended (look.NoDylib d) has
    looked (look.JournalFull len) has = (cut (stop.JournalFull len) has.0, has.1)
    looked look.NoMemory has = let d = cut stop.NoMemory has in (d, stopped_now means jmax v.seen w.seen stop.NoMemory d.did.later tt)

    -- one that was found, and then there was no memory for the addresses
    pub found_and_stopped : (matches : Bindings) → HasLooked means heard jmax v w old new l then' (look.Found matches) back → HasDone means heard jmax given (LookUp l) (Stopped stop.NoMemory) v w old new
    found_and_stopped matches has =
        let d = ended (look.Found matches) has in (
          does_less means heard v w old new (Makes given (LookUp l) (Looked (look.Found matches))) (Begins stop.NoMemory given (LookUp l)) (λ h cs k. record { rest = []; would = subst (Looks h l) (sym (append-nil cs)) k.0 }) d,
          stopped_now means jmax v.seen w.seen stop.NoMemory d.did.later tt,
        )

-- a definition, of which the entry has a share of the unit
module _ {U : Type 0} (means : U → Meaning) (jmax : ℕ) (v w : View (Entry U)) (d : DylibId) (t : TrackId) (unit : U) (answer : Result Reply Stop) (Back : List (Entry U) → List (Entry U) → Type 0) where
  abbrev pub Defines : Type 0
  Defines = TurnOf means jmax v w (λ old new. PerformsWith means jmax old new (seat v.number) (λ share. event.Define d t share) unit answer × Back old new)

  pub free_defined : IsFree means v → Defines → IsFree means w
  free_defined free turn = free_stays means jmax v w (event.Define d t turn.did.0.0) answer (record { old = turn.old; new = turn.new; passed = turn.passed; did = turn.did.0.2 }) refl free

pub defining_line : {U N : Type 0} (means : U → Meaning) (heard : N → Option Outcome) (jmax : ℕ) (v w : View (Entry U)) (given : Given) (d : DylibId) (t : TrackId) (unit : U) (answer : Result Reply Stop) (told : List (Notice N)) (Back : List (Entry U) → List (Entry U) → Type 0) → Defines means jmax v w d t unit answer Back →
    HasDone means heard jmax given (One (event.Define d t (means unit))) (line_end answer) v w told told
defining_line means heard jmax v w given d t unit answer told Back turn =
    subst (λ m. HasDone means heard jmax given (One (event.Define d t m)) (line_end answer) v w told told) turn.did.0.1
    (one_line means heard jmax v w given (event.Define d t turn.did.0.0) answer told refl refl (λ old. refl) (record { old = turn.old; new = turn.new; passed = turn.passed; did = turn.did.0.2 }))

-- a lookup, and whether its addresses were kept
pub kept_end : {U N : Type 0} (means : U → Meaning) (heard : N → Option Outcome) (jmax : ℕ) (v w : View (Entry U)) (given : Given) (old new : List (Notice N)) (l : Lookup) (then' back : Option (Unheard N)) (e : LookEnd) (r : LineEnd) →
    (r ≡ lookup_end e) ⊎ ((matches : Bindings) × (e ≡ look.Found matches) × (r ≡ Stopped stop.NoMemory)) → HasLooked means heard jmax v w old new l then' e back → HasDone means heard jmax given (LookUp l) r v w old new
kept_end means heard jmax v w given old new l then' back e r (inl is) has = subst (λ x. HasDone means heard jmax given (LookUp l) x v w old new) (sym is) (looked means heard jmax v w given old new l then' back e has)
kept_end means heard jmax v w given old new l then' back e r (inr (matches, found, is)) has = subst (λ x. HasDone means heard jmax given (LookUp l) x v w old new) (sym is)
    (found_and_stopped means heard jmax v w given old new l then' back matches (subst (λ x. HasLooked means heard jmax v w old new l then' x back) found has))

-- the table of names after a lookup that was found
pub kept_given : (l : Lookup) (g table new : Given) (level : Level) (wanted : List Wanted) (matches : Bindings) (e : LookEnd) (r : LineEnd) → l.level ≡ level → l.wanted ≡ wanted → e ≡ look.Found matches → r ≡ lookup_end e → AreSame table g →
    ((name : NameId) → match_of name new ≡ match_of name (given_names level wanted matches ++ table)) → AreSame new (given_by (LookUp l) r ++ g)
kept_given l g table new level wanted matches e r at is found ends same added name =
    added name ∙ (same_after name (given_names level wanted matches) table g (same name)
    ∙ ap (λ x. match_of name (x ++ g)) (ap (λ n. given_names n wanted matches) (sym at) ∙ (ap (λ w. given_names l.level w matches) (sym is) ∙ sym (ap (given_by (LookUp l)) (ends ∙ ap lookup_end found)))))
