-- An ask of a lookup, and what follows it.
use Rattle.std.proofs.Common.{◌≡◌, ℕ, ◌+◌, ◌||◌, ◌&&◌, ◌==◌, Bool, true, false, not, List, [], ◌∷◌, ◌++◌, length, take, slice_get, append-nil, append_assoc, length-append, refl, sym, ap, subst, ◌∙◌, arith, Option, Some, None, Result, Ok, Err, eq-eqb, eqb-true}
use Rattle.std.specs.Bool.{if◌then◌else◌}
use Rattle.std.specs.Prelude.{option_map}
use Rattle.std.proofs.lemmas.Bool.{both_ways}
use Rattle.std.proofs.lemmas.List.{map-append}
use Rattle.std.proofs.lemmas.Option.{none-some, same_Some}
use Rattle.std.proofs.lemmas.List.Elements.{All-nil}
use Rattle.std.proofs.lemmas.List.Folds.{list_any-append}
use Rattle.orc_ids.specs.declared.ids.DylibId.{DylibId}
use Rattle.orc_ids.specs.declared.ids.GenId.{GenId}
use Rattle.orc_ids.specs.declared.ids.QueryId.{QueryId}
use Rattle.orc_ids.specs.declared.lookup.Level.{Level}
use Rattle.orc_ids.specs.declared.lookup.OrderItem.{OrderItem}
use Rattle.orc_ids.specs.declared.lookup.Outcome.{Outcome}
use Rattle.orc_ids.specs.declared.lookup.Stop.{Stop}
use Rattle.orc_ids.specs.declared.lookup.Stop.TheVariants as stop
use Rattle.orc_ids.specs.declared.lookup.Wanted.{Wanted}
use Rattle.session_model.specs.Answer.{answer_ask, answer_lookup, error_of, lodged_reply, missing_of, no_dylib, offer_of, order_dylibs, refused_lookup}
use Rattle.session_model.specs.Calls.{EndsAsk, Lookup, Looks, Works, lookup_event}
use Rattle.session_model.specs.Calls.{Asks, Again}
use Rattle.session_model.specs.Change.{matched}
use Rattle.session_model.specs.Lists.{first_some, only_if}
use Rattle.session_model.specs.Match.{match_of}
use Rattle.session_model.specs.declared.rows.Match.{Match}
use Rattle.session_model.specs.declared.rows.Match.TheVariants.{Instance, Offered}
use Rattle.session_model.specs.Meaning.{Meaning}
use Rattle.session_model.specs.Plain.{Plain, failed_at, has_dylib}
use Rattle.session_model.specs.Query.{all_at}
use Rattle.session_model.specs.State.{plain_entry, plain_event, plain_history, state}
use Rattle.session_model.specs.declared.entry.Entry.{Entry}
use Rattle.session_model.specs.declared.entry.Event.{Event}
use Rattle.session_model.specs.declared.entry.Event.TheVariants as event
use Rattle.session_model.specs.declared.entry.Reply.{Reply}
use Rattle.session_model.specs.declared.entry.Reply.TheVariants as reply
use Rattle.session_model.specs.declared.rows.Query.{Query}
use Rattle.session_laws.proofs.Declared.{pushed_last, AllReplies, replies_else, replies_first, replies_only, replies_or, chosen}
use Rattle.notifiers.specs.Notices.{Told}
use Rattle.notifiers.specs.declared.notice.Notice.{Notice}
use Rattle.notifiers.specs.declared.notice.Unheard.{Unheard}
use Rattle.history_laws.specs.Notes.{AreTold, event_note}
use Rattle.history_laws.proofs.Unlodged.{Lodges, entry_lodges, unstirred}
use Rattle.turn_lock.specs.declared.view.View.{View}
use Rattle.session_steps.specs.Fires.{is_lodged}
use Rattle.session_steps.specs.Lookups.{BacksNotifier}
use Rattle.session_steps.specs.Performs.{Performs}
use Rattle.shared_session.specs.Does.{Tells, seat}
use Rattle.shared_session.specs.Did.{Did, Nothing, Promise, Single}
use Rattle.shared_session.proofs.Doing.{nothing_is_done}
use Rattle.shared_session.proofs.Numbers.{taken_start}
use Rattle.link_worker.specs.Does.{Does}
use Rattle.link_worker.specs.Jobs.{IsCause, SpareAll}
use Rattle.session_model.specs.Ends.{EndsAs, LastIs}
use Rattle.session_model.specs.Stopped.{IsCutShort}
use Rattle.link_worker.specs.Looks.{Asking, HasAwaited, HasLooked, HasSettled, IsAsked, IsLodgedBy, end_stopped, has_lodged, is_ask, left_of, lookup_of, offered_in}
use Rattle.link_worker.specs.Works.{IsFree}
use Rattle.session_model.specs.declared.look_end.LookEnd.{LookEnd}
use Rattle.session_model.specs.declared.look_end.LookEnd.TheVariants as end
use Rattle.link_worker.proofs.Collecting.{one_lacks}
use Rattle.link_worker.proofs.Freeing.{ask_untaken, free_after, generate_untaken}
use Rattle.link_worker.proofs.Sparing.{spare_both, spare_none, spare_one}
use Rattle.link_worker.proofs.Stepping.{no_notices}
use Rattle.link_worker.proofs.Telling.{does_both, does_none, does_one, places_nothing, told_by, told_none}
use Rattle.link_worker.proofs.Turning.{TurnOf, legal_after, no_call, one_call, seen_is, seen_plain}
use Rattle.link_worker.proofs.Working.{still_free, stopped_now, stopped_since}

-- Replies to an ask

-- the reply is one to an ask, and names the next query if it lodges one
abbrev is_ask_reply : ℕ → Reply → Bool
is_ask_reply k (reply.NoDylib d) = true
is_ask_reply k (reply.Offer g) = true
is_ask_reply k (reply.InError i) = true
is_ask_reply k (reply.Missing name) = true
is_ask_reply k (reply.Done q) = q.0 == k
is_ask_reply k (reply.Pending q) = q.0 == k
is_ask_reply k _ = false

abbrev Askish : ℕ → Reply → Type 0
Askish k r = is_ask_reply k r ≡ true

offers_ask : (k : ℕ) (o : Option Match) → AllReplies (Askish k) (offer_of o)
offers_ask k None = tt
offers_ask k (Some (Offered g)) = refl
offers_ask k (Some (Instance i)) = tt

errors_ask : (k : ℕ) (m : Plain) (o : Option Match) → AllReplies (Askish k) (error_of m o)
errors_ask k m None = tt
errors_ask k m (Some (Offered g)) = tt
errors_ask k m (Some (Instance i)) = replies_only (Askish k) (failed_at m.rows i.0) (reply.InError i) refl

refusals_ask : (k : ℕ) (m : Plain) (order : List OrderItem) (wanted : List Wanted) → AllReplies (Askish k) (refused_lookup m order wanted)
refusals_ask k m order wanted = replies_else (Askish k) (first_some (λ (w : Wanted). offer_of (match_of m order w.name.0)) wanted) _
    (replies_first (Askish k) (λ (w : Wanted). offer_of (match_of m order w.name.0)) (λ w. offers_ask k (match_of m order w.name.0)) wanted)
    (replies_else (Askish k) (first_some (λ (w : Wanted). error_of m (match_of m order w.name.0)) wanted) _
    (replies_first (Askish k) (λ (w : Wanted). error_of m (match_of m order w.name.0)) (λ w. errors_ask k m (match_of m order w.name.0)) wanted)
    (replies_first (Askish k) (missing_of m order) (λ w. replies_only (Askish k) _ (reply.Missing w.name) refl) wanted))

ask_reply : (m : Plain) (order : List OrderItem) (wanted : List Wanted) (lev : Level) → is_ask_reply (length m.queries) (answer_ask m order wanted lev) ≡ true
ask_reply m order wanted lev = let k = length m.queries in replies_or (Askish k) (no_dylib m (order_dylibs order)) (answer_lookup m order wanted lev)
    (replies_first (Askish k) (λ (d : DylibId). only_if (not (has_dylib m d.0)) (reply.NoDylib d)) (λ d. replies_only (Askish k) (not (has_dylib m d.0)) (reply.NoDylib d) refl) (order_dylibs order))
    (replies_or (Askish k) (refused_lookup m order wanted) (lodged_reply m lev (matched m order wanted)) (refusals_ask k m order wanted)
    (chosen (Askish k) (all_at m.rows lev (matched m order wanted)) (reply.Done (record { 0 = k })) (reply.Pending (record { 0 = k })) (λ b. eq-eqb k k refl) (λ b. eq-eqb k k refl)))

-- Calls before a query is lodged, and after

lodged_both : (cs ds : List (ℕ × Entry Meaning)) → has_lodged (cs ++ ds) ≡ (has_lodged cs || has_lodged ds)
lodged_both cs ds = list_any-append (λ (c : ℕ × Entry Meaning). is_ask c.1.event && is_lodged c.1.reply) cs ds

or_right : (a b : Bool) → b ≡ true → (a || b) ≡ true
or_right true b e = refl
or_right false b e = e

or_none : (a b : Bool) → a ≡ false → b ≡ false → (a || b) ≡ false
or_none true b e f = absurd (both_ways true e refl)
or_none false b e f = f

last_after : (cs ds : List (ℕ × Entry Meaning)) (r : Reply) → LastIs ds r → LastIs (cs ++ ds) r
last_after cs ds r l = record { before = cs ++ l.before; number = l.number; entry = l.entry; are = ap (λ x. cs ++ x) l.are ∙ sym (append_assoc cs l.before ((l.number, l.entry) ∷ [])); reply = l.reply }

ends_after : (e : LookEnd) (cs ds : List (ℕ × Entry Meaning)) → EndsAs e ds → EndsAs e (cs ++ ds)
ends_after (end.Found matches) cs ds (at, l) = (at, last_after cs ds (reply.Found at matches) l)
ends_after (end.Failed i) cs ds (at, l) = (at, last_after cs ds (reply.Lost at i) l)
ends_after (end.InError i) cs ds l = last_after cs ds (reply.InError i) l
ends_after (end.Missing name) cs ds l = last_after cs ds (reply.Missing name) l
ends_after (end.NoDylib d) cs ds l = last_after cs ds (reply.NoDylib d) l
ends_after (end.JournalFull len) cs ds l = absurd l
ends_after end.NoMemory cs ds l = absurd l

-- an entry that would end a lookup at once
abbrev refused_entry : Lookup → Entry Meaning
refused_entry l = record { seat = record { 0 = 0 }; event = lookup_event l; reply = reply.InError (record { 0 = 0 }) }

-- a stop before the next ask
asking_stopped : (l : Lookup) (h : List (Entry Meaning)) (cs : List (ℕ × Entry Meaning)) → Asking l h cs → IsCutShort (Looks h l) cs
asking_stopped l h cs a = record { rest = (0, refused_entry l) ∷ []; would = a.rest ((0, refused_entry l) ∷ []) (Asks 0 (refused_entry l) [] refl refl); more = λ e. cc }

-- a generator was offered by the last call: its use, and a lookup, come after these calls
record WasOffered (l : Lookup) (g : GenId) (h : List (Entry Meaning)) (cs : List (ℕ × Entry Meaning)) : Type 0 where
  rest : (m : ℕ) (f : Entry Meaning) (ds : List (ℕ × Entry Meaning)) → f.event ≡ event.Generate g → Looks h l ds → Looks h l (cs ++ (m, f) ∷ ds)
  none : has_lodged cs ≡ false
  spare : SpareAll cs

abbrev used_by : GenId → Entry Meaning
used_by g = record { seat = record { 0 = 0 }; event = event.Generate g; reply = reply.Spent g }

offered_stopped : (l : Lookup) (g : GenId) (h : List (Entry Meaning)) (cs : List (ℕ × Entry Meaning)) → WasOffered l g h cs → IsCutShort (Looks h l) cs
offered_stopped l g h cs a = record { rest = (0, used_by g) ∷ (0, refused_entry l) ∷ []; would = a.rest 0 (used_by g) ((0, refused_entry l) ∷ []) refl (Asks 0 (refused_entry l) [] refl refl); more = λ e. cc }

-- a query was lodged by call n: what waits for it comes after these calls
record Lodged (l : Lookup) (q : QueryId) (n : ℕ) (h : List (Entry Meaning)) (cs : List (ℕ × Entry Meaning)) : Type 0 where
  rest : (ds : List (ℕ × Entry Meaning)) → Works h q n ds → Looks h l (cs ++ ds)
  lodged : has_lodged cs ≡ true
  spare : SpareAll cs

-- only an offer offers a generator
pub offered_is : (r : Reply) (g : GenId) → offered_in r ≡ Some g → r ≡ reply.Offer g
offered_is (reply.Offer k) g e = ap reply.Offer (same_Some k g e)
offered_is _ g e = absurd (none-some g e)

-- the turn of an ask with this notifier
abbrev pub AskTurn : {U N : Type 0} → (U → Meaning) → ℕ → List OrderItem → List Wanted → Level → View (Entry U) → View (Entry U) → Option (Unheard N) → Result Reply Stop → Option (Unheard N) → List (Notice N) → Type 0
AskTurn means jmax order wanted level x y then' answer back fires = TurnOf means jmax x y (λ old new. Tells means jmax x.number old new (event.Ask order wanted level (option_map (λ a. a.note) then')) answer fires × BacksNotifier then' answer back)

module _ {U N : Type 0} (means : U → Meaning) (hears : N → Option Outcome) (jmax : ℕ) (order : List OrderItem) (wanted : List Wanted) (level : Level) (then' : Option (Unheard N)) where
  abbrev l : Lookup
  l = lookup_of order wanted level then'

  abbrev asked_event : Event U
  asked_event = event.Ask order wanted level (option_map (λ a. a.note) then')

  -- no ask was made
  pub asks_none : (v : View (Entry U)) (a : List (Notice N)) → Does means hears v v a a (Asking l)
  asks_none v a = does_none means hears v v a (Asking l) (λ h. record { rest = λ ds looks. looks; none = refl; spare = spare_none }) (nothing_is_done means v)

  module _ (v x y : View (Entry U)) (a b c : List (Notice N)) (so : Does means hears v x a b (Asking l)) where
    abbrev pub AskOf : Result Reply Stop → Option (Unheard N) → List (Notice N) → Type 0
    AskOf answer back fires = AskTurn means jmax order wanted level x y then' answer back fires

    abbrev asked : Reply → Entry U
    asked r = record { seat = seat x.number; event = asked_event; reply = r }

    one_ask : (r : Reply) (back : Option (Unheard N)) (fires : List (Notice N)) (t : AskOf (Ok r) back fires) → Told hears fires b c → Does means hears x y b c (Single (plain_history means t.old) (plain_entry means (asked r)))
    one_ask r back fires t told = does_one means hears x y (plain_history means t.old) (plain_entry means (asked r)) b c told.told told.added told.heard_it
        (told_by hears (plain_history means t.old ++ plain_entry means (asked r) ∷ []) fires b c
        (subst (λ h. AreTold h fires) (ap (plain_history means) t.did.0.performs.grown ∙ map-append (plain_entry means) t.old (asked r ∷ [])) t.did.0.tells) told) (places_nothing (state (plain_history means t.old)) (plain_event means asked_event) r refl)
        (Single (plain_history means t.old) (plain_entry means (asked r))) (λ h cs s. s) (one_call means jmax x y _ t (asked r) refl t.did.0.performs.grown)

    pub ask_free : (r : Reply) (back : Option (Unheard N)) (fires : List (Notice N)) → IsFree means x → AskOf (Ok r) back fires → IsFree means y
    ask_free r back fires free t = free_after means jmax x y free _ t asked_event r t.did.0.performs.grown
        (ask_untaken (state (plain_history means t.old)) x.number order wanted level (option_map (λ z. z.note) then') r)

    -- the ask was stopped
    pub ask_stopped : (st : Stop) (back : Option (Unheard N)) (fires : List (Notice N)) → IsFree means x → AskOf (Err st) back fires → Told hears fires b c → HasLooked means hears jmax v y a c l then' (end_stopped st) back × IsFree means y
    ask_stopped (stop.JournalFull len) back fires free t told =
        let s = t.did.0.performs in
        let none = no_call means jmax x y _ t s.0 in
        let lawful = t.passed.shows.legal in (
          (
            cut none (no_notices hears fires b c t.did.0.tells told),
            stopped_since means jmax v.seen x.seen y.seen (stop.JournalFull len) so.did.later (stopped_now means jmax x.seen y.seen (stop.JournalFull len) none.later
                (subst (λ h. IsCause means jmax h (stop.JournalFull len)) (sym (seen_is means jmax x y _ t ∙ s.0)) (s.1.length, one_lacks jmax (plain_history means t.old) x.number (plain_event means asked_event) lawful.legal lawful.places s.1.full))),
          ),
          still_free means jmax x y free _ t s.0,
        )
      where
        cut : Did means x y Nothing → c ≡ b → Does means hears v y a c (λ h cs. IsCutShort (Looks h l) cs × (back ≡ left_of then' cs))
        cut none same = does_both means hears v x y a b c (Asking l) Nothing (λ h cs. IsCutShort (Looks h l) cs × (back ≡ left_of then' cs))
            (λ h cs ds w e. subst (λ z. IsCutShort (Looks h l) z × (back ≡ left_of then' z)) (sym (append-nil cs) ∙ ap (λ z. cs ++ z) (sym e)) (asking_stopped l h cs w, t.did.1 ∙ ap (λ k. if k then None else then') (sym w.none)))
            so (subst (λ z. Does means hears x y b z Nothing) (sym same) (does_none means hears x y b Nothing (λ h. refl) none))
    ask_stopped stop.NoMemory back fires free t told = (
      does_both means hears v x y a b c (Asking l) Nothing (λ h cs. IsCutShort (Looks h l) cs × (back ≡ left_of then' cs))
          (λ h cs ds w e. subst (λ z. IsCutShort (Looks h l) z × (back ≡ left_of then' z)) (sym (append-nil cs) ∙ ap (λ z. cs ++ z) (sym e)) (asking_stopped l h cs w, t.did.1 ∙ ap (λ k. if k then None else then') (sym w.none)))
          so (subst (λ z. Does means hears x y b z Nothing) (sym (no_notices hears fires b c t.did.0.tells told)) (does_none means hears x y b Nothing (λ h. refl) (no_call means jmax x y _ t t.did.0.performs))),
      still_free means jmax x y free _ t t.did.0.performs,
    )

    -- Using a generator that was offered

    module _ (g : GenId) (back : Option (Unheard N)) (fires : List (Notice N)) (t : AskOf (Ok (reply.Offer g)) back fires) (told : Told hears fires b c) where
      -- the notifier is still there
      pub back_is : back ≡ then'
      back_is = t.did.1

      offered : Does means hears v y a c (WasOffered l g)
      offered = does_both means hears v x y a b c (Asking l) (Single (plain_history means t.old) (plain_entry means (asked (reply.Offer g)))) (WasOffered l g)
          (λ h cs ds w s. subst (λ z. WasOffered l g h (cs ++ z)) (sym s.0) (record {
            rest = λ m f es its looks. subst (Looks h l) (sym (append_assoc cs ((length (plain_history means t.old) + 1, plain_entry means (asked (reply.Offer g))) ∷ []) ((m, f) ∷ es)))
                (w.rest ((length (plain_history means t.old) + 1, plain_entry means (asked (reply.Offer g))) ∷ (m, f) ∷ es) (Again (length (plain_history means t.old) + 1) m (plain_entry means (asked (reply.Offer g))) f g es refl refl its looks));
            none = lodged_both cs ((length (plain_history means t.old) + 1, plain_entry means (asked (reply.Offer g))) ∷ []) ∙ or_none (has_lodged cs) false w.none refl;
            spare = spare_both cs ((length (plain_history means t.old) + 1, plain_entry means (asked (reply.Offer g))) ∷ []) w.spare (spare_one (length (plain_history means t.old) + 1) (plain_entry means (asked (reply.Offer g))) refl);
          })) so (one_ask (reply.Offer g) back fires t told)

      module _ (z : View (Entry U)) where
        abbrev pub UseOf : Result Reply Stop → Type 0
        UseOf answer = TurnOf means jmax y z (λ old new. Performs means jmax old new (seat y.number) (event.Generate g) answer)

        abbrev used_entry : Reply → Entry U
        used_entry r = record { seat = seat y.number; event = event.Generate g; reply = r }

        pub used : (r : Reply) → UseOf (Ok r) → Does means hears v z a c (Asking l)
        used r u = does_both means hears v y z a c c (WasOffered l g) (Single (plain_history means u.old) (plain_entry means (used_entry r))) (Asking l)
            (λ h cs ds w s. subst (λ k. Asking l h (cs ++ k)) (sym s.0) (record {
              rest = λ es looks. subst (Looks h l) (sym (append_assoc cs ((length (plain_history means u.old) + 1, plain_entry means (used_entry r)) ∷ []) es)) (w.rest (length (plain_history means u.old) + 1) (plain_entry means (used_entry r)) es refl looks);
              none = lodged_both cs ((length (plain_history means u.old) + 1, plain_entry means (used_entry r)) ∷ []) ∙ or_none (has_lodged cs) false w.none refl;
              spare = spare_both cs ((length (plain_history means u.old) + 1, plain_entry means (used_entry r)) ∷ []) w.spare (spare_one (length (plain_history means u.old) + 1) (plain_entry means (used_entry r)) refl);
            })) offered
            (does_one means hears y z (plain_history means u.old) (plain_entry means (used_entry r)) c c [] (sym (append-nil c)) (All-nil (λ k. hears k.what ≡ Some k.outcome))
            (told_none jmax (plain_history means u.old) (plain_entry means (used_entry r)) (legal_after means jmax y z _ u (used_entry r) u.did.grown) (unstirred (state (plain_history means u.old)) y.number (event.Generate g) r refl)) (places_nothing (state (plain_history means u.old)) (event.Generate g) r refl)
            (Single (plain_history means u.old) (plain_entry means (used_entry r))) (λ h cs s. s) (one_call means jmax y z _ u (used_entry r) refl u.did.grown))

        pub used_free : (r : Reply) → IsFree means y → UseOf (Ok r) → IsFree means z
        used_free r free u = free_after means jmax y z free _ u (event.Generate g) r u.did.grown (generate_untaken (state (plain_history means u.old)) y.number g r)

        -- the use was stopped
        cut_use : Does means hears y z c c Nothing → Does means hears v z a c (λ h cs. IsCutShort (Looks h l) cs × (back ≡ left_of then' cs))
        cut_use none = does_both means hears v y z a c c (WasOffered l g) Nothing (λ h cs. IsCutShort (Looks h l) cs × (back ≡ left_of then' cs))
            (λ h cs ds w e. subst (λ k. IsCutShort (Looks h l) k × (back ≡ left_of then' k)) (sym (append-nil cs) ∙ ap (λ k. cs ++ k) (sym e)) (offered_stopped l g h cs w, back_is ∙ ap (λ k. if k then None else then') (sym w.none)))
            offered none

        pub use_stopped : (st : Stop) → IsFree means y → UseOf (Err st) → HasLooked means hears jmax v z a c l then' (end_stopped st) back × IsFree means z
        use_stopped (stop.JournalFull len) free u =
            let none = no_call means jmax y z _ u u.did.0 in
            let lawful = u.passed.shows.legal in (
              (
                cut_use (does_none means hears y z c Nothing (λ h. refl) none),
                stopped_since means jmax v.seen y.seen z.seen (stop.JournalFull len) offered.did.later (stopped_now means jmax y.seen z.seen (stop.JournalFull len) none.later
                    (subst (λ h. IsCause means jmax h (stop.JournalFull len)) (sym (seen_is means jmax y z _ u ∙ u.did.0)) (u.did.1.length, one_lacks jmax (plain_history means u.old) y.number (event.Generate g) lawful.legal lawful.places u.did.1.full))),
              ),
              still_free means jmax y z free _ u u.did.0,
            )
        use_stopped stop.NoMemory free u = (cut_use (does_none means hears y z c Nothing (λ h. refl) (no_call means jmax y z _ u u.did)), still_free means jmax y z free _ u u.did)

    -- After an ask that offered nothing

    module _ (r : Reply) (back : Option (Unheard N)) (fires : List (Notice N)) (t : AskOf (Ok r) back fires) where
      abbrev entry : Entry Meaning
      entry = plain_entry means (asked r)

      abbrev before : List (Entry Meaning)
      before = plain_history means t.old

      abbrev number : ℕ
      number = length before + 1

      is_asked_reply : is_ask_reply (length (state before).queries) r ≡ true
      is_asked_reply = ap (is_ask_reply (length (state before).queries)) t.did.0.performs.answered.2 ∙ ask_reply (state before) order wanted level

      -- a query was lodged by this call
      lodged_by : (q : QueryId) → is_lodged r ≡ true → (q.0 == length (state before).queries) ≡ true → IsLodgedBy means y q number
      lodged_by q lodged is = record { within = omega (arith, ap length whole, length-append before (entry ∷ [])); query = new.0; there = subst (λ h. slice_get (state h).queries q.0 ≡ Some new.0) (sym taken) there }
        where
          whole : plain_history means y.seen ≡ before ++ entry ∷ []
          whole = seen_plain means jmax x y _ t (asked r) t.did.0.performs.grown

          taken : take number (plain_history means y.seen) ≡ before ++ entry ∷ []
          taken = ap (take number) whole ∙ (ap (λ k. take k (before ++ entry ∷ [])) (sym (length-append before (entry ∷ []))) ∙ taken_start (before ++ entry ∷ []) (before ++ entry ∷ []) ([], sym (append-nil (before ++ entry ∷ []))))

          new : (q0 : Query) × (slice_get (state (before ++ entry ∷ [])).queries (length (state before).queries) ≡ Some q0)
          new = by (is_lodged r) lodged (entry_lodges jmax before entry t.did.0.performs.answered)
            where
              by : (b : Bool) → b ≡ true → Lodges (only_if b (event_note entry.event)) (state before) (state (before ++ entry ∷ [])).queries → (q0 : Query) × (slice_get (state (before ++ entry ∷ [])).queries (length (state before).queries) ≡ Some q0)
              by true e k = (k.0, ap (λ qs. slice_get qs (length (state before).queries)) k.1 ∙ pushed_last (state before).queries k.0)
              by false e k = absurd (both_ways false refl e)

          there : slice_get (state (before ++ entry ∷ [])).queries q.0 ≡ Some new.0
          there = ap (slice_get (state (before ++ entry ∷ [])).queries) (eqb-true q.0 (length (state before).queries) is) ∙ new.1

    pub is_asked : (r : Reply) (back : Option (Unheard N)) (fires : List (Notice N)) → offered_in r ≡ None → AskOf (Ok r) back fires → IsAsked means y r
    is_asked (reply.Done q) back fires none t = (number (reply.Done q) back fires t, lodged_by (reply.Done q) back fires t q refl (is_asked_reply (reply.Done q) back fires t))
    is_asked (reply.Pending q) back fires none t = (number (reply.Pending q) back fires t, lodged_by (reply.Pending q) back fires t q refl (is_asked_reply (reply.Pending q) back fires t))
    is_asked (reply.InError i) back fires none t = tt
    is_asked (reply.Missing name) back fires none t = tt
    is_asked (reply.NoDylib d) back fires none t = tt
    is_asked (reply.Offer g) back fires none t = absurd (none-some g (sym none))
    is_asked r back fires none t = absurd (both_ways false refl (is_asked_reply r back fires t))

    -- the calls up to the ask that lodged a query
    lodges : (r : Reply) (back : Option (Unheard N)) (fires : List (Notice N)) (t : AskOf (Ok r) back fires) → Told hears fires b c → is_lodged r ≡ true → (q : QueryId) → ((h : List (Entry Meaning)) (ds : List (ℕ × Entry Meaning)) → Works h q (number r back fires t) ds → EndsAsk h (number r back fires t) r ds) →
        Does means hears v y a c (Lodged l q (number r back fires t))
    lodges r back fires t told lodged q ends = does_both means hears v x y a b c (Asking l) (Single (before r back fires t) (entry r back fires t)) (Lodged l q (number r back fires t))
        (λ h cs ds w s. subst (λ k. Lodged l q (number r back fires t) h (cs ++ k)) (sym s.0) (record {
          rest = λ es works. subst (Looks h l) (sym (append_assoc cs ((number r back fires t, entry r back fires t) ∷ []) es)) (w.rest ((number r back fires t, entry r back fires t) ∷ es) (Asks (number r back fires t) (entry r back fires t) es refl (ends h es works)));
          lodged = lodged_both cs ((number r back fires t, entry r back fires t) ∷ []) ∙ or_right (has_lodged cs) (has_lodged ((number r back fires t, entry r back fires t) ∷ [])) (ap (λ k. k || false) lodged);
          spare = spare_both cs ((number r back fires t, entry r back fires t) ∷ []) w.spare (spare_one (number r back fires t) (entry r back fires t) refl);
        })) so (one_ask r back fires t told)

    module _ (z : View (Entry U)) (d : List (Notice N)) (back : Option (Unheard N)) (gone : back ≡ None) (q : QueryId) (n : ℕ) (first : Does means hears v y a c (Lodged l q n)) where
      left_none : (cs ds : List (ℕ × Entry Meaning)) → has_lodged cs ≡ true → back ≡ left_of then' (cs ++ ds)
      left_none cs ds e = gone ∙ ap (λ k. if k then None else then') (sym (lodged_both cs ds ∙ ap (λ k. k || has_lodged ds) e))

      cut_wait : Does means hears y z c d (λ h cs. IsCutShort (Works h q n) cs) → Does means hears v z a d (λ h cs. IsCutShort (Looks h l) cs × (back ≡ left_of then' cs))
      cut_wait s = does_both means hears v y z a c d (Lodged l q n) (λ h cs. IsCutShort (Works h q n) cs) (λ h cs. IsCutShort (Looks h l) cs × (back ≡ left_of then' cs))
          (λ h cs ds w k. (record { rest = k.rest; would = subst (Looks h l) (sym (append_assoc cs ds k.rest)) (w.rest (ds ++ k.rest) k.would); more = k.more }, left_none cs ds w.lodged)) first s

      end_wait : (e : LookEnd) → Does means hears y z c d (λ h cs. Works h q n cs × EndsAs e cs × SpareAll cs) → Does means hears v z a d (λ h cs. Looks h l cs × EndsAs e cs × (back ≡ left_of then' cs) × SpareAll cs)
      end_wait e s = does_both means hears v y z a c d (Lodged l q n) (λ h cs. Works h q n cs × EndsAs e cs × SpareAll cs) (λ h cs. Looks h l cs × EndsAs e cs × (back ≡ left_of then' cs) × SpareAll cs)
          (λ h cs ds w k. (w.rest ds k.0, ends_after e cs ds k.1, left_none cs ds w.lodged, spare_both cs ds w.spare k.2)) first s

      waited : (e : LookEnd) → HasAwaited means hears jmax y z c d q n e → HasLooked means hears jmax v z a d l then' e back
      waited (end.JournalFull len) k = (cut_wait k.0, stopped_since means jmax v.seen y.seen z.seen (stop.JournalFull len) first.did.later k.1)
      waited end.NoMemory k = cut_wait k
      waited (end.Found matches) k = end_wait (end.Found matches) k
      waited (end.Failed i) k = end_wait (end.Failed i) k
      waited (end.InError i) k = end_wait (end.InError i) k
      waited (end.Missing name) k = end_wait (end.Missing name) k
      waited (end.NoDylib name) k = end_wait (end.NoDylib name) k

    -- the ask was refused
    refused : (r : Reply) (e : LookEnd) (back : Option (Unheard N)) (fires : List (Notice N)) (t : AskOf (Ok r) back fires) → Told hears fires b c → is_lodged r ≡ false → ((h : List (Entry Meaning)) → EndsAsk h (number r back fires t) r []) → ((cs : List (ℕ × Entry Meaning)) → LastIs cs r → EndsAs e cs) →
        Does means hears v y a c (λ h cs. Looks h l cs × EndsAs e cs × (back ≡ left_of then' cs) × SpareAll cs)
    refused r e back fires t told lodged ends last = does_both means hears v x y a b c (Asking l) (Single (before r back fires t) (entry r back fires t)) (λ h cs. Looks h l cs × EndsAs e cs × (back ≡ left_of then' cs) × SpareAll cs)
        (λ h cs ds w s. subst (λ k. Looks h l (cs ++ k) × EndsAs e (cs ++ k) × (back ≡ left_of then' (cs ++ k)) × SpareAll (cs ++ k)) (sym s.0) (
          w.rest ((number r back fires t, entry r back fires t) ∷ []) (Asks (number r back fires t) (entry r back fires t) [] refl (ends h)),
          last (cs ++ (number r back fires t, entry r back fires t) ∷ []) (record { before = cs; number = number r back fires t; entry = entry r back fires t; are = refl; reply = refl }),
          t.did.1 ∙ (ap (λ k. if k then None else then') lodged ∙ ap (λ k. if k then None else then') (sym (lodged_both cs ((number r back fires t, entry r back fires t) ∷ []) ∙ or_none (has_lodged cs) (has_lodged ((number r back fires t, entry r back fires t) ∷ [])) w.none (ap (λ k. k || false) lodged)))),
          spare_both cs ((number r back fires t, entry r back fires t) ∷ []) w.spare (spare_one (number r back fires t) (entry r back fires t) refl),
        )) so (one_ask r back fires t told)

    -- nothing was done since
    same_now : (z : View (Entry U)) (d : List (Notice N)) (P : Promise) → z ≡ y → d ≡ c → Does means hears v y a c P → Does means hears v z a d P
    same_now z d P e f does = subst (λ k. Does means hears v k a d P) (sym e) (subst (λ k. Does means hears v y a k P) (sym f) does)

    pub settled : (r : Reply) (z : View (Entry U)) (d : List (Notice N)) (e : LookEnd) (back : Option (Unheard N)) (fires : List (Notice N)) → offered_in r ≡ None → AskOf (Ok r) back fires → Told hears fires b c → HasSettled means hears jmax y z c d r e → HasLooked means hears jmax v z a d l then' e back
    settled (reply.Done q) z d e back fires none t told k = waited z d back t.did.1 q (number (reply.Done q) back fires t) (lodges (reply.Done q) back fires t told refl q (λ h ds works. works)) e
        (k (number (reply.Done q) back fires t) (lodged_by (reply.Done q) back fires t q refl (is_asked_reply (reply.Done q) back fires t)))
    settled (reply.Pending q) z d e back fires none t told k = waited z d back t.did.1 q (number (reply.Pending q) back fires t) (lodges (reply.Pending q) back fires t told refl q (λ h ds works. works)) e
        (k (number (reply.Pending q) back fires t) (lodged_by (reply.Pending q) back fires t q refl (is_asked_reply (reply.Pending q) back fires t)))
    settled (reply.InError i) z d e back fires none t told k = subst (λ w. HasLooked means hears jmax v z a d l then' w back) (sym k.0) (same_now z d _ k.1 k.2 (refused (reply.InError i) (end.InError i) back fires t told refl (λ h. refl) (λ cs last. last)))
    settled (reply.Missing name) z d e back fires none t told k = subst (λ w. HasLooked means hears jmax v z a d l then' w back) (sym k.0) (same_now z d _ k.1 k.2 (refused (reply.Missing name) (end.Missing name) back fires t told refl (λ h. refl) (λ cs last. last)))
    settled (reply.NoDylib i) z d e back fires none t told k = subst (λ w. HasLooked means hears jmax v z a d l then' w back) (sym k.0) (same_now z d _ k.1 k.2 (refused (reply.NoDylib i) (end.NoDylib i) back fires t told refl (λ h. refl) (λ cs last. last)))
    settled _ z d e back fires none t told k = absurd k
