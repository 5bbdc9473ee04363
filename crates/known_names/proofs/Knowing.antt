-- Each name of a legal history is known, by induction along it.
use Rattle.std.proofs.Common.{◌≡◌, ℕ, Bool, true, not, ◌&&◌, List, [], ◌∷◌, ◌++◌, All, subst, ap}
use Rattle.std.proofs.lemmas.List.Elements.{All-append, All-cons, All-head, All-nil, All-tail}
use Rattle.orc_ids.specs.declared.ids.UnitId.{UnitId}
use Rattle.session_model.specs.Lists.{only_if}
use Rattle.session_model.specs.Answer.{Answers, AnswersCall, HasCause, called, is_link_of, is_turned_away, last_reply}
use Rattle.session_model.specs.History.{LegalFrom}
use Rattle.session_model.specs.Meaning.{Meaning}
use Rattle.session_model.specs.Plain.{Plain, UnitRow, empty}
use Rattle.session_model.specs.State.{after}
use Rattle.session_model.specs.declared.entry.Entry.{Entry}
use Rattle.session_model.specs.declared.entry.Event.{Event}
use Rattle.session_model.specs.declared.entry.Event.TheVariants as event
use Rattle.session_model.specs.declared.entry.Reply.{Reply}
use Rattle.session_model.specs.declared.entry.Reply.TheVariants as reply
use Rattle.session_model.specs.declared.entry.Why.{Why}
use Rattle.session_model.specs.declared.entry.Why.TheVariants as why
use Rattle.session_laws.proofs.Declared.{call_cases, AllReplies, replies_only, replies_else}
use Rattle.journal_text.specs.Events.{KnownEvent, KnownWhy}
use Rattle.journal_text.specs.Journal.{KnownEntry, AreKnown}
use Rattle.journal_text.specs.Replies.{KnownReply}
use Rattle.known_names.specs.Laws.{HandsInKnown, GivesKnown, NamesAreKnown}
use Rattle.known_names.proofs.KnownReplies.{answer_known}
use Rattle.known_names.proofs.KnownUnits.{IsKnown, after_known, empty_known}

-- a reply of an earlier entry has known names
last_known : (names : List (List ℕ)) (test : Event Meaning → Bool) (past : List (Entry Meaning)) → AreKnown names past → AllReplies (KnownReply names) (last_reply test past)
last_known names test [] known = tt
last_known names test (e ∷ es) known = replies_else (KnownReply names) (last_reply test es) (only_if (test e.event && not (is_turned_away e.reply)) e.reply)
    (last_known names test es (All-tail (KnownEntry names) e es known))
    (replies_only (KnownReply names) (test e.event && not (is_turned_away e.reply)) e.reply (All-head (KnownEntry names) e es known).1)

-- a name that a unit misses is one that its last link missed
cause_known : (names : List (List ℕ)) (jmax : ℕ) (past : List (Entry Meaning)) (m : Plain) (u : ℕ) (x : UnitRow) (cause : Why) → AreKnown names past → HasCause jmax past m u x cause → KnownWhy names cause
cause_known names jmax past m u x (why.Missing name) known c = subst (AllReplies (KnownReply names)) c (last_known names (is_link_of u) past known)
cause_known names jmax past m u x _ known c = tt

fail_known : (names : List (List ℕ)) (jmax : ℕ) (past : List (Entry Meaning)) (m : Plain) (s : ℕ) (u : UnitId) (cause : Why) (r : Reply) → AreKnown names past → (is_turned_away r ≡ true → KnownWhy names cause) →
    AnswersCall (called m s u (λ x. true)) u (λ x. HasCause jmax past m u.0 x cause × (r ≡ reply.Failed)) r → KnownWhy names cause
fail_known names jmax past m s u cause r known turned a = call_cases m s u (λ x. true) (λ x. HasCause jmax past m u.0 x cause × (r ≡ reply.Failed)) r a
    (λ x t d e. turned (ap is_turned_away e))
    (λ e w. turned (ap is_turned_away e))
    (λ x t d seat f p. cause_known names jmax past m u.0 x cause known p.0)

event_known : (names : List (List ℕ)) (jmax : ℕ) (past : List (Entry Meaning)) (m : Plain) (s : ℕ) (e : Event Meaning) (r : Reply) → AreKnown names past → HandsInKnown names e → (is_turned_away r ≡ true → KnownEvent names e) → Answers jmax past m s e r → KnownEvent names e
event_known names jmax past m s (event.Dylib name) r known h turned a = h
event_known names jmax past m s (event.Ask order wanted lev n) r known h turned a = h
event_known names jmax past m s (event.Fail u cause) r known h turned a = fail_known names jmax past m s u cause r known turned a
event_known names jmax past m s _ r known h turned a = tt

-- from a session whose past is known
known_from : (names : List (List ℕ)) (jmax : ℕ) (past : List (Entry Meaning)) (m : Plain) (h : List (Entry Meaning)) → LegalFrom jmax past m h → All (GivesKnown names) h → IsKnown names m → AreKnown names past → AreKnown names h
known_from names jmax past m [] l given k known = All-nil (KnownEntry names)
known_from names jmax past m (e ∷ es) l given k known =
    let g = All-head (GivesKnown names) e es given in
    let here : KnownEntry names e = (event_known names jmax past m e.seat.0 e.event e.reply known g.0 g.1 l.0, answer_known names jmax past m e.seat.0 e.event e.reply k g.0 l.0) in
    All-cons (KnownEntry names) e es here
    (known_from names jmax (past ++ e ∷ []) (after m e) es l.1 (All-tail (GivesKnown names) e es given) (after_known names m e g.0 k)
    (All-append (KnownEntry names) past (e ∷ []) known (All-cons (KnownEntry names) e [] here (All-nil (KnownEntry names)))))

pub names_are_known : NamesAreKnown
names_are_known jmax h l names given = known_from names jmax [] empty h l given (empty_known names) (All-nil (KnownEntry names))
