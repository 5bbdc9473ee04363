-- What each seat says is what the history says.
use Rattle.std.proofs.Common.{◌≡◌, ℕ, ◌+◌, ◌<◌, List, [], ◌∷◌, ◌++◌, map, All, ◌⊎◌, inl, inr, refl, sym, subst, arith}
use Rattle.std.specs.Bool.{⊤}
use Rattle.std.specs.List.{AllByRecursion}
use Rattle.std.proofs.lemmas.Bool.{cases_eq}
use Rattle.std.proofs.lemmas.List.Elements.{All-from_recursion, recursion_from_All}
use Rattle.session_laws.proofs.Declared.{call_first, call_skipped}
use Rattle.session_laws.specs.Entries.{entries}
use Rattle.list_laws.proofs.Each.{each_weaker}
pub use Rattle.list_laws.proofs.Each.{each_taken}
use Rattle.session_model.specs.Calls.{numbered_calls}
use Rattle.session_model.specs.History.{LegalFrom}
use Rattle.session_model.specs.Meaning.{Meaning}
use Rattle.session_model.specs.Plain.{Plain, empty}
use Rattle.session_model.specs.State.{after}
use Rattle.session_model.specs.declared.entry.Entry.{Entry}
use Rattle.session_model.specs.declared.entry.Event.{Event}
use Rattle.journal_text.specs.Events.{KnownEvent}
use Rattle.journal_text.specs.Replies.{KnownReply}
use Rattle.known_names.specs.Laws.{GivesKnown, HandsInKnown}
use Rattle.known_names.proofs.KnownReplies.{answer_known}
use Rattle.known_names.proofs.KnownUnits.{IsKnown, after_known, empty_known}
use Rattle.known_names.proofs.Knowing.{names_are_known}
use Rattle.run_laws.proofs.Costs.{each_joined}
use Rattle.run_laws.proofs.Seats.{each_seat}
use Rattle.run_laws.proofs.Sums.{each_call}
use Rattle.known_names.specs.SpokenLaws.{SpokenNamesAreKnown}
use Rattle.known_names.specs.Speaking.{Speaks}
use Rattle.known_names.proofs.Speaking.{hands_in, says}

-- an entry was given known names, and says no other; the names of its reply are known
abbrev Hands : List (List ℕ) → Entry Meaning → Type 0
Hands names e = HandsInKnown names e.event

abbrev SaysKnown : List (List ℕ) → Entry Meaning → Type 0
SaysKnown names e = KnownEvent names e.event

abbrev Replies : List (List ℕ) → Entry Meaning → Type 0
Replies names e = KnownReply names e.reply

-- replies have known names where all that was handed in is known
replies_from : (names : List (List ℕ)) (jmax : ℕ) (past : List (Entry Meaning)) (m : Plain) (h : List (Entry Meaning)) → LegalFrom jmax past m h → AllByRecursion (Hands names) h → IsKnown names m → AllByRecursion (Replies names) h
replies_from names jmax past m [] l hands k = tt
replies_from names jmax past m (e ∷ es) l hands k = (
  answer_known names jmax past m e.seat.0 e.event e.reply k hands.0 l.0,
  replies_from names jmax (past ++ e ∷ []) (after m e) es l.1 hands.1 (after_known names m e hands.0 k),
)

pub spoken_known : SpokenNamesAreKnown
spoken_known names jmax h legal speaks = names_are_known jmax h legal names (All-from_recursion (GivesKnown names) h (both h all_hand all_say))
  where
    all_hand : AllByRecursion (Hands names) h
    all_hand = each_seat (Hands names) 1 h (λ s. hands_in names ⊤ (numbered_calls s 1 h) (speaks s))

    all_reply : AllByRecursion (Replies names) h
    all_reply = replies_from names jmax [] empty h legal all_hand (empty_known names)

    all_say : AllByRecursion (SaysKnown names) h
    all_say = each_seat (SaysKnown names) 1 h (λ s. says names ⊤ (numbered_calls s 1 h) tt (speaks s) (each_call (Replies names) s 1 h all_reply))

    both : (es : List (Entry Meaning)) → AllByRecursion (Hands names) es → AllByRecursion (SaysKnown names) es → AllByRecursion (GivesKnown names) es
    both [] a b = tt
    both (e ∷ es) a b = ((a.0, λ t. b.0), both es a.1 b.1)

-- The set-up

-- an event hands in known names, and says known names
abbrev pub IsNamed : List (List ℕ) → Event Meaning → Type 0
IsNamed names v = HandsInKnown names v × KnownEvent names v

abbrev pub IsNamedEntry : List (List ℕ) → Entry Meaning → Type 0
IsNamedEntry names e = IsNamed names e.event

-- the calls of a seat speak of known names where each of its entries is named
seat_named : (names : List (List ℕ)) (P : Type 0) (s n : ℕ) (es : List (Entry Meaning)) → AllByRecursion (λ (e : Entry Meaning). e.seat.0 ≡ s → IsNamedEntry names e) es → Speaks names P (entries (numbered_calls s n es))
seat_named names P s n [] a = tt
seat_named names P s n (e ∷ es) a = split (cases_eq e.seat.0 s) (λ Q. seat_named names Q s (n + 1) es a.1)
  where
    split : (e.seat.0 ≡ s) ⊎ (e.seat.0 ≡ s → ⊥) → ((Q : Type 0) → Speaks names Q (entries (numbered_calls s (n + 1) es))) → Speaks names P (entries (numbered_calls s n (e ∷ es)))
    split (inl is) rest = subst (λ cs. Speaks names P (entries cs)) (sym (call_first s n e es is)) (((a.0 is).0, λ p. (a.0 is).1), rest (P × KnownReply names e.reply))
    split (inr apart) rest = subst (λ cs. Speaks names P (entries cs)) (sym (call_skipped s n e es apart)) (rest P)

-- seat 0 says the set-up alone
pub setup_speaks : (names : List (List ℕ)) (h setup later : List (Entry Meaning)) → h ≡ setup ++ later → AllByRecursion (IsNamedEntry names) setup → All (λ (e : Entry Meaning). 0 < e.seat.0) later → Speaks names ⊤ (entries (numbered_calls 0 1 h))
setup_speaks names h setup later parts named seated = seat_named names ⊤ 0 1 h (subst (AllByRecursion OfSeat0) (sym parts) (each_joined OfSeat0 setup later
    (each_weaker (IsNamedEntry names) OfSeat0 (λ e p is. p) setup named)
    (each_weaker (λ (e : Entry Meaning). 0 < e.seat.0) OfSeat0 (λ e other is. absurd (omega (arith, other, is))) later (recursion_from_All (λ (e : Entry Meaning). 0 < e.seat.0) later seated))))
  where
    OfSeat0 : Entry Meaning → Type 0
    OfSeat0 e = e.seat.0 ≡ 0 → IsNamedEntry names e

-- entries are named as their events are
pub of_events : (names : List (List ℕ)) (es : List (Entry Meaning)) (vs : List (Event Meaning)) → map (λ (e : Entry Meaning). e.event) es ≡ vs → AllByRecursion (IsNamed names) vs → AllByRecursion (IsNamedEntry names) es
of_events names es vs is a = back es (subst (AllByRecursion (IsNamed names)) (sym is) a)
  where
    back : (es : List (Entry Meaning)) → AllByRecursion (IsNamed names) (map (λ (e : Entry Meaning). e.event) es) → AllByRecursion (IsNamedEntry names) es
    back [] b = tt
    back (e ∷ rest) b = (b.0, back rest b.1)
