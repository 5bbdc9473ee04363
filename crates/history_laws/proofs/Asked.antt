-- A query's note is that of the entry which asked it.
use Rattle.std.proofs.Common.{◌≡◌, ℕ, ◌+◌, ◌-◌, ◌<◌, ◌≤◌, ◌&&◌, ◌⊎◌, inl, inr, Bool, true, false, List, [], ◌∷◌, ◌++◌, length, slice_get, append_assoc, append-nil, Option, Some, ap, sym, subst, ◌∙◌, arith}
use Rattle.std.specs.Prelude.{option_and_then}
use Rattle.std.proofs.lemmas.Option.{none-some}
use Rattle.session_model.specs.Lists.{only_if}
use Rattle.session_model.specs.Meaning.{Meaning}
use Rattle.session_model.specs.State.{state}
use Rattle.session_model.specs.declared.entry.Entry.{Entry}
use Rattle.session_model.specs.declared.rows.Query.{Query}
use Rattle.session_laws.proofs.Declared.{appended_below, pushed_cases, pushed_last, entries_are, query_was_asked}
use Rattle.session_steps.specs.Fires.{is_lodged}
use Rattle.history_laws.specs.Laws.{may_lodge, NoteIsAsked}
use Rattle.history_laws.specs.Notes.{event_note}
use Rattle.history_laws.proofs.Unlodged.{Lodges, lodges}

-- the note of the entry that asked
abbrev asked_note : List (Entry Meaning) → Query → Option ℕ
asked_note h q = option_and_then (λ e. event_note e.event) (slice_get h (q.asked - 1))

note_kept : (h : List (Entry Meaning)) (e : Entry Meaning) (q : Query) → 0 < q.asked → q.asked ≤ length h → asked_note (h ++ e ∷ []) q ≡ asked_note h q
note_kept h e q a b = ap (option_and_then (λ (f : Entry Meaning). event_note f.event)) (appended_below h (e ∷ []) (q.asked - 1) (omega (arith, a, b)))

note_new : (h : List (Entry Meaning)) (e : Entry Meaning) (q : Query) → q.asked ≡ length h + 1 → asked_note (h ++ e ∷ []) q ≡ event_note e.event
note_new h e q a = ap (option_and_then (λ (f : Entry Meaning). event_note f.event)) (ap (slice_get (h ++ e ∷ [])) (omega (arith, a)) ∙ pushed_last h e)

abbrev AllAsked : List (Entry Meaning) → Type 0
AllAsked h = (k : ℕ) (q : Query) → slice_get (state h).queries k ≡ Some q → q.note ≡ asked_note h q

one_more_asked : (h : List (Entry Meaning)) (e : Entry Meaning) → AllAsked h → AllAsked (h ++ e ∷ [])
one_more_asked h e all k q t = split (may_lodge e.event && is_lodged e.reply) (lodges h e)
  where
    old : slice_get (state h).queries k ≡ Some q → q.note ≡ asked_note (h ++ e ∷ []) q
    old there = let a = query_was_asked h k q there in all k q there ∙ sym (note_kept h e q a.0 a.1)

    split : (b : Bool) → Lodges (only_if b (event_note e.event)) (state h) (state (h ++ e ∷ [])).queries → q.note ≡ asked_note (h ++ e ∷ []) q
    split true (new, grown, asked, its) = by (pushed_cases (state h).queries new k q (ap (λ qs. slice_get qs k) (sym grown) ∙ t))
      where
        by : (slice_get (state h).queries k ≡ Some q) ⊎ ((k ≡ length (state h).queries) × (q ≡ new)) → q.note ≡ asked_note (h ++ e ∷ []) q
        by (inl there) = old there
        by (inr p) = ap (λ (r : Query). r.note) p.1 ∙ (its ∙ sym (note_new h e q (ap (λ (r : Query). r.asked) p.1 ∙ (asked ∙ ap (λ n. n + 1) (entries_are h)))))
    split false same = old (ap (λ qs. slice_get qs k) (sym same) ∙ t)

all_asked : (past h : List (Entry Meaning)) → AllAsked past → AllAsked (past ++ h)
all_asked past [] all = subst AllAsked (sym (append-nil past)) all
all_asked past (e ∷ es) all = subst AllAsked (append_assoc past (e ∷ []) es) (all_asked (past ++ e ∷ []) es (one_more_asked past e all))

pub note_is_asked : NoteIsAsked
note_is_asked h = all_asked [] h (λ k q t. absurd (none-some q t))
