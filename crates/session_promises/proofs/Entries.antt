-- An entry of a history, and the session before and after it.
use Rattle.std.proofs.Common.{arith, ◌≡◌, ℕ, suc, ◌+◌, Bool, true, false, ◌==◌, List, [], ◌∷◌, slice_get, take, refl, subst, ap, ◌∙◌, Some}
use Rattle.std.specs.Bool.{if◌then◌else◌}
use Rattle.std.proofs.lemmas.List.Elements.{All-cons, All-nil}
use Rattle.list_laws.proofs.Lists.{taken_more}
use Rattle.session_model.specs.Answer.{Answers}
use Rattle.session_model.specs.Calls.{numbered_calls}
use Rattle.session_model.specs.History.{IsLegal}
use Rattle.session_model.specs.Meaning.{Meaning}
use Rattle.session_model.specs.Plain.{empty}
use Rattle.session_model.specs.State.{after, state}
use Rattle.session_model.specs.declared.entry.Entry.{Entry}
use Rattle.session_laws.proofs.Declared.{one_more_legal, state_from_push, front_legal}
use Rattle.session_promises.specs.Lookups.{AreCallsOf}

-- it leads to the session after it
pub entry_leads : (h : List (Entry Meaning)) (n : ℕ) (e : Entry Meaning) → slice_get h n ≡ Some e → state (take (n + 1) h) ≡ after (state (take n h)) e
entry_leads h n e t = ap state (taken_more h n e t) ∙ state_from_push empty (take n h) e

-- its reply is a right one
pub entry_answers : (jmax : ℕ) (h : List (Entry Meaning)) → IsLegal jmax h → (n : ℕ) (e : Entry Meaning) → slice_get h n ≡ Some e → Answers jmax (take n h) (state (take n h)) e.seat.0 e.event e.reply
entry_answers jmax h legal n e t = (one_more_legal jmax (take n h) e).1 (subst (IsLegal jmax) (taken_more h n e t) (front_legal jmax h (n + 1) legal))

-- each of a seat's calls is an entry of the history
numbered_are : (s m : ℕ) (es h : List (Entry Meaning)) → ((k : ℕ) (e : Entry Meaning) → slice_get es k ≡ Some e → (n : ℕ) × (m + k ≡ n + 1) × (slice_get h n ≡ Some e)) → AreCallsOf h (numbered_calls s m es)
numbered_are s m [] h at = All-nil (λ c. (n : ℕ) × (c.0 ≡ n + 1) × (slice_get h n ≡ Some c.1))
numbered_are s m (e ∷ es) h at = by (e.seat.0 == s) here (numbered_are s (m + 1) es h later)
  where
    Call : ℕ × Entry Meaning → Type 0
    Call c = (n : ℕ) × (c.0 ≡ n + 1) × (slice_get h n ≡ Some c.1)

    here : Call (m, e)
    here = let a = at 0 e refl in (a.0, omega (arith, a.1), a.2)

    later : (k : ℕ) (x : Entry Meaning) → slice_get es k ≡ Some x → (n : ℕ) × (m + 1 + k ≡ n + 1) × (slice_get h n ≡ Some x)
    later k x there = let a = at (suc k) x there in (a.0, omega (arith, a.1), a.2)

    by : (b : Bool) → Call (m, e) → AreCallsOf h (numbered_calls s (m + 1) es) → AreCallsOf h (if b then (m, e) ∷ numbered_calls s (m + 1) es else numbered_calls s (m + 1) es)
    by true c rest = All-cons Call (m, e) (numbered_calls s (m + 1) es) c rest
    by false c rest = rest

pub calls_of : (s : ℕ) (h : List (Entry Meaning)) → AreCallsOf h (numbered_calls s 1 h)
calls_of s h = numbered_are s 1 h h (λ k e there. (k, omega arith, there))
