-- The calls of one seat, by the first entry.
use Rattle.std.proofs.Common.{◌≡◌, ℕ, ◌+◌, Bool, List, ◌∷◌, ap}
use Rattle.std.specs.Bool.{if◌then◌else◌}
use Rattle.std.proofs.lemmas.Bool.{eq-eqb, ne_eqb}
use Rattle.session_model.specs.Calls.{numbered_calls}
use Rattle.session_model.specs.Meaning.{Meaning}
use Rattle.session_model.specs.declared.entry.Entry.{Entry}

abbrev chosen_calls : ℕ → ℕ → Entry Meaning → List (Entry Meaning) → Bool → List (ℕ × Entry Meaning)
chosen_calls s n e es b = if b then (n, e) ∷ numbered_calls s (n + 1) es else numbered_calls s (n + 1) es

pub call_first : (s n : ℕ) (e : Entry Meaning) (es : List (Entry Meaning)) → e.seat.0 ≡ s → numbered_calls s n (e ∷ es) ≡ (n, e) ∷ numbered_calls s (n + 1) es
call_first s n e es is = ap (chosen_calls s n e es) (eq-eqb e.seat.0 s is)

pub call_skipped : (s n : ℕ) (e : Entry Meaning) (es : List (Entry Meaning)) → (e.seat.0 ≡ s → ⊥) → numbered_calls s n (e ∷ es) ≡ numbered_calls s (n + 1) es
call_skipped s n e es apart = ap (chosen_calls s n e es) (ne_eqb e.seat.0 s apart)
