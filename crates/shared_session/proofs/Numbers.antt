-- The numbered calls of a seat, in a list of entries that grows at its end.
use Rattle.std.proofs.Common.{◌≡◌, ℕ, ◌+◌, Bool, true, false, cond, eqb, eq-eqb, List, [], ◌∷◌, ◌++◌, length, take, refl, ap, ◌∙◌, arith}
use Rattle.std.proofs.lemmas.List.{map-append, append_assoc}
use Rattle.std.proofs.Math.Seq.{take-append_seam}
use Rattle.session_model.specs.Meaning.{Meaning}
use Rattle.session_model.specs.Calls.{numbered_calls}
use Rattle.session_model.specs.State.{plain_entry, plain_history}
use Rattle.session_model.specs.declared.entry.Entry.{Entry}
use Rattle.turn_lock.specs.Lists.{StartsWith, entries_of}
use Rattle.shared_session.specs.Home.{seat_of}

-- what is put before a list that is chosen by a test
chosen_append : {X : Type 0} (c : Bool) (x : X) (xs ys : List X) → cond c (x ∷ (xs ++ ys)) (xs ++ ys) ≡ cond c (x ∷ xs) xs ++ ys
chosen_append true x xs ys = refl
chosen_append false x xs ys = refl

pub numbered_append : (s n : ℕ) (xs ys : List (Entry Meaning)) → numbered_calls s n (xs ++ ys) ≡ numbered_calls s n xs ++ numbered_calls s (n + length xs) ys
numbered_append s n [] ys = ap (λ k. numbered_calls s k ys) (omega arith)
numbered_append s n (e ∷ es) ys =
    ap (λ rest. cond (eqb e.seat.0 s) ((n, e) ∷ rest) rest) (numbered_append s (n + 1) es ys ∙ ap (λ k. numbered_calls s (n + 1) es ++ numbered_calls s k ys) (omega arith))
    ∙ chosen_append (eqb e.seat.0 s) (n, e) (numbered_calls s (n + 1) es) (numbered_calls s (n + length (e ∷ es)) ys)

module _ {U : Type 0} (means : U → Meaning) where
  first_not : (c : Bool) (x : Entry U) (xs : List (Entry U)) → cond c (x ∷ xs) xs ≡ [] → (c ≡ false) × (xs ≡ [])
  first_not true x xs none = let some : length (x ∷ xs) ≡ 0 = ap length none in absurd (omega arith)
  first_not false x xs none = (refl, none)

  -- a list without entries of the seat has no calls of it
  pub numbered_none : (s n : ℕ) (more : List (Entry U)) → entries_of seat_of s more ≡ [] → numbered_calls s n (plain_history means more) ≡ []
  numbered_none s n [] none = refl
  numbered_none s n (e ∷ es) none =
      let split = first_not (eqb (seat_of e) s) e (entries_of seat_of s es) none in
      ap (λ c. cond c ((n, plain_entry means e) ∷ numbered_calls s (n + 1) (plain_history means es)) (numbered_calls s (n + 1) (plain_history means es))) split.0
      ∙ numbered_none s (n + 1) es split.1

  -- an entry of the seat is one call
  pub numbered_one : (s n : ℕ) (e : Entry U) → seat_of e ≡ s → numbered_calls s n (plain_history means (e ∷ [])) ≡ (n, plain_entry means e) ∷ []
  numbered_one s n e its = ap (λ c. cond c ((n, plain_entry means e) ∷ []) []) (eq-eqb (seat_of e) s its)

  pub plain_starts : (log seen : List (Entry U)) → StartsWith log seen → StartsWith (plain_history means log) (plain_history means seen)
  plain_starts log seen later = (plain_history means later.0, ap (plain_history means) later.1 ∙ map-append (plain_entry means) seen later.0)

pub starts_again : {X : Type 0} (a b c : List X) → StartsWith a b → StartsWith b c → StartsWith a c
starts_again a b c f g = (g.0 ++ f.0, f.1 ∙ (ap (λ l. l ++ f.0) g.1 ∙ append_assoc c g.0 f.0))

-- the beginning of a list that is known to begin so
pub taken_start : {X : Type 0} (h before : List X) → StartsWith h before → take (length before) h ≡ before
taken_start h before starts = ap (take (length before)) starts.1 ∙ take-append_seam before starts.0
