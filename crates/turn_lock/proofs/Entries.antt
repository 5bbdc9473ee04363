-- Lists of entries: what the definitions of specs/Lists say of a list that grows.
use Rattle.std.proofs.Common.{◌≡◌, ◌≢◌, ◌⊎◌, ℕ, zero, suc, ◌+◌, ◌<◌, ◌≤◌, List, [], ◌∷◌, ◌++◌, length, Bool, true, false, cond, eqb, refl, sym, ap, ◌∙◌, subst, ⊎_elim, inl, inr, arith, All, AllPairs, append-nil, append_assoc, take, drop, eq-eqb, ne_eqb, nat_lt}
use Rattle.std.proofs.lemmas.Bool.{ltb-true}
use Rattle.std.proofs.lemmas.List.{append_cancel_left, take-append-drop, take-append-le}
use Rattle.std.proofs.lemmas.List.Kept.{AllPairs-cons}
use Rattle.std.proofs.Math.Seq.{take-append_seam}
use Rattle.std.proofs.lemmas.List.Elements.{filter-append, All-append, All-cons, All-head, All-tail, All-nil}
use mathlib.Core.Option.{some, some-ne-none, some-injective}
use lib.ListN.{get_elem?}
use Rattle.turn_lock.specs.Lists.{StartsWith, entries_of, longer, shorter, unused}

module _ {A : Type 0} where
  -- a place that has something is within the list
  pub within : (l : List A) (i : ℕ) (a : A) → get_elem? l i ≡ some a → i < length l
  within [] i a e = absurd (some-ne-none a (sym e))
  within (x ∷ xs) zero a e = omega arith
  within (x ∷ xs) (suc i) a e = let t = within xs i a e in omega arith

  -- a place in a list with one more at its end is a place in the list, or the new one
  pub at_end : (l : List A) (a b : A) (j : ℕ) → get_elem? (l ++ a ∷ []) j ≡ some b → (get_elem? l j ≡ some b) ⊎ ((j ≡ length l) × (a ≡ b))
  at_end [] a b zero e = inr (refl, some-injective a b e)
  at_end [] a b (suc j) e = absurd (some-ne-none b (sym e))
  at_end (x ∷ xs) a b zero e = inl e
  at_end (x ∷ xs) a b (suc j) e = ⊎_elim inl (λ (t : (j ≡ length xs) × (a ≡ b)). inr (ap suc t.0, t.1)) (at_end xs a b j e)

  pub all_front : (P : A → Type 0) (xs ys : List A) → All P (xs ++ ys) → All P xs
  all_front P [] ys all = All-nil P
  all_front P (x ∷ xs) ys all = All-cons P x xs (All-head P x (xs ++ ys) all) (all_front P xs ys (All-tail P x (xs ++ ys) all))

  pub pairs_nil : (R : A → A → Type 0) → AllPairs R []
  pairs_nil R i j d a b = absurd (omega arith)

  pub pairs_append : (R : A → A → Type 0) (xs ys : List A) → AllPairs R xs → AllPairs R ys → All (λ x. All (R x) ys) xs → AllPairs R (xs ++ ys)
  pairs_append R [] ys a b c = b
  pairs_append R (x ∷ xs) ys a b c = AllPairs-cons R x (xs ++ ys) (All-append (R x) xs ys (λ k d l. a 0 (suc k) d (omega arith) (omega arith)) (All-head (λ z. All (R z) ys) x xs c))
      (pairs_append R xs ys (λ i j d l m. a (suc i) (suc j) d (omega arith) (omega arith)) b (All-tail (λ z. All (R z) ys) x xs c))

module _ {E : Type 0} where
  pub unused_all : (P : ℕ × List E → Type 0) (first count : ℕ) → ((n : ℕ) → first ≤ n → n < first + count → P (n, [])) → All P (unused first count)
  unused_all P first zero each = All-nil P
  unused_all P first (suc count) each = All-cons P (first, []) (unused (first + 1) count) (each first (omega arith) (omega arith))
      (unused_all P (first + 1) count (λ n low high. each n (omega arith) (omega arith)))

  pub unused_differ : (first count : ℕ) → AllPairs (λ p q. p.0 ≢ q.0) (unused {E = E} first count)
  unused_differ first zero = pairs_nil (λ (p : ℕ × List E) (q : ℕ × List E). p.0 ≢ q.0)
  unused_differ first (suc count) = AllPairs-cons (λ (p : ℕ × List E) (q : ℕ × List E). p.0 ≢ q.0) (first, []) (unused (first + 1) count)
      (unused_all (λ p. first ≢ p.0) (first + 1) count (λ n low high e. omega arith)) (unused_differ (first + 1) count)

  pub starts_itself : (xs : List E) → StartsWith xs xs
  starts_itself xs = ([], sym (append-nil xs))

  pub starts_same : (xs ys : List E) → xs ≡ ys → StartsWith xs ys
  starts_same xs ys e = subst (StartsWith xs) e (starts_itself xs)

  pub starts_empty : (xs : List E) → StartsWith xs []
  starts_empty xs = (xs, refl)

  pub starts_more : (xs seen more : List E) → StartsWith xs seen → StartsWith (xs ++ more) seen
  starts_more xs seen more s = (s.0 ++ more, ap (λ l. l ++ more) s.1 ∙ append_assoc seen s.0 more)

  pub starts_longer : (log xs ys : List E) → StartsWith log xs → StartsWith log ys → StartsWith log (longer xs ys)
  starts_longer log xs ys a b = by (nat_lt (length xs) (length ys))
    where
      by : (c : Bool) → StartsWith log (cond c ys xs)
      by true = b
      by false = a

  pub starts_shorter : (log xs ys : List E) → StartsWith log xs → StartsWith log ys → StartsWith log (shorter xs ys)
  starts_shorter log xs ys a b = by (nat_lt (length xs) (length ys))
    where
      by : (c : Bool) → StartsWith log (cond c xs ys)
      by true = a
      by false = b

  pub entry_of_it : (seat_of : E → ℕ) (number : ℕ) (log : List E) (e : E) → seat_of e ≡ number → entries_of seat_of number (log ++ e ∷ []) ≡ entries_of seat_of number log ++ e ∷ []
  entry_of_it seat_of number log e is = filter-append (λ x. eqb (seat_of x) number) log (e ∷ []) ∙ ap (λ (c : Bool). entries_of seat_of number log ++ cond c (e ∷ []) []) (eq-eqb (seat_of e) number is)

  pub entry_of_other : (seat_of : E → ℕ) (number : ℕ) (log : List E) (e : E) → seat_of e ≢ number → entries_of seat_of number (log ++ e ∷ []) ≡ entries_of seat_of number log
  entry_of_other seat_of number log e other = filter-append (λ x. eqb (seat_of x) number) log (e ∷ [])
      ∙ (ap (λ (c : Bool). entries_of seat_of number log ++ cond c (e ∷ []) []) (ne_eqb (seat_of e) number other) ∙ append-nil (entries_of seat_of number log))

  -- of two beginnings of a list the one that is not longer begins the other
  starts_within : (xs ys after_xs after_ys : List E) → xs ++ after_xs ≡ ys ++ after_ys → length xs ≤ length ys → ys ≡ xs ++ drop (length xs) ys
  starts_within xs ys after_xs after_ys same shorter' = let front : xs ≡ take (length xs) ys = sym (take-append_seam xs after_xs) ∙ (ap (take (length xs)) same ∙ take-append-le (length xs) ys after_ys shorter') in
      sym (take-append-drop (length xs) ys) ∙ ap (λ (l : List E). l ++ drop (length xs) ys) (sym front)

  none_before : (xs ys : List E) → xs ++ ys ≡ [] → xs ≡ []
  none_before [] ys none = refl
  none_before (x ∷ xs) ys none = let long : suc (length (xs ++ ys)) ≡ 0 = ap length none in absurd (omega arith)

  -- a number without an entry has none in any beginning
  pub none_seen : (seat_of : E → ℕ) (number : ℕ) (log seen : List E) → StartsWith log seen → entries_of seat_of number log ≡ [] → entries_of seat_of number seen ≡ []
  none_seen seat_of number log seen s none = none_before (entries_of seat_of number seen) (entries_of seat_of number s.0)
      (sym (filter-append (λ x. eqb (seat_of x) number) seen s.0) ∙ (ap (entries_of seat_of number) (sym s.1) ∙ none))

  -- where all entries of a number had been seen, those since are of other numbers
  pub none_since : (seat_of : E → ℕ) (number : ℕ) (mine seen more : List E) → entries_of seat_of number seen ≡ mine → entries_of seat_of number (seen ++ more) ≡ mine → entries_of seat_of number more ≡ []
  none_since seat_of number mine seen more own all = append_cancel_left (entries_of seat_of number seen) (entries_of seat_of number more) []
      (sym (filter-append (λ x. eqb (seat_of x) number) seen more) ∙ (all ∙ (sym own ∙ sym (append-nil (entries_of seat_of number seen)))))

  -- where all entries of a number were seen in one beginning of the history, they are in the longer of two
  pub own_longer : (seat_of : E → ℕ) (number : ℕ) (mine log xs ys : List E) → StartsWith log xs → StartsWith log ys → entries_of seat_of number xs ≡ mine → entries_of seat_of number log ≡ mine
      → entries_of seat_of number (longer xs ys) ≡ mine
  own_longer seat_of number mine log xs ys a b own all = by (nat_lt (length xs) (length ys)) refl
    where
      by : (c : Bool) → nat_lt (length xs) (length ys) ≡ c → entries_of seat_of number (cond c ys xs) ≡ mine
      by false _ = own
      by true less =
          let more : List E = drop (length xs) ys in
          let low : length xs < length ys = ltb-true (length xs) (length ys) less in
          let grown : ys ≡ xs ++ more = starts_within xs ys a.0 b.0 (sym a.1 ∙ b.1) (omega arith) in
          let whole : log ≡ xs ++ (more ++ b.0) = b.1 ∙ (ap (λ (l : List E). l ++ b.0) grown ∙ append_assoc xs more b.0) in
          let since = none_since seat_of number mine xs (more ++ b.0) own (ap (entries_of seat_of number) (sym whole) ∙ all) in
          let none = none_seen seat_of number (more ++ b.0) more (b.0, refl) since in
          ap (entries_of seat_of number) grown ∙ (filter-append (λ x. eqb (seat_of x) number) xs more ∙ (ap (λ (l : List E). entries_of seat_of number xs ++ l) none ∙ (append-nil (entries_of seat_of number xs) ∙ own)))
