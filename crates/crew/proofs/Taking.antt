-- What joining seats leaves known of a history.
use Rattle.std.proofs.Common.{◌≡◌, ℕ, ◌-◌, Bool, true, false, cond, List, [], ◌∷◌, ◌++◌, length, sym, ap, subst, ◌∙◌, All}
use Rattle.std.specs.Prelude.{nat_lt}
use Rattle.std.proofs.lemmas.List.{append_assoc}
use Rattle.std.proofs.lemmas.List.Elements.{All-cons, All-head, All-nil, All-tail}
use Rattle.turn_lock.specs.declared.view.View.{View}
use Rattle.turn_lock.specs.Lists.{StartsWith, entries_of, longer, shorter, unused}
use Rattle.turn_lock.specs.Told.{Shows}
use Rattle.turn_lock.specs.Views.{handed_on, joined, sees}
use Rattle.crew.specs.Crew.{IsKept, Says}

module _ {X : Type 0} (P : X → Type 0) where
  -- all of two lists, one after the other
  pub first_part : (xs ys : List X) → All P (xs ++ ys) → All P xs
  first_part [] ys all = All-nil P
  first_part (x ∷ xs) ys all = All-cons P x xs (All-head P x (xs ++ ys) all) (first_part xs ys (All-tail P x (xs ++ ys) all))

  pub second_part : (xs ys : List X) → All P (xs ++ ys) → All P ys
  second_part [] ys all = all
  second_part (x ∷ xs) ys all = second_part xs ys (All-tail P x (xs ++ ys) all)

module _ {E : Type 0} where
  -- a history that begins with a longer beginning of another begins with what that begins with
  starts_again : (log xs ys : List E) → StartsWith log xs → StartsWith xs ys → StartsWith log ys
  starts_again log xs ys (more, is) (rest, begins) = (rest ++ more, is ∙ (ap (λ l. l ++ more) begins ∙ append_assoc ys rest more))

  -- a history that begins with the longer of two lists, and with the shorter, begins with both
  both_begin : (log xs ys : List E) → StartsWith log (longer xs ys) → StartsWith log (shorter xs ys) → StartsWith log xs × StartsWith log ys
  both_begin log xs ys a b = by (nat_lt (length xs) (length ys)) a b
    where
      by : (c : Bool) → StartsWith log (cond c ys xs) → StartsWith log (cond c xs ys) → StartsWith log xs × StartsWith log ys
      by true a b = (b, a)
      by false a b = (a, b)

  module _ (seat_of : E → ℕ) where
    -- what a seat knows that took another in, both knew
    said_before : (log : List E) (v w : View E) → Says seat_of log (joined v w) → Says seat_of log v × StartsWith log w.seen × (entries_of seat_of w.number log ≡ w.mine)
    said_before log v w s =
        let begins = both_begin log v.seen w.seen s.later (All-head (StartsWith log) (shorter v.seen w.seen) (v.told ++ w.told) s.told) in
        let rest = All-tail (StartsWith log) (shorter v.seen w.seen) (v.told ++ w.told) s.told in (
          record { later = begins.0; told = first_part (StartsWith log) v.told w.told rest; ended = first_part (λ p. entries_of seat_of p.0 log ≡ p.1) v.ended (handed_on w) s.ended; mine = s.mine; below = s.below },
          begins.1,
          All-head (λ p. entries_of seat_of p.0 log ≡ p.1) (w.number, w.mine) (w.ended ++ unused w.spare_from (w.spare_to - w.spare_from)) (second_part (λ p. entries_of seat_of p.0 log ≡ p.1) v.ended (handed_on w) s.ended),
        )

    -- a seat that closes a value with a history knows this of it
    pub says : (lawful : List E → Type 0) (posted : List E → ℕ → ℕ → Type 0) (log : List E) (v : View E) → Shows seat_of lawful posted log v → Says seat_of log v
    says lawful posted log v s = record { later = s.later; told = s.told; ended = s.accounts.ended; mine = s.accounts.mine; below = s.accounts.below }

    -- a seat that saw the front, and was taken in then
    pub taken_in : (lawful : List E → Type 0) (posted : List E → ℕ → ℕ → Type 0) (log front : List E) (v w x y : View E) → Shows seat_of lawful posted front w → x ≡ sees front w → y ≡ joined v x → Says seat_of log y →
        Says seat_of log v × IsKept seat_of log w
    taken_in lawful posted log front v w x y s is joins said =
        let before = said_before log v x (subst (Says seat_of log) joins said) in
        let seen : x.seen ≡ front = ap (λ (u : View E). u.seen) is in
        let number : x.number ≡ w.number = ap (λ (u : View E). u.number) is in
        let mine : x.mine ≡ w.mine = ap (λ (u : View E). u.mine) is in (
          before.0,
          record {
            later = starts_again log front w.seen (subst (StartsWith log) seen before.1) s.later;
            own = subst (λ n. entries_of seat_of n log ≡ x.mine) number before.2 ∙ (mine ∙ sym s.own);
          },
        )
