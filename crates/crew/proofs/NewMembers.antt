-- Members whose seats are new, one by one.
use Rattle.std.proofs.Common.{◌≡◌, ℕ, zero, suc, ◌+◌, ◌⊎◌, inl, inr, List, [], ◌∷◌, ◌++◌, length, slice_get, refl, sym, ap, subst, ◌∙◌, arith, Option, Some}
use Rattle.std.specs.Prelude.{option_to_list}
use Rattle.std.proofs.lemmas.List.{append_assoc}
use Rattle.std.proofs.lemmas.Option.{none-some, same_Some}
use Rattle.atomic_table.specs.Seated.{TableId}
use Rattle.turn_lock.specs.Handles.{view, IsReady}
use Rattle.turn_lock.specs.declared.seat.Seat.{Seat}
use Rattle.crew.specs.Crew.{AreSeated, AreSeats, IsNew}
use Rattle.crew.specs.declared.seating.Member.{Member}

module _ {X : Type 0} where
  -- an element of a list with one more is an old one, or the new one
  pub pushed_cases : (xs : List X) (x : X) (k : ℕ) (y : X) → slice_get (xs ++ x ∷ []) k ≡ Some y → (slice_get xs k ≡ Some y) ⊎ ((k ≡ length xs) × (y ≡ x))
  pushed_cases [] x zero y at = inr (refl, sym (same_Some x y at))
  pushed_cases [] x (suc k) y at = absurd (none-some y at)
  pushed_cases (z ∷ zs) x zero y at = inl at
  pushed_cases (z ∷ zs) x (suc k) y at = by (pushed_cases zs x k y at)
    where
      by : (slice_get zs k ≡ Some y) ⊎ ((k ≡ length zs) × (y ≡ x)) → (slice_get zs k ≡ Some y) ⊎ ((suc k ≡ suc (length zs)) × (y ≡ x))
      by (inl old) = inl old
      by (inr last) = inr (ap suc last.0, last.1)

  pub pushed_last : (xs : List X) (x : X) → slice_get (xs ++ x ∷ []) (length xs) ≡ Some x
  pushed_last [] x = refl
  pushed_last (y ∷ ys) x = pushed_last ys x

  pub pushed_front : (xs : List X) (x : X) (k : ℕ) (y : X) → slice_get xs k ≡ Some y → slice_get (xs ++ x ∷ []) k ≡ Some y
  pushed_front [] x k y at = absurd (none-some y at)
  pushed_front (z ∷ zs) x zero y at = at
  pushed_front (z ∷ zs) x (suc k) y at = pushed_front zs x k y at

  -- one more was given out
  pub given_more : (xs : List X) (y : X) (ys before all : List X) → before ≡ y ∷ ys → xs ++ before ≡ all → (xs ++ y ∷ []) ++ ys ≡ all
  given_more xs y ys before all is whole = append_assoc xs (y ∷ []) ys ∙ (ap (λ l. xs ++ l) (sym is) ∙ whole)

  pub none_left : (xs : List X) → length xs ≡ 0 → xs ≡ []
  none_left [] e = refl
  none_left (x ∷ xs) e = absurd (omega (arith, e))

  -- what was popped off the end
  pub popped : (items rest : List X) (o : Option X) (x : X) → items ≡ rest ++ option_to_list o → o ≡ Some x → items ≡ rest ++ x ∷ []
  popped items rest o x is some = is ∙ ap (λ p. rest ++ option_to_list p) some

module _ {T E : Type 0} (turn : TableId) where
  pub one_more_seat : (from : ℕ) (seen : List E) (ss : List (Seat T E)) (s : Seat T E) → IsReady turn s → IsNew (from + length ss) seen (view s) → AreSeats turn from seen ss → AreSeats turn from seen (ss ++ s ∷ [])
  one_more_seat from seen ss s ready new are k x at = by (pushed_cases ss s k x at)
    where
      by : (slice_get ss k ≡ Some x) ⊎ ((k ≡ length ss) × (x ≡ s)) → IsReady turn x × IsNew (from + k) seen (view x)
      by (inl old) = are k x old
      by (inr last) = subst (λ (y : Seat T E). IsReady turn y × IsNew (from + k) seen (view y)) (sym last.1) (ready, subst (λ j. IsNew (from + j) seen (view s)) (sym last.0) new)

  pub seats_before : (from : ℕ) (seen : List E) (all rest : List (Seat T E)) (s : Seat T E) → all ≡ rest ++ s ∷ [] → AreSeats turn from seen all → AreSeats turn from seen rest
  seats_before from seen all rest s is are k x at = are k x (subst (λ l. slice_get l k ≡ Some x) (sym is) (pushed_front rest s k x at))

  pub last_seat : (from : ℕ) (seen : List E) (all rest : List (Seat T E)) (s : Seat T E) → all ≡ rest ++ s ∷ [] → AreSeats turn from seen all → IsReady turn s × IsNew (from + length rest) seen (view s)
  last_seat from seen all rest s is are = are (length rest) s (subst (λ l. slice_get l (length rest) ≡ Some s) (sym is) (pushed_last rest s))

  -- the next member has the seat before
  pub one_more_member : {D : Type 0} (end number : ℕ) (seen : List E) (ms : List (Member (Seat T E) D)) (m : Member (Seat T E) D) → number + length ms + 1 ≡ end → IsReady turn m.seat × IsNew number seen (view m.seat) →
      AreSeated turn end seen ms → AreSeated turn end seen (ms ++ m ∷ [])
  one_more_member {D} end number seen ms m its new are k n x at is = by (pushed_cases ms m k x at)
    where
      by : (slice_get ms k ≡ Some x) ⊎ ((k ≡ length ms) × (x ≡ m)) → IsReady turn x.seat × IsNew n seen (view x.seat)
      by (inl old) = are k n x old is
      by (inr last) = subst (λ (y : Member (Seat T E) D). IsReady turn y.seat × IsNew n seen (view y.seat)) (sym last.1)
          (new.0, subst (λ j. IsNew j seen (view m.seat)) (omega (arith, its, is, last.0)) new.1)
