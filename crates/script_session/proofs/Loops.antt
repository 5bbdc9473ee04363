-- Lists that a loop goes over.
use Rattle.std.proofs.Common.{◌≡◌, List, [], ◌∷◌, ◌++◌, length, refl, sym, ap, ◌∙◌, arith, Option, Some}
use Rattle.std.specs.Option.{option_to_list}
use Rattle.std.proofs.lemmas.List.{append_assoc}

module _ {X : Type 0} where
  -- one more was given
  pub given_more : (xs : List X) (y : X) (ys before all : List X) → before ≡ y ∷ ys → xs ++ before ≡ all → (xs ++ y ∷ []) ++ ys ≡ all
  given_more xs y ys before all is whole = append_assoc xs (y ∷ []) ys ∙ (ap (λ l. xs ++ l) (sym is) ∙ whole)

  pub none_left : (xs : List X) → length xs ≡ 0 → xs ≡ []
  none_left [] e = refl
  none_left (x ∷ xs) e = absurd (omega (arith, e))

  -- what was popped off the end
  pub popped : (items rest : List X) (o : Option X) (x : X) → items ≡ rest ++ option_to_list o → o ≡ Some x → items ≡ rest ++ x ∷ []
  popped items rest o x is some = is ∙ ap (λ p. rest ++ option_to_list p) some
