-- What stays of the chains where lists or a node are added.
use Rattle.std.proofs.Common.{◌≡◌, ◌⊎◌, inl, inr, ⊎_elim, ℕ, Option, Some, None, ◌+◌, ◌<◌, ◌≤◌, List, [], ◌∷◌, ◌++◌, length, set, take, replicate, zero, suc, refl, ap, sym, ◌∙◌, subst, arith, length-append}
use Rattle.std.specs.Prelude.{slice_get}
use Rattle.query_book.specs.declared.lists.Node.{Node}
use Rattle.query_book.specs.Lists.{IsChained}
use Rattle.query_book.proofs.Parts.{get_after_set}
use Rattle.std.proofs.lemmas.List.{take_all}

some_before : (xs : List (Option ℕ)) (n i m : ℕ) → slice_get (xs ++ replicate n None) i ≡ Some (Some m) → slice_get xs i ≡ Some (Some m)
some_before [] zero i m is = absurd cc
some_before [] (suc n) zero m is = absurd cc
some_before [] (suc n) (suc i) m is = some_before [] n i m is
some_before (x ∷ xs) n zero m is = is
some_before (x ∷ xs) n (suc i) m is = some_before xs n i m is

pub chained_more : (nodes : List Node) (firsts firsts' : List (Option ℕ)) (at n : ℕ) → IsChained nodes firsts → firsts' ≡ take at firsts ++ replicate n None → length firsts ≤ at → IsChained nodes firsts'
chained_more nodes firsts firsts' at n c grown past = record {
  begins = λ i m is. c.begins i m (some_before firsts n i m (ap (λ l. slice_get l i) (sym (grown ∙ ap (λ l. l ++ replicate n None) (take_all at firsts past))) ∙ is));
  falls = c.falls;
}

pushed : {X : Type 0} (xs : List X) (x y : X) (k : ℕ) → slice_get (xs ++ x ∷ []) k ≡ Some y → (slice_get xs k ≡ Some y) ⊎ ((k ≡ length xs) × (x ≡ y))
pushed [] x y zero is = inr (refl, cc)
pushed [] x y (suc k) is = absurd cc
pushed (z ∷ xs) x y zero is = inl is
pushed {X} (z ∷ xs) x y (suc k) is = ⊎_elim (λ (e : slice_get xs k ≡ Some y). inl e) (λ (e : (k ≡ length xs) × (x ≡ y)). inr (ap suc e.0, e.1)) (pushed xs x y k is)

pub chained_add : (nodes nodes' : List Node) (firsts : List (Option ℕ)) (at query len : ℕ) (next : Option ℕ) → IsChained nodes firsts → slice_get firsts at ≡ Some next → nodes' ≡ nodes ++ record { query = query; next = next } ∷ [] → len ≡ length nodes → IsChained nodes' (set firsts at (Some len))
chained_add nodes nodes' firsts at query len next c here more same = subst (λ l. IsChained l (set firsts at (Some len))) (sym more) (record { begins = begins; falls = falls })
  where
    longer : length (nodes ++ record { query = query; next = next } ∷ []) ≡ length nodes + 1
    longer = length-append nodes (record { query = query; next = next } ∷ [])

    begins : (i m : ℕ) → slice_get (set firsts at (Some len)) i ≡ Some (Some m) → m < length (nodes ++ record { query = query; next = next } ∷ [])
    begins i m is = ⊎_elim (λ (e : Some len ≡ Some m). let f : len ≡ m = cc in omega (arith, f, same, longer))
        (λ (e : slice_get firsts i ≡ Some (Some m)). let less = c.begins i m e in omega (arith, less, longer))
        (get_after_set firsts at i (Some len) (Some m) is)

    falls : (m j : ℕ) (n : Node) → slice_get (nodes ++ record { query = query; next = next } ∷ []) m ≡ Some n → n.next ≡ Some j → j < m
    falls m j n is e = ⊎_elim (λ (f : slice_get nodes m ≡ Some n). c.falls m j n f e)
        (λ (f : (m ≡ length nodes) × (record { query = query; next = next } ≡ n)). let g : next ≡ Some j = ap (λ (x : Node). x.next) f.1 ∙ e in let less = c.begins at j (here ∙ ap (λ o. Some o) g) in omega (arith, less, f.0))
        (pushed nodes (record { query = query; next = next }) n m is)
