-- Tables that grow, and lists of mentions.
use Rattle.std.proofs.Common.{◌≡◌, ℕ, Bool, false, Option, Some, None, ◌⊎◌, inl, inr, ⊎_elim, ◌<◌, ◌==◌, if◌then◌else◌, List, [], ◌∷◌, ◌++◌, length, zero, suc, ap, sym, subst, ◌∙◌, refl, arith}
use Rattle.std.specs.Prelude.{slice_get}
use Rattle.std.proofs.lemmas.Option.{same_Some}
use Rattle.std.proofs.lemmas.Bool.{cases_eq}
use Rattle.dep_groups.specs.declared.graph.Edge.{Edge}
use Rattle.dep_groups.specs.Places.{place, is_set}
use Rattle.dep_groups.specs.Wake.{IsListed, here, later}
use Rattle.dep_groups.proofs.Lists.{get_kept, get_last, get_push}
use Rattle.dep_groups.proofs.Ways.{written_here, written_other}

pub place_grown : (xs : List (Option ℕ)) (k : ℕ) → place (xs ++ None ∷ []) k ≡ place xs k
unfolding place
place_grown [] zero = refl
place_grown [] (suc k) = refl
place_grown (x ∷ xs) zero = refl
place_grown (x ∷ xs) (suc k) = place_grown xs k

pub flag_grown : (xs : List Bool) (k : ℕ) → is_set (xs ++ false ∷ []) k ≡ is_set xs k
unfolding is_set
flag_grown [] zero = refl
flag_grown [] (suc k) = refl
flag_grown (x ∷ xs) zero = refl
flag_grown (x ∷ xs) (suc k) = flag_grown xs k

pub listed_kept : (edges more : List Edge) (o : Option ℕ) (g : ℕ) → IsListed edges o g → IsListed (edges ++ more) o g
listed_kept edges more o g (here {k = k} e is same) = here e (get_kept edges more k e is) same
listed_kept edges more o g (later {k = k} e is rest) = later e (get_kept edges more k e is) (listed_kept edges more e.next g rest)

pub listed_first : (firsts new : List (Option ℕ)) (edges : List Edge) (e : Edge) (d : ℕ) → ((n : ℕ) → place new n ≡ (if d == n then Some (length edges) else place firsts n)) → IsListed (edges ++ e ∷ []) (place new d) e.group
listed_first firsts new edges e d says = subst (λ o. IsListed (edges ++ e ∷ []) o e.group) (sym (written_here (place firsts) (place new) d (Some (length edges)) says)) (here e (get_last edges e) refl)

pub listed_more : (firsts new : List (Option ℕ)) (edges : List Edge) (e : Edge) (d : ℕ) → e.next ≡ place firsts d → ((n : ℕ) → place new n ≡ (if d == n then Some (length edges) else place firsts n)) → (n g : ℕ) → IsListed edges (place firsts n) g → IsListed (edges ++ e ∷ []) (place new n) g
listed_more firsts new edges e d next says n g was = ⊎_elim
    (λ (same : d ≡ n). subst (λ m. IsListed (edges ++ e ∷ []) (place new m) g) same
    (subst (λ o. IsListed (edges ++ e ∷ []) o g) (sym (written_here (place firsts) (place new) d (Some (length edges)) says))
    (later e (get_last edges e) (listed_kept edges (e ∷ []) e.next g (subst (λ o. IsListed edges o g) (sym next) (subst (λ m. IsListed edges (place firsts m) g) (sym same) was))))))
    (λ (apart : d ≡ n → ⊥). subst (λ o. IsListed (edges ++ e ∷ []) o g) (sym (written_other (place firsts) (place new) d (Some (length edges)) says n apart)) (listed_kept edges (e ∷ []) (place firsts n) g was))
    (cases_eq d n)

-- a mention more lists nobody else
get_before : (edges : List Edge) (e : Edge) (k : ℕ) (f : Edge) → k < length edges → slice_get (edges ++ e ∷ []) k ≡ Some f → slice_get edges k ≡ Some f
get_before edges e k f below is = sort (get_push edges e k f is)
  where
    sort : (slice_get edges k ≡ Some f) ⊎ ((k ≡ length edges) × (e ≡ f)) → slice_get edges k ≡ Some f
    sort (inl was) = was
    sort (inr x) = absurd (omega (arith, below, x.0))

-- a list is its first mention and those that it leads to
pub listed_next : (edges : List Edge) (o : Option ℕ) (k g : ℕ) (e : Edge) → o ≡ Some k → slice_get edges k ≡ Some e → IsListed edges o g → (e.group ≡ g) ⊎ IsListed edges e.next g
listed_next edges o k g e at is (here {k = n} f found same) =
    let e_f : f ≡ e = same_Some f e (sym (subst (λ m. slice_get edges m ≡ Some f) (same_Some n k at) found) ∙ is) in
    inl (ap (λ (x : Edge). x.group) (sym e_f) ∙ same)
listed_next edges o k g e at is (later {k = n} f found rest) =
    let e_f : f ≡ e = same_Some f e (sym (subst (λ m. slice_get edges m ≡ Some f) (same_Some n k at) found) ∙ is) in
    inr (subst (λ (x : Edge). IsListed edges x.next g) e_f rest)

module _ (edges : List Edge) (e : Edge) (falls : (k j : ℕ) (f : Edge) → slice_get edges k ≡ Some f → f.next ≡ Some j → j < k) where
  pub listed_before : (o : Option ℕ) (g : ℕ) → ((k : ℕ) → o ≡ Some k → k < length edges) → IsListed (edges ++ e ∷ []) o g → IsListed edges o g
  listed_before o g below (here {k = k} f is same) = here f (get_before edges e k f (below k refl) is) same
  listed_before o g below (later {k = k} f is rest) =
      let was = get_before edges e k f (below k refl) is in
      later f was (listed_before f.next g (λ j next. omega (arith, falls k j f was next, below k refl)) rest)

  pub listed_only : (firsts new : List (Option ℕ)) (d : ℕ) → e.next ≡ place firsts d → ((k n : ℕ) → place firsts n ≡ Some k → k < length edges) → ((n : ℕ) → place new n ≡ (if d == n then Some (length edges) else place firsts n)) → (n g : ℕ) → IsListed (edges ++ e ∷ []) (place new n) g → IsListed edges (place firsts n) g ⊎ ((n ≡ d) × (g ≡ e.group))
  listed_only firsts new d next there says n g is = ⊎_elim
      (λ (same : d ≡ n). mine same (listed_next (edges ++ e ∷ []) (place new d) (length edges) g e (written_here (place firsts) (place new) d (Some (length edges)) says) (get_last edges e) (subst (λ m. IsListed (edges ++ e ∷ []) (place new m) g) (sym same) is)))
      (λ (apart : d ≡ n → ⊥). inl (listed_before (place firsts n) g (λ k at. there k n at) (subst (λ o. IsListed (edges ++ e ∷ []) o g) (written_other (place firsts) (place new) d (Some (length edges)) says n apart) is)))
      (cases_eq d n)
    where
      mine : d ≡ n → (e.group ≡ g) ⊎ IsListed (edges ++ e ∷ []) e.next g → IsListed edges (place firsts n) g ⊎ ((n ≡ d) × (g ≡ e.group))
      mine same (inl x) = inr (sym same, sym x)
      mine same (inr x) = inl (subst (λ m. IsListed edges (place firsts m) g) same (subst (λ o. IsListed edges o g) next (listed_before e.next g (λ k at. there k d (sym next ∙ at)) x)))
