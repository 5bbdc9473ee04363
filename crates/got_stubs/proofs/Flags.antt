-- Flags one after another, and the numbers that pass.
use Rattle.std.proofs.Common.{◌≡◌, ℕ, zero, suc, ◌+◌, ◌<◌, ◌≤◌, Bool, true, false, cond, List, [], ◌∷◌, length, drop, refl, sym, ap, ◌∙◌, add-one, arith}
use Rattle.link_model.specs.Graph.{other_flags, numbers_where}

pub other_flags-drop : (live : List Bool) (n : ℕ) → other_flags (drop n live) ≡ drop (n + 1) live
other_flags-drop live n = go live n ∙ ap (λ (k : ℕ). drop k live) (sym (add-one n))
  where
    go : (live : List Bool) (n : ℕ) → other_flags (drop n live) ≡ drop (suc n) live
    go [] zero = refl
    go [] (suc n) = refl
    go (b ∷ bs) zero = refl
    go (b ∷ bs) (suc n) = go bs n

-- no more numbers pass than there are flags
pub length-numbers_where : (test : ℕ → Bool → Bool) (k : ℕ) (bs : List Bool) → length (numbers_where test k bs) ≤ length bs
length-numbers_where test k [] = omega arith
length-numbers_where test k (b ∷ bs) = either (test k b) (length-numbers_where test (k + 1) bs)
  where
    either : (t : Bool) → length (numbers_where test (k + 1) bs) ≤ length bs → length (cond t (k ∷ numbers_where test (k + 1) bs) (numbers_where test (k + 1) bs)) ≤ suc (length bs)
    either true h = omega arith
    either false h = omega arith

-- two tests that agree on the numbers let the same pass
pub numbers_where-same : (test other : ℕ → Bool → Bool) (k : ℕ) (bs : List Bool) → ((s : ℕ) (b : Bool) → s < k + length bs → test s b ≡ other s b) → numbers_where test k bs ≡ numbers_where other k bs
numbers_where-same test other k [] h = refl
numbers_where-same test other k (b ∷ bs) h =
    let rest = numbers_where-same test other (k + 1) bs (λ s c lt. h s c (omega arith)) in
    rw (h k b (omega arith), rest) refl
