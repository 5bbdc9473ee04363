-- What one match less does to the marks.
use Rattle.std.proofs.Common.{◌≡◌, ◌≢◌, ⊎_elim, ℕ, true, false, Some, ◌-◌, ◌<◌, List, length, set, ap, sym, ◌∙◌, cond, arith, length-set}
use Rattle.std.specs.Prelude.{◌==◌, slice_get}
use Rattle.std.proofs.lemmas.Bool.Decides.{eqb_tells}
use Rattle.query_book.specs.declared.marks.Mark.{Mark}
use Rattle.query_book.specs.Marks.{left_at, found_at, one_if, IsMarked}
use Rattle.query_book.proofs.Marking.{left_set, left_read, found_set, found_read}

pub left_less : (marks : List Mark) (at k : ℕ) (m old : Mark) → at < length marks → slice_get marks at ≡ Some old → m.left ≡ old.left - 1 → left_at (set marks at m) k ≡ left_at marks k - one_if (at == k)
left_less marks at k m old less is same =
    left_set marks at k m less ∙
    ⊎_elim (λ (e : ((at == k) ≡ true) × (at ≡ k)).
    ap (λ b. cond b m.left (left_at marks k)) e.0 ∙ same ∙ ap (λ n. n - 1) (sym (left_read marks at old is) ∙ ap (λ j. left_at marks j) e.1)
    ∙ sym (ap (λ b. left_at marks k - one_if b) e.0))
    (λ (e : ((at == k) ≡ false) × (at ≢ k)).
    ap (λ b. cond b m.left (left_at marks k)) e.0 ∙ (omega arith) ∙ sym (ap (λ b. left_at marks k - one_if b) e.0))
    (eqb_tells at k)

pub founds_kept : (marks : List Mark) (at k : ℕ) (m old : Mark) → at < length marks → slice_get marks at ≡ Some old → m.found ≡ old.found → found_at (set marks at m) k ≡ found_at marks k
founds_kept marks at k m old less is same =
    found_set marks at k m less ∙
    ⊎_elim (λ (e : ((at == k) ≡ true) × (at ≡ k)). ap (λ b. cond b m.found (found_at marks k)) e.0 ∙ same ∙ sym (found_read marks at old is) ∙ ap (λ j. found_at marks j) e.1)
    (λ (e : ((at == k) ≡ false) × (at ≢ k)). ap (λ b. cond b m.found (found_at marks k)) e.0)
    (eqb_tells at k)

pub marked_less : (marks : List Mark) (met : List ℕ) (room at : ℕ) (m old : Mark) → IsMarked marks met room → at < length marks → slice_get marks at ≡ Some old → m.found ≡ old.found → IsMarked (set marks at m) met room
marked_less marks met room at m old is_marked less is same = record {
  listed = λ k. let e : one_if (found_at (set marks at m) k) ≡ one_if (found_at marks k) = ap one_if (founds_kept marks at k m old less is same) in omega (arith, e, is_marked.listed k);
  fits = let n : length (set marks at m) ≡ length marks = length-set marks at m in omega (arith, n, is_marked.fits);
}
