-- A book with no queries.
use Rattle.std.proofs.Common.{◌≡◌, List, [], ◌∷◌, length, map, refl, ap, sym, ◌∙◌, subst, arith}
use Rattle.query_book.specs.declared.board.Board.{Board}
use Rattle.query_book.specs.declared.marks.Mark.{Mark}
use Rattle.query_book.specs.Counts.{count}
use Rattle.query_book.specs.Marks.{found_at, one_if}
use Rattle.query_book.specs.Board.{Watches}
use Rattle.query_book.specs.Rows.{Account}
use Rattle.query_book.specs.Rows as rows
use Rattle.query_book.specs.Ledger as book
use Rattle.query_book.specs.Ledger.{Ledger}
use Rattle.query_book.specs.Kept.{ledger, ended_at, IsKept}
use Rattle.query_book.proofs.Marking.{found_past}

no_items : {X : Type 0} (xs : List X) → length xs ≡ 0 → xs ≡ []
no_items [] e = refl
no_items (x ∷ xs) e = absurd (omega (arith, e))

pub kept_nobody : {N : Type 0} (a : Account N) (b : Board) → a ≡ rows.nobody → Watches [] b → b.marks.met ≡ [] → IsKept a b
kept_nobody {N} a b is w none = record {
  ends = ap (λ (x : Account N). length x.ends) is ∙ sym (ap (λ (x : Account N). length x.queries) is);
  armed = ap (λ (x : Account N). length x.armed) is ∙ sym (ap (λ (x : Account N). length x.queries) is);
  watches = subst (λ (x : Account N). Watches x.queries b) (sym is) w;
  met = λ k.
      let c : count k b.marks.met ≡ 0 = ap (λ ks. count k ks) none in
      let e : ended_at a.ends k ≡ 0 = ap (λ (x : Account N). ended_at x.ends k) is in
      let f : one_if (found_at b.marks.marks k) ≡ 0 = ap one_if (found_past b.marks.marks k (omega (arith, w.size))) in
      omega (arith, c, e, f);
}

pub seen_nobody : {N : Type 0} (a : Account N) (b : Board) → a ≡ rows.nobody → Watches [] b → ledger a b ≡ book.nobody
seen_nobody {N} a b is w =
    ap (λ (x : Account N). ledger x b) is
    ∙ ap (λ (ms : List Mark). let l : Ledger N = record { queries = []; ends = []; armed = []; decided = map (λ m. m.found) ms; waits = []; due = [] } in l) (no_items b.marks.marks w.size)
