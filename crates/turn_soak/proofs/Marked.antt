-- What a seat knows after a turn with a mark.
use Rattle.std.proofs.Common.{◌≡◌, ℕ, List, [], ◌∷◌, ◌++◌, sym, ap, ◌∙◌, Result, Ok, Err}
use Rattle.std.proofs.lemmas.List.{append_cancel_left}
use Rattle.std.specs.Prelude.{OnOk, OnErr}
use Rattle.turn_lock.specs.declared.view.View.{View}
use Rattle.turn_lock.specs.Passes.{Turned}
use Rattle.turn_soak.specs.declared.roll.Mark.{Mark}
use Rattle.turn_soak.specs.Turns.{Took, mark}

module _ (seat_of : Mark → ℕ) (lawful : List Mark → Type 0) (posted : List Mark → ℕ → ℕ → Type 0) where
  took_one : (nth : ℕ) (v w : View Mark) (does : List Mark → List Mark → Type 0) (t : Turned seat_of lawful posted v w does) → t.new ≡ t.old ++ mark v.number nth ∷ [] → Took nth v w
  took_one nth v w does t marked = let it : List Mark = mark v.number nth ∷ [] in
      let one : t.passed.more ≡ it = append_cancel_left t.old t.passed.more it (sym t.passed.grown ∙ marked) in record {
        before = t.old;
        later = t.passed.shows.later;
        seen = ap (λ (x : View Mark). x.seen) t.passed.view ∙ marked;
        mine = ap (λ (x : View Mark). x.mine) t.passed.view ∙ ap (λ (l : List Mark). v.mine ++ l) one;
      }

  -- the mark that a turn made is the one entry more of its seat's own
  pub took : {A B : Type 0} (nth : ℕ) (v w : View Mark) (answer : Result A B)
      → Turned seat_of lawful posted v w (λ old new. OnOk answer (new ≡ old ++ mark v.number nth ∷ []) × OnErr answer (new ≡ old)) → OnOk answer (Took nth v w)
  took nth v w (Ok a) t = took_one nth v w _ t t.did.0
  took nth v w (Err b) t = tt
