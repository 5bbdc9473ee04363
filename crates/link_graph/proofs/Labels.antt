-- The labels of the first edges, and what the edges after them add.
use Rattle.std.proofs.Common.{◌≡◌, ℕ, zero, suc, ◌+◌, ◌<◌, Bool, true, false, cond, ◌&&◌, ◌||◌, ◌==◌, List, [], ◌∷◌, length, get_or, drop, refl, sym, ap, ◌∙◌, add-one, arith}
use Rattle.std.specs.List.{list_any}
use Rattle.link_model.specs.declared.graph.Edge.{Edge}
use Rattle.link_model.specs.Image.{is_upper}
use Rattle.link_graph.specs.Parts.{has_label, stands_at, is_upper_at}
use Rattle.link_graph.specs.declared.pairs.Label.{Label}

-- some element from a place on passes
any_drop_suc : {X : Type 0} (p : X → Bool) (xs : List X) (k : ℕ) (d : X) → k < length xs → list_any p (drop k xs) ≡ (p (get_or xs k d) || list_any p (drop (suc k) xs))
any_drop_suc p [] k d lt = absurd (omega arith)
any_drop_suc p (x ∷ xs) zero d lt = refl
any_drop_suc p (x ∷ xs) (suc k) d lt = any_drop_suc p xs k d (omega arith)

any_drop : {X : Type 0} (p : X → Bool) (xs : List X) (k : ℕ) (d : X) → k < length xs → list_any p (drop k xs) ≡ (p (get_or xs k d) || list_any p (drop (k + 1) xs))
any_drop p xs k d lt = rw (add-one k) (any_drop_suc p xs k d lt)

taken_in : (old new rest all upper here : Bool) → upper ≡ true → new ≡ cond here true old → (old || ((upper && here) || rest)) ≡ all → (new || rest) ≡ all
taken_in old new rest all false here u n h = absurd cc
taken_in true new rest all true true u n h = rw n h
taken_in false new rest all true true u n h = rw n h
taken_in old new rest all true false u n h = rw n h

left_out : (old rest all upper here : Bool) → upper ≡ false → (old || ((upper && here) || rest)) ≡ all → (old || rest) ≡ all
left_out old rest all true here u h = absurd cc
left_out old rest all false here u h = h

pub upper_added : (old new : List Label) (edges : List Edge) (k : ℕ) (d : Edge) (block offset : ℕ) → k < length edges → is_upper (get_or edges k d).kind ≡ true → has_label new block offset ≡ cond ((get_or edges k d).block == block && (get_or edges k d).offset == offset) true (has_label old block offset) → (has_label old block offset || stands_at (drop k edges) block offset) ≡ stands_at edges block offset → (has_label new block offset || stands_at (drop (k + 1) edges) block offset) ≡ stands_at edges block offset
upper_added old new edges k d block offset lt upper grows so_far =
    taken_in (has_label old block offset) _ _ _ (is_upper (get_or edges k d).kind) _ upper grows
    (ap (λ (b : Bool). has_label old block offset || b) (sym (any_drop (is_upper_at block offset) edges k d lt)) ∙ so_far)

pub other_passed : (old : List Label) (edges : List Edge) (k : ℕ) (d : Edge) (block offset : ℕ) → k < length edges → is_upper (get_or edges k d).kind ≡ false → (has_label old block offset || stands_at (drop k edges) block offset) ≡ stands_at edges block offset → (has_label old block offset || stands_at (drop (k + 1) edges) block offset) ≡ stands_at edges block offset
other_passed old edges k d block offset lt upper so_far =
    left_out (has_label old block offset) _ _ (is_upper (get_or edges k d).kind) ((get_or edges k d).block == block && (get_or edges k d).offset == offset) upper
    (ap (λ (b : Bool). has_label old block offset || b) (sym (any_drop (is_upper_at block offset) edges k d lt)) ∙ so_far)
