-- One step of a loop over words: what is made of them, and the table of names that they complete.
use Rattle.std.proofs.Common.{◌≡◌, ℕ, ◌+◌, ◌<◌, List, [], ◌∷◌, ◌++◌, length, get_or, drop, map, Bor, sym, ◌∙◌, ap, add-one, append_assoc}
use Rattle.std.proofs.Math.Seq.{drop-cons}
use Rattle.session_script.specs.Texts.{number_of, mentioned, all_mentioned}
use Rattle.session_script.proofs.TextNumbers.{number_stays}

-- the words from a place on are the word there and those after it
words_from : (ws : List (Bor (List ℕ))) (i : ℕ) (d : Bor (List ℕ)) → i < length ws → map (λ w. w.now) (drop i ws) ≡ (get_or ws i d).now ∷ map (λ w. w.now) (drop (i + 1) ws)
words_from ws i d h = rw add-one (ap (map (λ w. w.now)) (drop-cons ws i d h))

-- what was made so far gains what is made of one more word
pub one_more : {X : Type 0} (f : List ℕ → X) (ws : List (Bor (List ℕ))) (i : ℕ) (d : Bor (List ℕ)) (all : List X) (x : X) (new whole : List X) → i < length ws → new ≡ all ++ x ∷ [] → x ≡ f ((get_or ws i d).now) → all ++ map f (map (λ w. w.now) (drop i ws)) ≡ whole → new ++ map f (map (λ w. w.now) (drop (i + 1) ws)) ≡ whole
one_more f ws i d all x new whole h pushed made so_far =
    ap (λ xs. xs ++ map f (map (λ w. w.now) (drop (i + 1) ws))) pushed
    ∙ append_assoc all (x ∷ []) (map f (map (λ w. w.now) (drop (i + 1) ws)))
    ∙ ap (λ y. all ++ (y ∷ map f (map (λ w. w.now) (drop (i + 1) ws)))) made
    ∙ sym (ap (λ xs. all ++ map f xs) (words_from ws i d h))
    ∙ so_far

-- the later words complete the table once one more is mentioned
pub next_table : (part : List ℕ → List ℕ) (ws : List (Bor (List ℕ))) (i : ℕ) (d : Bor (List ℕ)) (names new whole : List (List ℕ)) → i < length ws → new ≡ mentioned (part ((get_or ws i d).now)) names → all_mentioned (map part (map (λ w. w.now) (drop i ws))) names ≡ whole → all_mentioned (map part (map (λ w. w.now) (drop (i + 1) ws))) new ≡ whole
next_table part ws i d names new whole h mentioning so_far =
    ap (all_mentioned (map part (map (λ w. w.now) (drop (i + 1) ws)))) mentioning
    ∙ sym (ap (λ xs. all_mentioned (map part xs) names) (words_from ws i d h))
    ∙ so_far

-- a name has its number in the whole table from its mention on
pub number_in_whole : (part : List ℕ → List ℕ) (ws : List (Bor (List ℕ))) (i : ℕ) (d : Bor (List ℕ)) (names new whole : List (List ℕ)) → i < length ws → new ≡ mentioned (part ((get_or ws i d).now)) names → all_mentioned (map part (map (λ w. w.now) (drop i ws))) names ≡ whole → number_of (part ((get_or ws i d).now)) new ≡ number_of (part ((get_or ws i d).now)) whole
number_in_whole part ws i d names new whole h mentioning so_far =
    ap (number_of (part ((get_or ws i d).now))) mentioning
    ∙ sym (number_stays (part ((get_or ws i d).now)) (map part (map (λ w. w.now) (drop (i + 1) ws))) names)
    ∙ ap (number_of (part ((get_or ws i d).now))) (sym (ap (λ xs. all_mentioned (map part xs) names) (words_from ws i d h)) ∙ so_far)
