-- Lines with too few or too many words.
use Rattle.std.proofs.Common.{◌≡◌, ℕ, ◌≤◌, ◌<◌, Bool, List, [], ◌∷◌, length, map, Bor, refl, arith}
use Rattle.std.specs.Prelude.{Err}
use Rattle.session_script.specs.declared.error.ScriptWhy.TheVariants.{Count}
use Rattle.session_script.specs.Known.{Known}
use Rattle.session_script.specs.Setup.{tracker_line, file_line, absolute_line, alias_line}
use Rattle.session_script.specs.Client.{move_line, looking_up, run_line}

pub tracker_line_few : (k : Known) (ws : List (Bor (List ℕ))) → length ws < 2 → tracker_line k (map (λ w. w.now) ws) ≡ Err Count
tracker_line_few k [] h = refl
tracker_line_few k (_ ∷ []) h = refl
tracker_line_few k (_ ∷ _ ∷ ws) h = absurd (omega arith)

pub tracker_line_many : (k : Known) (ws : List (Bor (List ℕ))) → 3 ≤ length ws → tracker_line k (map (λ w. w.now) ws) ≡ Err Count
tracker_line_many k [] h = absurd (omega arith)
tracker_line_many k (_ ∷ []) h = absurd (omega arith)
tracker_line_many k (_ ∷ _ ∷ []) h = absurd (omega arith)
tracker_line_many k (_ ∷ _ ∷ _ ∷ ws) h = refl

pub file_line_few : (k : Known) (ws : List (Bor (List ℕ))) → length ws < 3 → file_line k (map (λ w. w.now) ws) ≡ Err Count
file_line_few k [] h = refl
file_line_few k (_ ∷ []) h = refl
file_line_few k (_ ∷ _ ∷ []) h = refl
file_line_few k (_ ∷ _ ∷ _ ∷ ws) h = absurd (omega arith)

pub file_line_many : (k : Known) (ws : List (Bor (List ℕ))) → 4 ≤ length ws → file_line k (map (λ w. w.now) ws) ≡ Err Count
file_line_many k [] h = absurd (omega arith)
file_line_many k (_ ∷ []) h = absurd (omega arith)
file_line_many k (_ ∷ _ ∷ []) h = absurd (omega arith)
file_line_many k (_ ∷ _ ∷ _ ∷ []) h = absurd (omega arith)
file_line_many k (_ ∷ _ ∷ _ ∷ _ ∷ ws) h = refl

pub absolute_line_few : (k : Known) (ws : List (Bor (List ℕ))) → length ws < 2 → absolute_line k (map (λ w. w.now) ws) ≡ Err Count
absolute_line_few k [] h = refl
absolute_line_few k (_ ∷ []) h = refl
absolute_line_few k (_ ∷ _ ∷ ws) h = absurd (omega arith)

pub alias_line_few : (k : Known) (ws : List (Bor (List ℕ))) → length ws < 3 → alias_line k (map (λ w. w.now) ws) ≡ Err Count
alias_line_few k [] h = refl
alias_line_few k (_ ∷ []) h = refl
alias_line_few k (_ ∷ _ ∷ []) h = refl
alias_line_few k (_ ∷ _ ∷ _ ∷ ws) h = absurd (omega arith)

pub alias_line_many : (k : Known) (ws : List (Bor (List ℕ))) → 4 ≤ length ws → alias_line k (map (λ w. w.now) ws) ≡ Err Count
alias_line_many k [] h = absurd (omega arith)
alias_line_many k (_ ∷ []) h = absurd (omega arith)
alias_line_many k (_ ∷ _ ∷ []) h = absurd (omega arith)
alias_line_many k (_ ∷ _ ∷ _ ∷ []) h = absurd (omega arith)
alias_line_many k (_ ∷ _ ∷ _ ∷ _ ∷ ws) h = refl

pub move_line_few : (k : Known) (ws : List (Bor (List ℕ))) → length ws < 2 → move_line k (map (λ w. w.now) ws) ≡ Err Count
move_line_few k [] h = refl
move_line_few k (_ ∷ []) h = refl
move_line_few k (_ ∷ _ ∷ ws) h = absurd (omega arith)

pub move_line_many : (k : Known) (ws : List (Bor (List ℕ))) → 3 ≤ length ws → move_line k (map (λ w. w.now) ws) ≡ Err Count
move_line_many k [] h = absurd (omega arith)
move_line_many k (_ ∷ []) h = absurd (omega arith)
move_line_many k (_ ∷ _ ∷ []) h = absurd (omega arith)
move_line_many k (_ ∷ _ ∷ _ ∷ ws) h = refl

pub run_line_few : (k : Known) (ws : List (Bor (List ℕ))) → length ws < 2 → run_line k (map (λ w. w.now) ws) ≡ Err Count
run_line_few k [] h = refl
run_line_few k (_ ∷ []) h = refl
run_line_few k (_ ∷ _ ∷ ws) h = absurd (omega arith)

pub looking_up_few : (k : Known) (noted : Bool) (ws : List (Bor (List ℕ))) → length ws < 2 → looking_up k noted (map (λ w. w.now) ws) ≡ Err Count
looking_up_few k noted [] h = refl
looking_up_few k noted (_ ∷ []) h = refl
looking_up_few k noted (_ ∷ _ ∷ ws) h = absurd (omega arith)
