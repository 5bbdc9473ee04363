-- How a run goes on turn by turn, and that it has one end.
use Rattle.std.proofs.Common.{◌≡◌, ◌≢◌, ◌⊎◌, ⊎_elim, ◌%◌, ℕ, Bool, true, false, Some, List, zero, suc, refl, ap, sym, ◌∙◌, cond, subst, arith}
use Rattle.std.specs.Bool.{MatchBool}
use Rattle.rv_hart.specs.declared.hart.Hart.{Hart}
use Rattle.rv_hart.specs.Map.{Map}
use Rattle.rv_hart.specs.Registers.{reg}
use Rattle.std.specs.Prelude.{◌==◌, if◌then◌else◌}
use Rattle.rv_hart.specs.declared.step.Cause.TheVariants.{Illegal, Misaligned}
use Rattle.rv_hart.specs.Step.{Stepped, IsStep, misaligned, unmapped, fits, illegal, row_of, over, trapped}
use Rattle.rv_insn.specs.Rows.{Fits}
use Rattle.rv_insn.proofs.OneInsn.{one_insn}
use Rattle.exec_run.specs.declared.ran.RunEnd.{RunEnd}
use Rattle.exec_run.specs.declared.ran.RunEnd.TheVariants.{Exited, OutOfFuel, Trap}
use Rattle.exec_run.specs.Host.{State, Turn, goes, ends}
use Rattle.exec_run.proofs.Calls.{not_equal}
use Rattle.exec_run.specs.Machine.{IsPassed, IsHome, IsAway}
use Rattle.exec_run.specs.Run.{IsTurn, IsEnd, Continues, is_home, after, stepped, RunsFrom}

pub runs_home : (n : ℕ) (s : State) → is_home s ≡ true → RunsFrom n s (Exited (reg s.hart 10)) s.output
unfolding RunsFrom
runs_home zero s home = subst (λ b. MatchBool b (IsEnd s (Exited (reg s.hart 10)) (Exited (reg s.hart 10)) s.output) (IsEnd s OutOfFuel (Exited (reg s.hart 10)) s.output)) (sym home) (record { end_is = refl; output_is = refl })
runs_home (suc n) s home = subst (λ b. MatchBool b (IsEnd s (Exited (reg s.hart 10)) (Exited (reg s.hart 10)) s.output) ((t : Turn) × IsTurn s t × Continues (λ next. RunsFrom n next (Exited (reg s.hart 10)) s.output) s (Exited (reg s.hart 10)) s.output t)) (sym home) (record { end_is = refl; output_is = refl })

pub runs_out : (n : ℕ) (s : State) → n ≡ zero → is_home s ≡ false → RunsFrom n s OutOfFuel s.output
unfolding RunsFrom
runs_out n s none away =
    subst (λ k. RunsFrom k s OutOfFuel s.output) (sym none)
    (subst (λ b. MatchBool b (IsEnd s (Exited (reg s.hart 10)) OutOfFuel s.output) (IsEnd s OutOfFuel OutOfFuel s.output)) (sym away) (record { end_is = refl; output_is = refl }))

runs_suc : (n : ℕ) (s : State) (t : Turn) (end : RunEnd) (output : List ℕ) → is_home s ≡ false → IsTurn s t → Continues (λ next. RunsFrom n next end output) s end output t → RunsFrom (suc n) s end output
unfolding RunsFrom
runs_suc n s t end output away turn rest =
    subst (λ b. MatchBool b (IsEnd s (Exited (reg s.hart 10)) end output) ((t : Turn) × IsTurn s t × Continues (λ next. RunsFrom n next end output) s end output t)) (sym away) (t, turn, rest)

pub runs_turn : (n m : ℕ) (s next : State) (end : RunEnd) (output : List ℕ) → n ≡ suc m → is_home s ≡ false → IsTurn s (goes next) → RunsFrom m next end output → RunsFrom n s end output
runs_turn n m s next end output more away turn rest =
    subst (λ k. RunsFrom k s end output) (sym more) (runs_suc m s (goes next) end output away turn rest)

pub runs_end : (n m : ℕ) (s : State) (end : RunEnd) (output : List ℕ) → n ≡ suc m → is_home s ≡ false → IsTurn s (ends end) → output ≡ s.output → RunsFrom n s end output
runs_end n m s end output more away turn same =
    subst (λ k. RunsFrom k s end output) (sym more) (runs_suc m s (ends end) end output away turn (record { end_is = refl; output_is = same }))

-- a hart does one thing in a state
some_same : (a b : ℕ) → Some a ≡ Some b → a ≡ b
some_same a b e = cc

pub step_same : (hart : Hart) (map : Map) (d e : Stepped) → IsStep hart map d → IsStep hart map e → d ≡ e
step_same hart map d e (misaligned never x) (misaligned never' y) = x ∙ sym y
step_same hart map d e (misaligned never x) (unmapped even none y) = absurd (never even)
step_same hart map d e (misaligned never x) (fits even word is insn fit y) = absurd (never even)
step_same hart map d e (misaligned never x) (illegal even word is none y) = absurd (never even)
step_same hart map d e (unmapped even none x) (misaligned never y) = absurd (never even)
step_same hart map d e (unmapped even none x) (unmapped even' none' y) = x ∙ sym y
step_same hart map d e (unmapped even none x) (fits even' word is insn fit y) = absurd cc
step_same hart map d e (unmapped even none x) (illegal even' word is none' y) = absurd cc
step_same hart map d e (fits even word is insn fit x) (misaligned never y) = absurd (never even)
step_same hart map d e (fits even word is insn fit x) (unmapped even' none y) = absurd cc
step_same hart map d e (fits even word is insn fit x) (fits even' word' is' insn' fit' y) =
    let same : word' ≡ word = some_same word' word (sym is' ∙ is) in
    let one : insn' ≡ insn = one_insn insn insn' word fit (subst (Fits insn') same fit') in
    x ∙ ap (λ i. row_of i hart map) (sym one) ∙ sym y
step_same hart map d e (fits even word is insn fit x) (illegal even' word' is' none y) =
    let same : word ≡ word' = some_same word word' (sym is ∙ is') in
    absurd (none insn (subst (Fits insn) same fit))
step_same hart map d e (illegal even word is none x) (misaligned never y) = absurd (never even)
step_same hart map d e (illegal even word is none x) (unmapped even' none' y) = absurd cc
step_same hart map d e (illegal even word is none x) (fits even' word' is' insn fit y) =
    let same : word' ≡ word = some_same word' word (sym is' ∙ is) in
    absurd (none insn (subst (Fits insn) same fit))
step_same hart map d e (illegal even word is none x) (illegal even' word' is' none' y) =
    let same : word' ≡ word = some_same word' word (sym is' ∙ is) in
    x ∙ ap (λ w. over map (trapped hart (Illegal w))) (sym same) ∙ sym y

pub turn_same : (s : State) (t u : Turn) → IsTurn s t → IsTurn s u → t ≡ u
turn_same s t u a b =
    let same : a.done ≡ b.done = step_same s.hart s.map a.done b.done a.is_step b.is_step in
    a.leads ∙ ap (λ (d : Stepped). after (stepped s d) d.answer) same ∙ sym b.leads

-- a run has one end
end_same : (s : State) (e end end' : RunEnd) (output output' : List ℕ) → IsEnd s e end output → IsEnd s e end' output' → (end ≡ end') × (output ≡ output')
end_same s e end end' output output' a b = (a.end_is ∙ sym b.end_is, a.output_is ∙ sym b.output_is)

-- two rests of a run with one end
abbrev SameRest : (State → RunEnd → List ℕ → Type 0) → RunEnd → RunEnd → List ℕ → List ℕ → Type 0
SameRest Rest end end' output output' = (next : State) → Rest next end output → Rest next end' output' → (end ≡ end') × (output ≡ output')

follow : (Rest : State → RunEnd → List ℕ → Type 0) (s : State) (end end' : RunEnd) (output output' : List ℕ) (t : Turn) → SameRest Rest end end' output output' →
    Continues (λ next. Rest next end output) s end output t → Continues (λ next. Rest next end' output') s end' output' t → (end ≡ end') × (output ≡ output')
follow Rest s end end' output output' (goes next) again a b = again next a b
follow Rest s end end' output output' (ends e) again a b = end_same s e end end' output output' a b

out_same : (s : State) (end end' : RunEnd) (output output' : List ℕ) (h : Bool) → MatchBool h (IsEnd s (Exited (reg s.hart 10)) end output) (IsEnd s OutOfFuel end output) →
    MatchBool h (IsEnd s (Exited (reg s.hart 10)) end' output') (IsEnd s OutOfFuel end' output') → (end ≡ end') × (output ≡ output')
out_same s end end' output output' true a b = end_same s (Exited (reg s.hart 10)) end end' output output' a b
out_same s end end' output output' false a b = end_same s OutOfFuel end end' output output' a b

turns_same : (Rest : State → RunEnd → List ℕ → Type 0) (s : State) (end end' : RunEnd) (output output' : List ℕ) (h : Bool) → SameRest Rest end end' output output' →
    MatchBool h (IsEnd s (Exited (reg s.hart 10)) end output) ((t : Turn) × IsTurn s t × Continues (λ next. Rest next end output) s end output t) →
    MatchBool h (IsEnd s (Exited (reg s.hart 10)) end' output') ((t : Turn) × IsTurn s t × Continues (λ next. Rest next end' output') s end' output' t) → (end ≡ end') × (output ≡ output')
turns_same Rest s end end' output output' true again a b = end_same s (Exited (reg s.hart 10)) end end' output output' a b
turns_same Rest s end end' output output' false again a b =
    follow Rest s end end' output output' a.0 again a.2 (subst (Continues (λ next. Rest next end' output') s end' output') (turn_same s b.0 a.0 b.1 a.1) b.2)

pub runs_same : (n : ℕ) (s : State) (end end' : RunEnd) (output output' : List ℕ) → RunsFrom n s end output → RunsFrom n s end' output' → (end ≡ end') × (output ≡ output')
unfolding RunsFrom
runs_same zero s end end' output output' a b = out_same s end end' output output' (is_home s) a b
runs_same (suc n) s end end' output output' a b =
    turns_same (λ next e o. RunsFrom n next e o) s end end' output output' (is_home s) (λ next x y. runs_same n next end end' output output' x y) a b

-- a run that ends here, at home or by a turn
pub runs_over : (n m : ℕ) (s new : State) (e : RunEnd) → n ≡ suc m → IsPassed s (Some e) new → RunsFrom n s e new.output
runs_over n m s new e more passed =
    ⊎_elim (λ (h : IsHome s e new). subst (λ o. RunsFrom n s e o) (sym h.same) (subst (λ x. RunsFrom n s x s.output) (sym h.exited) (runs_home n s h.home)))
    (λ (h : IsAway s (Some e) new). let taken = h.taken in runs_end n m s e new.output more h.away taken.0 taken.1) passed

-- a run that begins where no instruction can stand
pub runs_misaligned : (n : ℕ) (s : State) → s.hart.pc % 4 ≢ 0 → is_home s ≡ false → RunsFrom n s (if n == 0 then OutOfFuel else Trap s.hart.pc (Misaligned s.hart.pc)) s.output
runs_misaligned zero s odd away = runs_out zero s refl away
runs_misaligned (suc n) s odd away =
    let more : (suc n == 0) ≡ false = not_equal (suc n) 0 (λ e. let no : ⊥ = omega (arith, e) in no) in
    subst (λ b. RunsFrom (suc n) s (cond b OutOfFuel (Trap s.hart.pc (Misaligned s.hart.pc))) s.output) (sym more)
    (runs_end (suc n) n s (Trap s.hart.pc (Misaligned s.hart.pc)) s.output refl away
    (record { done = over s.map (trapped s.hart (Misaligned s.hart.pc)); is_step = misaligned odd refl; leads = refl }) refl)
