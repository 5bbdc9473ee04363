-- What a call to the host does, case by case.
use Rattle.std.proofs.Common.{◌≡◌, ◌≢◌, ⊎_elim, inr, ℕ, true, false, Option, Some, None, Result, Ok, Err, ◌+◌, ◌<◌, ◌≤◌, List, ◌++◌, length, refl, ap, sym, ◌∙◌, cond, arith}
use Rattle.std.specs.Prelude.{◌==◌, IfOk, IsSome, IsSomeAnd, is_some}
use Rattle.std.proofs.lemmas.Bool.{eq-eqb}
use Rattle.std.proofs.lemmas.Bool.Decides.{eqb_tells}
use Rattle.rv_hart.specs.declared.step.Step.TheVariants.{Ecall}
use Rattle.rv_hart.specs.Arithmetic.{difference}
use Rattle.rv_hart.specs.Map.{Map}
use Rattle.rv_hart.specs.Registers.{reg}
use Rattle.rv_hart.specs.Step.{Stepped, IsStep}
use Rattle.exec_run.specs.declared.host.TheConstants.{OUTPUT_MAX}
use Rattle.exec_run.specs.declared.ran.RunEnd.{RunEnd}
use Rattle.exec_run.specs.declared.ran.RunEnd.TheVariants.{Exited, OutputFull}
use Rattle.exec_run.specs.Bytes.{bytes_from}
use Rattle.exec_run.specs.Host.{State, goes, ends, answered, wrote, write_call, called}
use Rattle.exec_run.specs.Machine.{IsCalled, IsWritten, IsTaken, IsPassed}
use Rattle.exec_run.specs.Run.{after, stepped, is_home}
use Rattle.exec_run.proofs.Regions.{below_is, not_below}

pub not_equal : (a b : ℕ) → a ≢ b → (a == b) ≡ false
not_equal a b apart = ⊎_elim (λ (e : ((a == b) ≡ true) × (a ≡ b)). absurd (apart e.1)) (λ (e : ((a == b) ≡ false) × (a ≢ b)). e.0) (eqb_tells a b)

-- another descriptor
pub write_other : (s : State) → reg s.hart 10 ≢ 1 → write_call s ≡ goes (answered s (difference 0 9))
write_other s apart =
    ap (λ b. cond b (wrote s (bytes_from s.map (reg s.hart 11) (reg s.hart 12))) (goes (answered s (difference 0 9)))) (not_equal (reg s.hart 10) 1 apart)

write_open : (s : State) (o : Option (List ℕ)) → reg s.hart 10 ≡ 1 → bytes_from s.map (reg s.hart 11) (reg s.hart 12) ≡ o → write_call s ≡ wrote s o
write_open s o one is =
    ap (λ b. cond b (wrote s (bytes_from s.map (reg s.hart 11) (reg s.hart 12))) (goes (answered s (difference 0 9)))) (eq-eqb (reg s.hart 10) 1 one) ∙ ap (wrote s) is

-- bytes that aren't all mapped
pub write_unmapped : (s : State) → reg s.hart 10 ≡ 1 → bytes_from s.map (reg s.hart 11) (reg s.hart 12) ≡ None → write_call s ≡ goes (answered s (difference 0 14))
write_unmapped s one none = write_open s None one none

-- more than the output holds
pub write_full : (s : State) (bytes : List ℕ) → reg s.hart 10 ≡ 1 → bytes_from s.map (reg s.hart 11) (reg s.hart 12) ≡ Some bytes → OUTPUT_MAX < length s.output + length bytes → write_call s ≡ ends OutputFull
write_full s bytes one there more =
    write_open s (Some bytes) one there
    ∙ ap (λ b. cond b (ends OutputFull) (goes (record (answered s (length bytes)) { output = s.output ++ bytes }))) (below_is OUTPUT_MAX (length s.output + length bytes) more)

-- these bytes
pub write_done : (s : State) (bytes : List ℕ) → reg s.hart 10 ≡ 1 → bytes_from s.map (reg s.hart 11) (reg s.hart 12) ≡ Some bytes → length s.output + length bytes ≤ OUTPUT_MAX → write_call s ≡ goes (record (answered s (length bytes)) { output = s.output ++ bytes })
write_done s bytes one there within =
    write_open s (Some bytes) one there
    ∙ ap (λ b. cond b (ends OutputFull) (goes (record (answered s (length bytes)) { output = s.output ++ bytes }))) (not_below OUTPUT_MAX (length s.output + length bytes) within)

-- the calls by their numbers
pub call_exit : (s : State) → reg s.hart 17 ≡ 93 → called s ≡ ends (Exited (reg s.hart 10))
call_exit s is = ap (λ b. cond b (ends (Exited (reg s.hart 10))) (cond (reg s.hart 17 == 64) (write_call s) (goes (answered s (difference 0 38))))) (eq-eqb (reg s.hart 17) 93 is)

call_on : (s : State) → reg s.hart 17 ≢ 93 → called s ≡ cond (reg s.hart 17 == 64) (write_call s) (goes (answered s (difference 0 38)))
call_on s apart = ap (λ b. cond b (ends (Exited (reg s.hart 10))) (cond (reg s.hart 17 == 64) (write_call s) (goes (answered s (difference 0 38))))) (not_equal (reg s.hart 17) 93 apart)

pub call_write : (s : State) → reg s.hart 17 ≡ 64 → called s ≡ write_call s
call_write s is =
    call_on s (λ e. let no : 64 ≡ 93 = sym is ∙ e in omega arith) ∙ ap (λ b. cond b (write_call s) (goes (answered s (difference 0 38)))) (eq-eqb (reg s.hart 17) 64 is)

pub call_none : (s : State) → reg s.hart 17 ≢ 93 → reg s.hart 17 ≢ 64 → called s ≡ goes (answered s (difference 0 38))
call_none s apart away = call_on s apart ∙ ap (λ b. cond b (write_call s) (goes (answered s (difference 0 38)))) (not_equal (reg s.hart 17) 64 away)

-- a write is the call that was asked for, and a call is the turn
pub called_of : {E : Type 0} (r : Result (Option RunEnd) E) (old new : State) → called old ≡ write_call old → IfOk r (λ end. IsWritten old end new) → IfOk r (λ end. IsCalled old end new)
called_of (Ok None) old new is h = is ∙ h
called_of (Ok (Some e)) old new is h = (is ∙ h.0, h.1)
called_of (Err e) old new is h = tt

pub taken_of : {E : Type 0} (r : Result (Option RunEnd) E) (old new : State) (d : Stepped) → IsStep old.hart old.map d → d.answer ≡ Ecall → IfOk r (λ end. IsCalled (stepped old d) end new) → IfOk r (λ end. IsTaken old end new)
taken_of (Ok None) old new d step call h = record { done = d; is_step = step; leads = sym h ∙ sym (ap (after (stepped old d)) call) }
taken_of (Ok (Some e)) old new d step call h = (record { done = d; is_step = step; leads = sym h.0 ∙ sym (ap (after (stepped old d)) call) }, h.1)
taken_of (Err e) old new d step call h = tt

pub passed_of : {E : Type 0} (r : Result (Option RunEnd) E) (old new : State) → is_home old ≡ false → IfOk r (λ end. IsTaken old end new) → IfOk r (λ end. IsPassed old end new)
passed_of (Ok None) old new away h = record { away = away; taken = h }
passed_of (Ok (Some e)) old new away h = inr (record { away = away; taken = h })
passed_of (Err e) old new away h = tt

-- the bytes that the registers name
pub at_registers : (map : Map) (a b x y : ℕ) (o : Option (List ℕ)) → a ≡ x → b ≡ y → bytes_from map a b ≡ o → bytes_from map x y ≡ o
at_registers map a b x y o p q h = sym (ap (λ k. bytes_from map k b) p ∙ ap (bytes_from map x) q) ∙ h

pub not_some : (o : Option (List ℕ)) → (is_some o ≡ true → ⊥) → o ≡ None
not_some None h = refl
not_some (Some x) h = absurd (h refl)

pub some_bytes : (o : Option (List ℕ)) → IsSome o → (bytes : List ℕ) × (o ≡ Some bytes)
some_bytes None h = absurd cc
some_bytes (Some bytes) h = (bytes, refl)

pub some_fact : (o : Option (List ℕ)) (P : List ℕ → Type 0) → IsSomeAnd o P → (bytes : List ℕ) × (o ≡ Some bytes) × P bytes
some_fact None P h = absurd h
some_fact (Some bytes) P h = (bytes, refl, h)
