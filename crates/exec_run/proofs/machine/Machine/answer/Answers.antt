-- The result is in a0, and the next instruction is next.
use Rattle.std.proofs.Common.{◌≡◌, ◌∙◌, ℕ, List, [], ◌∷◌, suc, set, ap, refl, arith}
use Rattle.std.specs.Prelude.{slice_index}
use Rattle.rv_hart.specs.declared.hart.Hart.{Hart}
use Rattle.rv_hart.specs.Arithmetic.{sum}
use Rattle.rv_hart.specs.Registers.{with_reg}
use Rattle.code_memory.specs.Mapped.{byte_at}
use Rattle.exec_run.proofs.machine.Machine.answer.Goals as goal

pub returns-clause-answered : goal.returns-clause-answered
unfolding with_reg
returns-clause-answered c =
    ap (λ (h : Hart). record { hart = record { pc = sum h.pc 4; x = h.x }; map = byte_at c.args.self.now.memory; output = c.args.self.now.output.items }) c.set_register.ensures

-- another place is as it was
first_kept : (x : List ℕ) (k value : ℕ) → slice_index (set x (suc k) value) 0 ≡ slice_index x 0
first_kept [] k value = refl
first_kept (a ∷ x) k value = refl

pub returns-clause-zero : goal.returns-clause-zero
unfolding with_reg
returns-clause-zero c =
    ap (λ (h : Hart). slice_index h.x 0) c.set_register.ensures ∙ first_kept c.args.self.now.hart.x 9 c.args.value

pub returns-clause-aligned : goal.returns-clause-aligned
unfolding with_reg
returns-clause-aligned c = λ h.
    let same : c.set_register.new.self.pc ≡ c.args.self.now.hart.pc = ap (λ (g : Hart). g.pc) c.set_register.ensures in
    omega (arith, h, same)
