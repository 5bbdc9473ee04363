-- What runs on from here is what runs from the start, x0 is kept 0, and the program counter aligned.
use Rattle.std.proofs.Common.{◌≡◌, ◌-◌, ◌%◌, ℕ, List}
use Rattle.std.specs.Prelude.{slice_index}
use Rattle.exec_run.specs.declared.ran.RunEnd.{RunEnd}
use Rattle.exec_run.specs.Machine.{state_of, state_at}
use Rattle.exec_run.specs.Run.{RunsFrom}
use Rattle.exec_run.proofs.machine.Machine.run.Given as goal

abbrev pub invariant-loop-turn : goal.invariant-loop-turn
invariant-loop-turn l = record {
  runs : (end : RunEnd) (output : List ℕ) → RunsFrom (l.fuel - l._turn) (state_at l.pc l.self) end output → RunsFrom l.fuel (state_of l.fn.self) end output;
  zero : slice_index l.self.hart.x 0 ≡ 0;
  aligned : l.pc % 4 ≡ 0;
}
