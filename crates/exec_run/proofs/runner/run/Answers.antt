-- The machine starts where the run does, and a run has one end.
use Rattle.std.proofs.Common.{◌∙◌, ap, sym, subst}
use Rattle.std.specs.Prelude.{slice_index}
use Rattle.exec_run.specs.Host.{State}
use Rattle.code_memory.specs.Mapped.{byte_at}
use Rattle.exec_run.specs.Run.{RunsFrom, RunsTo, start}
use Rattle.exec_run.proofs.Runs.{runs_same}
use Rattle.exec_run.proofs.runner.run.Goals as goal

pub run-requires : goal.run-requires
run-requires c = ap (λ (s : State). slice_index s.hart.x 0) c.in_ok-machine.ensures

pub returns : goal.returns
returns c =
    let m = byte_at c.args.image.now in
    let written = c.from_vec.ensures ∙ c.into_output.ensures in
    let runs = subst (λ s. RunsFrom c.args.fuel s c.in_ok-end.end c.run.new.self.output.items) c.in_ok-machine.ensures c.in_ok-end.ensures in
    let ran : RunsTo m c.args.pc c.args.args.now c.args.fuel c.in_ok-end.end c.from_vec.result = subst (λ o. RunsTo m c.args.pc c.args.args.now c.args.fuel c.in_ok-end.end o) (sym written) runs in
    record {
      ran = ran;
      only = λ end output other. runs_same c.args.fuel (start m c.args.pc c.args.args.now) end c.in_ok-end.end output c.from_vec.result other ran;
    }
