-- What is kept is still right.
use Rattle.std.proofs.Common.{subst}
use Rattle.std.specs.Prelude.{IfSome}
use Rattle.exec_run.specs.Decoded.{IsStill}
use Rattle.exec_run.specs.Regions.{with_top}
use Rattle.exec_run.proofs.Still.{kept_still}
use Rattle.exec_run.proofs.memory.RunMemory.kept.Goals as goal

pub returns : goal.returns
returns c =
    let i = c.self.inside in
    subst (λ ss. IfSome c.get.result (λ insn. IsStill ss c.args.at insn)) c.self.view_is
    (kept_still (with_top i.ranges i.stack) i.decoded c.args.at c.get.result c.get.ensures c.requires c.self.invariant.still)
