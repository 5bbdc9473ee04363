use Rattle.std.proofs.Common.{refl}
use Rattle.rv_hart.specs.Parts.{hart_of}
use Rattle.rv_hart.specs.Map.{read}
use Rattle.rv_hart.proofs.Registers.{stores_done}
use Rattle.rv_hart.proofs.step.store.Goals as goal

pub returns-then-store-clause-turn : goal.returns-then-store-clause-turn
returns-then-store-clause-turn g c =
    let map = g.M.Memory.bytes c.args.memory.now in
    λ x.
    stores_done (read map c.args.at c.args.width) (hart_of c.args.pc.now x) map (g.M.Memory.bytes c.store.new.self) c.args.at c.args.width c.args.value _ (c.if-store.ensures.mapped.0 refl) c.if-store.ensures.done (c.pass.ensures.turn x)
