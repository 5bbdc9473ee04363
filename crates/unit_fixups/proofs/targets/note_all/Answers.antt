use Rattle.std.proofs.Common.{arith, ◌-◌, rules}
use Rattle.unit_fixups.proofs.Told.{offset_step}
use Rattle.unit_fixups.proofs.targets.note_all.Goals as goal

pub loop-k-preserved : goal.loop-k-preserved
loop-k-preserved c =
    let within = c.requires.there (c.loop-k.k - 1) (0, 0) (omega (arith, c.loop-k.auto.k, c.loop-k-test.true)) in (
      search rules,
      λ s. offset_step c.args.pairs.now c.loop-k.table (c.loop-k.k - 1) c.loop-k.k s (0, 0)
          (omega (arith, c.loop-k.auto.k, c.loop-k-test.true)) (omega (arith, c.loop-k-test.true)) (omega (arith, within, c.loop-k.invariant.0)) (c.loop-k.invariant.1 s),
    )
