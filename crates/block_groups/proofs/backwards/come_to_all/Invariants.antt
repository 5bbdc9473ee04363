use Rattle.std.proofs.Common.{take}
use Rattle.block_groups.specs.Backwards.{IsNoted, IsMore}
use Rattle.block_groups.proofs.backwards.come_to_all.Given as goal

abbrev pub invariant-loop-block : goal.invariant-loop-block
invariant-loop-block l = record {
  noted : IsNoted l.search;
  more : IsMore l.initial.search (take l.block-index l.blocks) l.search;
}
