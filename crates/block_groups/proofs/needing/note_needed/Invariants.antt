use Rattle.std.proofs.Common.{◌≡◌, take, length}
use Rattle.block_groups.specs.Backwards.{IsClear}
use Rattle.block_groups.specs.Members.{AreDeps}
use Rattle.block_groups.proofs.needing.note_needed.Given as goal

abbrev pub invariant-loop-k : goal.invariant-loop-k
invariant-loop-k l = record {
  clear : IsClear l.search;
  whole : length l.search.seen.items ≡ length l.g.blocks;
  deps : AreDeps l.g l.live (take l.k l.externals) (take l.k l.bound) l.lists;
}
