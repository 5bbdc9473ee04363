-- What is prepared of a graph, whatever names are live.
use Rattle.std.specs.Prelude.{◌≡◌, ◌*◌, ◌≤◌, length}
use Rattle.link_model.specs.Layout.{block_offsets, blocks_end, unit_align}
use Rattle.link_model.specs.declared.graph.LinkGraph.{LinkGraph}
use Rattle.got_stubs.specs.declared.plan.Plan.{Plan}
use Rattle.got_stubs.specs.Marks.{AreMarks}

-- the marks are those of the symbols, and the offsets and the end are those of the blocks
pub record IsPlan (g : LinkGraph) (p : Plan) : Type 0 where
  pub few : length g.symbols ≤ 65536
  pub whole : length p.marks.items ≡ length g.symbols
  pub marks : AreMarks g.edges p.marks.items
  pub offsets : p.offsets.items ≡ block_offsets 0 g.blocks
  pub end : p.end ≡ blocks_end 0 g.blocks
  pub low : p.end ≤ 80 * 1024 * 1024
  pub align : p.align ≡ unit_align g
