use Rattle.std.proofs.Common.{◌≡◌, drop, map}
use Rattle.std.specs.Prelude.{slice_index}
use Rattle.link_model.specs.Image.{edge_write, all_written, first_refused}
use Rattle.unit_fixups.specs.Tables.{address_in}
use Rattle.unit_fixups.proofs.apply.apply_edges.Given as goal

abbrev pub invariant-loop-e : goal.invariant-loop-e
invariant-loop-e l = record {
  none_yet : first_refused l.g l.l l.base (address_in l.t) (drop l.e-index l.g.edges) ≡ first_refused l.g l.l l.base (address_in l.t) l.g.edges;
  same : all_written (map (edge_write l.g l.l l.base (address_in l.t)) (drop l.e-index l.g.edges)) (slice_index l.image) ≡ all_written (map (edge_write l.g l.l l.base (address_in l.t)) l.g.edges) (slice_index l.initial.image);
}
