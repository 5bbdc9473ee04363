-- One flag more is taken back.
use Rattle.std.proofs.Common.{◌∙◌, arith}
use Rattle.std.proofs.lemmas.Bool.{false_from_ne_true}
use Rattle.std.proofs.lemmas.Option.{slice_get-get_or}
use Rattle.dep_groups.specs.Places.{is_set}
use Rattle.dep_groups.proofs.Trails.{visit_below}
use Rattle.dep_groups.proofs.Seeks.{seen_left}
use Rattle.dep_groups.proofs.seek.unsee.Goals as goal

pub loop-group-preserved : goal.loop-group-preserved
loop-group-preserved c = record {
  left = seen_left c.args.order.now (is_set c.loop-group.seen) (is_set c.lower.new.flags) c.loop-group.group-index _ (record { is = slice_get-get_or c.args.order.now c.loop-group.group-index 0 c.loop-group-test.true }) c.lower.ensures c.loop-group.invariant.left;
  sizes = c.lower.auto.flags ∙ c.loop-group.invariant.sizes;
}

pub returns : goal.returns
returns c = λ g. false_from_ne_true (is_set c.loop-group.seen g) (λ high.
    let s = c.loop-group.invariant.left g high in
    absurd (omega (arith, s.1, visit_below c.args.order.now s.0.at g s.0.is)))
