use Rattle.std.proofs.Common.{◌==◌, ◌∙◌}
use Rattle.std.proofs.lemmas.List.Folds.{list_any_more}
use Rattle.orc_ids.specs.declared.ids.InstId.{InstId}
use Rattle.instances.specs.Table.{is_among}
use Rattle.instances.proofs.Sets.{more_added}
use Rattle.instances.proofs.inst_set.InstSet.add_all.Goals as goal

pub loop-i-preserved : goal.loop-i-preserved
loop-i-preserved c = record {
  added = λ k. more_added (is_among c.args.self.now.items k) _ _ _ _ _ k _ _ c.loop-i.invariant.places (c.add.ensures.added k) (c.loop-i.invariant.added k)
      (list_any_more (λ (j : InstId). j.0 == k) c.args.list.now c.loop-i.i-index (record { 0 = 0 }) c.loop-i-test.true);
  places = c.add.ensures.places ∙ c.loop-i.invariant.places;
}
