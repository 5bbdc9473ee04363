use Rattle.std.proofs.Common.{ap, refl, sym, subst, ◌<◌, take}
use Rattle.std.proofs.lemmas.Option.{slice_get-get_or}
use Rattle.list_laws.proofs.Lists.{taken_more}
use Rattle.session_parts.specs.Defined.{AreLost}
use Rattle.session_parts.proofs.LostNames.{none_lost, one_lost, one_rest, lost_count, among_at}
use Rattle.session_parts.proofs.defining.lose_names.Goals as goal

pub loop-i-init : goal.loop-i-init
loop-i-init g c = record { lost = none_lost c.args.rows.now c.args.units.now.units; rest = refl }

pub lose_name-requires : goal.lose_name-requires
lose_name-requires g c = λ r e.
    let there = slice_get-get_or c.args.replaced.now c.loop-i.i-index (record { 0 = 0 }) c.loop-i-test.true in
    subst (λ n. r.unit.0 < n) (sym (lost_count c.args.rows.now (take c.loop-i.i-index c.args.replaced.now) c.args.units.now.units c.loop-i.units.units c.loop-i.invariant.lost))
    (c.requires _ r (among_at c.args.replaced.now c.loop-i.i-index _ there) e)

pub loop-i-preserved : goal.loop-i-preserved
loop-i-preserved g c =
    let there = slice_get-get_or c.args.replaced.now c.loop-i.i-index (record { 0 = 0 }) c.loop-i-test.true in
    record {
      lost = subst (λ is. AreLost c.args.rows.now is c.args.units.now.units c.lose_name.new.units.units) (sym (taken_more c.args.replaced.now c.loop-i.i-index _ there))
          (one_lost c.args.rows.now (take c.loop-i.i-index c.args.replaced.now) _ c.args.units.now.units c.loop-i.units.units c.lose_name.new.units.units c.loop-i.invariant.lost (ap (λ r. r.units) c.lose_name.ensures));
      rest = one_rest c.args.units.now c.loop-i.units c.lose_name.new.units _ c.loop-i.invariant.rest c.lose_name.ensures;
    }
