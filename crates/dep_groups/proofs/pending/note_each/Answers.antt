-- One dependency more was looked at.
use Rattle.std.proofs.Common.{◌∙◌, ℕ, subst, arith}
use Rattle.std.proofs.lemmas.Option.{get_or_from_slice_get}
use Rattle.dep_groups.specs.Pending.{IsCovered}
use Rattle.dep_groups.proofs.Lists.{each_more}
use Rattle.dep_groups.proofs.Trails.{more_then}
use Rattle.dep_groups.proofs.Pendings.{covered_more, covered_from, within_same}
use Rattle.dep_groups.proofs.pending.note_each.Goals as goal

pub returns-clause-covered : goal.returns-clause-covered
returns-clause-covered c =
    covered_from c.args.graph.now c.args.trail.now c.loop-k.trail c.loop-k.flags c.args.from c.group_at.result c.loop-k.k c.deps_of-deps.result.now c.group_at.ensures c.loop-k.invariant.more c.deps_of-deps.ensures (omega arith) c.loop-k.invariant.covered

pub note_one-count-requires-clause-within : goal.note_one-count-requires-clause-within
note_one-count-requires-clause-within c = within_same c.args.graph.now c.args.flags.now c.loop-k.flags c.loop-k.invariant.places c.requires.within

pub loop-k-preserved : goal.loop-k-preserved
loop-k-preserved c =
    let graph = c.args.graph.now in
    let deps = c.deps_of-deps.result.now in
    let i = c.loop-k.invariant in
    let e = c.note_one-count.ensures in
    let old = c.loop-k.trail in
    let new = c.note_one-count.new.trail in
    let flags = c.note_one-count.new.flags in
    record {
      trail = e.trail;
      room = e.room;
      more = more_then c.args.trail.now old new i.more e.more;
      places = c.note_one-count.auto.flags ∙ i.places;
      counted = e.counted;
      noted = e.noted;
      stays = λ n was. e.stays n (i.stays n was);
      covered = λ k d less is. each_more deps c.loop-k.k (λ (n : ℕ). IsCovered graph new flags n)
          (λ k d below is. covered_more graph old new c.loop-k.flags flags d e.more e.stays (i.covered k d below is))
          (λ d is. subst (λ (n : ℕ). IsCovered graph new flags n) (get_or_from_slice_get deps c.loop-k.k d 0 is) e.covered) k d less is;
    }
