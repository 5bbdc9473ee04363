-- What one visit more depends on was looked at.
use Rattle.std.proofs.Common.{◌≡◌, ◌<◌, ◌≤◌, ◌∙◌, ⊎_elim, length, subst, arith}
use Rattle.std.proofs.lemmas.Bool.{cases_lt}
use Rattle.dep_groups.specs.Pending.{IsCoveredFrom}
use Rattle.dep_groups.proofs.Trails.{more_then}
use Rattle.dep_groups.proofs.Pendings.{covered_then, within_same}
use Rattle.dep_groups.proofs.pending.note_all.Goals as goal

pub loop-from-preserved : goal.loop-from-preserved
loop-from-preserved c =
    let graph = c.args.graph.now in
    let i = c.loop-from.invariant in
    let e = c.note_each-count.ensures in
    let old = c.loop-from.trail in
    let new = c.note_each-count.new.trail in
    let flags = c.note_each-count.new.flags in
    let below : c.loop-from.from < length old.order.items = omega (arith, old.order.ok.0, c.loop-from-test.true, c.len.ensures) in
    record {
      trail = e.trail;
      room = e.room;
      more = more_then c.args.trail.now old new i.more e.more;
      places = c.note_each-count.auto.flags ∙ i.places;
      counted = e.counted;
      noted = e.noted;
      covered = λ k less. ⊎_elim
          (λ (b : k < c.loop-from.from). covered_then graph old new c.loop-from.flags flags k (omega (arith, b, below)) e.more e.stays (i.covered k b))
          (λ (b : c.loop-from.from ≤ k). let same : c.loop-from.from ≡ k = omega (arith, b, less) in subst (λ n. IsCoveredFrom graph new flags n) same e.covered)
          (cases_lt k c.loop-from.from);
    }

pub note_each-count-requires-clause-within : goal.note_each-count-requires-clause-within
note_each-count-requires-clause-within c = within_same c.args.graph.now c.args.flags.now c.loop-from.flags c.loop-from.invariant.places c.requires.within
