use Rattle.std.proofs.Common.{◌<◌, ℕ, length, get_or, sym, ap, ◌∙◌, arith}
use Rattle.link_model.specs.declared.graph.GPlace.TheVariants.{In}
use Rattle.block_groups.specs.Members.{list_of}
use Rattle.block_groups.proofs.Instances.{members_next, members_past}
use Rattle.block_groups.proofs.members.note_members.Goals.{in-Some+in_ok-push, in_default}
use Rattle.block_groups.proofs.members.note_members.Goals as goal

pub loop-k-preserved : goal.loop-k-preserved
loop-k-preserved c =
    let places = c.args.places.now in
    let k = c.loop-k.k in
    let lt' : k < length c.args.own.now = omega (arith, c.loop-k-test.true, c.requires.own) in
    let at = ap (λ (n : ℕ). list_of n (get_or places k (In 0 0))) (sym c.len.ensures) ∙ sym c.list_of.ensures in
    elim c.match-list_of.branch [
      | in-Some+in_ok-push w ↦ rw w.lists-is (members_next c.args.g.now places c.args.own.now k w.in-Some.list (In 0 0) _ c.loop-k.lists w.push.new.self c.loop-k-test.true lt' (c.requires.fit k (In 0 0) c.loop-k-test.true) (at ∙ w.in-Some.is) w.in_ok-push.ensures c.loop-k.invariant)
      | in_default w ↦ rw w.lists-is (members_past c.args.g.now places c.args.own.now k (In 0 0) c.loop-k.lists c.loop-k-test.true lt' (at ∙ w.in_default.is) c.loop-k.invariant)
    ]
