use Rattle.std.proofs.Common.{◌≡◌, ◌<◌, ◌+◌, ◌-◌, ◌^◌, ◌&&◌, ◌==◌, nat_eq, length, refl, ap, sym, subst, ◌∙◌, arith}
use Rattle.std.specs.Bool.{if◌then◌else◌}
use Rattle.session_model.specs.Match.{sees}
use Rattle.generators.specs.Lines.{Queue, joined_by, queue_at}
use Rattle.generators.proofs.Names.{none_before, names_more, and_false, or_false, room_left}
use Rattle.generators.proofs.offers.join_names.Goals as goal

pub join_name-requires-clause-few : goal.join_name-requires-clause-few
join_name-requires-clause-few g c =
    let offers = (g.U.UnitKind.meaning c.args.unit.now).offers in
    let name = c.offer.result.0.0 in
    let d = c.args.d.0 in
    let same : queue_at c.loop-k.lines d name ≡ queue_at c.args.lines.now d name =
    c.loop-k.invariant.queues d name
    ∙ (ap (λ b. if nat_eq d d && b then joined_by c.args.who (queue_at c.args.lines.now d name) else queue_at c.args.lines.now d name) (none_before offers c.loop-k.k c.offer.result c.args.scope name c.known.ensures.differ c.offer.ensures refl)
    ∙ ap (λ b. if b then joined_by c.args.who (queue_at c.args.lines.now d name) else queue_at c.args.lines.now d name) (and_false (nat_eq d d))) in
    subst (λ (q : Queue). q.joined + 1 < 2 ^ 32) (sym same) (c.requires.few name)

pub loop-k-preserved : goal.loop-k-preserved
loop-k-preserved g c =
    let offers = (g.U.UnitKind.meaning c.args.unit.now).offers in
    record {
      queues = λ e n. names_more (joined_by c.args.who) offers c.loop-k.k c.offer.result c.args.scope (nat_eq c.args.d.0 e) n (queue_at c.args.lines.now e n) (queue_at c.loop-k.lines e n) (queue_at c.join_name.new.lines e n)
          c.known.ensures.differ c.offer.ensures (c.loop-k.invariant.queues e n)
          (c.join_name.ensures.queues e n ∙ ap (λ b. if nat_eq c.args.d.0 e && b then joined_by c.args.who (queue_at c.loop-k.lines e n) else queue_at c.loop-k.lines e n) (or_false (c.offer.result.0.0 == n && sees c.args.scope c.offer.result.1)));
      room = c.join_name.ensures.room (length offers - (c.loop-k.k + 1)) (room_left offers c.loop-k.k c.loop-k.lines (grind (arith, c.loop-k-test.true, c.count-k-end.ensures)) c.loop-k.invariant.room);
    }
