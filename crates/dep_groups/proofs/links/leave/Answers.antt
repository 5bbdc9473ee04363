-- The group behind it is at the head.
use Rattle.std.proofs.Common.{◌∙◌, ◌==◌, ℕ, Option, None, cond, ap}
use Rattle.dep_groups.specs.Places.{place}
use Rattle.dep_groups.proofs.Tables.{place_within}
use Rattle.dep_groups.proofs.Ways.{written_here}
use Rattle.dep_groups.proofs.Queues.{relinked, link_head, queued_left, ends_left, leads_left}
use Rattle.dep_groups.proofs.links.leave.Goals as goal

pub set-requires : goal.set-requires
set-requires c = place_within c.args.heads.now c.args.instance c.args.group c.requires.head

pub returns-clause-ends : goal.returns-clause-ends
returns-clause-ends c =
    ends_left c.args.graph.now c.args.links.now c.empty.new.places c.args.nexts.now c.args.heads.now c.set.new.places c.args.group c.args.instance
    c.empty.ensures (λ n. c.set.ensures n ∙ ap (λ (o : Option ℕ). cond (c.args.instance == n) o (place c.args.heads.now n)) c.slot_at.ensures) c.requires.ends

pub returns-clause-leads : goal.returns-clause-leads
returns-clause-leads c =
    leads_left c.args.graph.now c.args.links.now c.empty.new.places c.args.nexts.now c.args.heads.now c.set.new.places c.args.group c.args.instance
    c.empty.ensures (λ n. c.set.ensures n ∙ ap (λ (o : Option ℕ). cond (c.args.instance == n) o (place c.args.heads.now n)) c.slot_at.ensures) c.requires.leads

pub returns-clause-queued : goal.returns-clause-queued
returns-clause-queued c =
    queued_left c.args.graph.now c.args.links.now c.empty.new.places c.args.nexts.now c.args.heads.now c.set.new.places c.args.group c.args.instance
    c.empty.ensures (λ n. c.set.ensures n ∙ ap (λ (o : Option ℕ). cond (c.args.instance == n) o (place c.args.heads.now n)) c.slot_at.ensures) c.requires.head c.requires.queued

pub returns-clause-was : goal.returns-clause-was
returns-clause-was c =
    link_head c.args.graph.now c.args.links.now c.empty.new.places c.args.nexts.now c.args.heads.now c.set.new.places c.args.group c.args.instance
    c.empty.ensures (λ n. c.set.ensures n ∙ ap (λ (o : Option ℕ). cond (c.args.instance == n) o (place c.args.heads.now n)) c.slot_at.ensures) c.requires.head c.requires.queued

pub returns-clause-unlinked : goal.returns-clause-unlinked
returns-clause-unlinked c = written_here (place c.args.links.now) (place c.empty.new.places) c.args.group None c.empty.ensures

pub returns-clause-only : goal.returns-clause-only
returns-clause-only c = relinked c.args.links.now c.empty.new.places c.args.group None c.empty.ensures
