-- The group stands at the head of the queue.
use Rattle.std.proofs.Common.{◌∙◌, ◌==◌, ◌≡◌, ℕ, Option, Some, false, cond, ap, sym, subst}
use Rattle.std.proofs.lemmas.Option.{same_Some}
use Rattle.dep_groups.specs.Places.{place}
use Rattle.dep_groups.specs.Shape.{ready_in}
use Rattle.dep_groups.proofs.Ways.{written_here}
use Rattle.dep_groups.proofs.Queues.{relinked, queued_entered, ends_entered, leads_entered}
use Rattle.dep_groups.proofs.links.wait_for.Goals as goal

pub returns-clause-ends : goal.returns-clause-ends
returns-clause-ends c =
    ends_entered c.args.graph.now c.args.links.now c.put-2.new.places c.args.nexts.now c.set.new.places c.args.heads.now c.put.new.places c.args.group c.args.to
    c.put-2.ensures (λ n. c.set.ensures n ∙ ap (λ (o : Option ℕ). cond (c.args.group == n) o (place c.args.nexts.now n)) c.slot_at.ensures) c.put.ensures c.requires.found c.requires.queued c.requires.ends

pub returns-clause-leads : goal.returns-clause-leads
returns-clause-leads c =
    leads_entered c.args.graph.now c.args.links.now c.put-2.new.places c.args.nexts.now c.set.new.places c.args.heads.now c.put.new.places c.args.group c.args.to
    c.put-2.ensures (λ n. c.set.ensures n ∙ ap (λ (o : Option ℕ). cond (c.args.group == n) o (place c.args.nexts.now n)) c.slot_at.ensures) c.put.ensures c.requires.found c.requires.leads

pub returns-clause-queued : goal.returns-clause-queued
returns-clause-queued c =
    queued_entered c.args.graph.now c.args.links.now c.put-2.new.places c.args.nexts.now c.set.new.places c.args.heads.now c.put.new.places c.args.group c.args.to
    c.put-2.ensures (λ n. c.set.ensures n ∙ ap (λ (o : Option ℕ). cond (c.args.group == n) o (place c.args.nexts.now n)) c.slot_at.ensures) c.put.ensures c.requires.unlinked c.requires.queued

pub returns-clause-held : goal.returns-clause-held
returns-clause-held c = record {
  to = c.args.to;
  link = written_here (place c.args.links.now) (place c.put-2.new.places) c.args.group (Some c.args.to) c.put-2.ensures;
  unready = c.requires.found.unready;
}

pub returns-clause-only : goal.returns-clause-only
returns-clause-only c = relinked c.args.links.now c.put-2.new.places c.args.group (Some c.args.to) c.put-2.ensures

pub returns-clause-unready : goal.returns-clause-unready
returns-clause-unready c = λ d is.
    subst (λ n. ready_in c.args.graph.now n ≡ false) (same_Some c.args.to d (sym (written_here (place c.args.links.now) (place c.put-2.new.places) c.args.group (Some c.args.to) c.put-2.ensures) ∙ is)) c.requires.found.unready
