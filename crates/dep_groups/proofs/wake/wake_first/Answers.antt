-- The group is settled, and no longer linked to the instance.
use Rattle.std.proofs.Common.{◌∙◌, ◌<◌, ◌≤◌, ℕ, List, Option, length, ap, sym, subst, arith}
use Rattle.std.proofs.lemmas.Bool.{both_ways}
use Rattle.std.proofs.lemmas.List.{with_items_is}
use Rattle.dep_groups.specs.Places.{place}
use Rattle.dep_groups.specs.Shape.{ready_in}
use Rattle.dep_groups.specs.Links.{IsRelinked}
use Rattle.dep_groups.proofs.Tables.{place_within}
use Rattle.dep_groups.proofs.Queues.{waiting_less}
use Rattle.dep_groups.proofs.Wakes.{held_next, IsResolved}
use Rattle.dep_groups.proofs.wake.wake_first.Goals as goal

pub resolve-requires-clause-group : goal.resolve-requires-clause-group
resolve-requires-clause-group c =
    let old = c.args.core.now in
    subst (λ n. c.args.group < n) (ap length c.deref_mut.ensures.value ∙ c.requires.sound.sizes.links) (place_within c.deref_mut.result.now c.args.group c.args.instance c.leave.ensures.was)

pub resolve-requires-clause-unlinked : goal.resolve-requires-clause-unlinked
resolve-requires-clause-unlinked c =
    ap (λ (ls : List (Option ℕ)). place ls c.args.group) (with_items_is c.args.core.now.links c.leave.new.links (c.leave.auto.links ∙ c.deref_mut.ensures.len)) ∙ c.leave.ensures.unlinked

pub returns-clause-held : goal.returns-clause-held
returns-clause-held c =
    let old = c.args.core.now in
    let new = c.resolve.new.core in
    let e = c.resolve.ensures in
    let is = with_items_is old.links c.leave.new.links (c.leave.auto.links ∙ c.deref_mut.ensures.len) in
    let only : IsRelinked old.links.items new.links.items c.args.group = record {
      kept = λ n apart. e.only.kept n apart ∙ ap (λ (ls : List (Option ℕ)). place ls n) is ∙ c.leave.ensures.only.kept n apart ∙ ap (λ (ls : List (Option ℕ)). place ls n) c.deref_mut.ensures.value;
    } in
    let r : IsResolved old new c.args.group = record { graph = e.graph; tells = e.tells; settled = e.settled; only = only } in
    held_next old new c.args.group r _ _ c.args.told (omega (arith, c.requires.told, old.told.ok.0)) (λ g past apart. subst (λ ns. length ns.items ≤ g) (sym e.graph.nodes) past) c.requires.held

pub returns-clause-fewer : goal.returns-clause-fewer
returns-clause-fewer c =
    let old = c.args.core.now in
    let new = c.resolve.new.core in
    let e = c.resolve.ensures in
    let is = with_items_is old.links c.leave.new.links (c.leave.auto.links ∙ c.deref_mut.ensures.len) in
    waiting_less c.args.instance c.args.group old.links.items new.links.items
    (e.sound.sizes.links ∙ ap (λ ns. length ns.items) e.graph.nodes ∙ sym c.requires.sound.sizes.links)
    (λ n apart. e.only.kept n apart ∙ ap (λ (ls : List (Option ℕ)). place ls n) is ∙ c.leave.ensures.only.kept n apart ∙ ap (λ (ls : List (Option ℕ)). place ls n) c.deref_mut.ensures.value)
    (ap (λ (ls : List (Option ℕ)). place ls c.args.group) (sym c.deref_mut.ensures.value) ∙ c.leave.ensures.was)
    (λ link. both_ways (ready_in new.graph c.args.instance) (e.unready c.args.instance link) (e.tells.stays c.args.instance c.requires.ready))
