-- The dependency is ready, or its group is come to, or it is flagged.
use Rattle.std.proofs.Common.{⊎_elim, true, ◌≡◌, subst}
use Rattle.dep_groups.specs.Places.{is_set}
use Rattle.dep_groups.specs.Pending.{IsPending}
use Rattle.dep_groups.proofs.Trails.{named_more, met_named, met_more}
use Rattle.dep_groups.proofs.Pendings.{noted_more}
use Rattle.dep_groups.proofs.pending.note_one.Goals as goal

pub flag_one-requires-clause-within : goal.flag_one-requires-clause-within
flag_one-requires-clause-within c = c.requires.within.within c.requires.named.visit c.args.to c.requires.named.named

pub look_at-requires-clause-met : goal.look_at-requires-clause-met
look_at-requires-clause-met c = met_named c.args.graph.now c.args.trail.now _ c.args.from c.args.to c.requires.wired c.requires.trail c.requires.named

pub returns-in-Open-clause-noted : goal.returns-in-Open-clause-noted
returns-in-Open-clause-noted c =
    let graph = c.args.graph.now in
    let old = c.args.trail.now in
    let new = c.look_at.new.trail in
    let more = c.look_at.ensures.more in
    let here : IsPending graph new c.args.to = record { from = c.args.from; named = named_more graph old new c.args.from c.args.to more c.requires.named; is_open = record { met = met_more graph old new c.args.to more (met_named graph old _ c.args.from c.args.to c.requires.wired c.requires.trail c.requires.named); unready = c.in-Open.ensures.looked.0; absent = c.in-Open.ensures.looked.1 } } in
    record {
      only = λ i is. ⊎_elim (λ (was : is_set c.args.flags.now i ≡ true). (noted_more graph old new c.args.flags.now more c.requires.noted).only i was) (λ (same : c.args.to ≡ i). subst (λ n. IsPending graph new n) same here) (c.flag_one.ensures.only i is);
    }

pub returns-in-Known-clause-noted : goal.returns-in-Known-clause-noted
returns-in-Known-clause-noted c = noted_more c.args.graph.now c.args.trail.now c.look_at.new.trail c.args.flags.now c.look_at.ensures.more c.requires.noted

pub returns-in-Came-clause-noted : goal.returns-in-Came-clause-noted
returns-in-Came-clause-noted c = noted_more c.args.graph.now c.args.trail.now c.look_at.new.trail c.args.flags.now c.look_at.ensures.more c.requires.noted
