-- What is found is what the failure hits.
use Rattle.std.proofs.Common.{◌≡◌, ⊎_elim, true, Contains, arith}
use Rattle.std.proofs.lemmas.Bool.{both_ways}
use Rattle.dep_groups.specs.Places.{is_set}
use Rattle.dep_groups.proofs.Spreads.{noted_none, swept_none, hits_found}
use Rattle.dep_groups.proofs.fail.find_hits.Goals as goal

pub hit_roots-requires-clause-noted : goal.hit_roots-requires-clause-noted
hit_roots-requires-clause-noted c = noted_none _ c.requires.resting.clear c.clear.ensures.items c.clear.ensures.len (omega (arith, c.requires.resting.room, c.clear.ensures.capacity))

pub hit_all-requires-clause-swept : goal.hit_all-requires-clause-swept
hit_all-requires-clause-swept c = swept_none c.args.graph.now c.args.trail.now c.hit_roots.new.hits c.requires.clear

pub returns-clause-hits : goal.returns-clause-hits
returns-clause-hits c =
    hits_found c.args.graph.now c.hit_all.new.trail c.hit_roots.new.hits c.hit_all.new.hits c.args.roots.now c.hit_all.ensures.hits c.hit_all.ensures.noted c.requires.complete c.hit_all.ensures.swept c.hit_all.ensures.spread c.hit_roots.ensures.hit
    (λ i is. ⊎_elim (λ (was : is_set c.args.hits.now.flags.items i ≡ true). absurd (both_ways (is_set c.args.hits.now.flags.items i) (c.requires.resting.clear i) was)) (λ (named : Contains c.args.roots.now (record { 0 = i })). named) (c.hit_roots.ensures.only i is))
    c.requires.unready
