-- All dependencies from one on were looked at.
use Rattle.std.proofs.Common.{◌≡◌, ◌<◌, ℕ, List, Contains, length, get_or, subst, arith}
use Rattle.std.proofs.lemmas.Option.{slice_get-get_or}
use Rattle.dep_groups.proofs.Lists.{at_contains}
use Rattle.dep_groups.specs.Shape.{deps_in}
use Rattle.dep_groups.proofs.Trails.{passed_from, met_named}
use Rattle.dep_groups.proofs.trail.scan.Goals as goal

pub returns-clause-found : goal.returns-clause-found
returns-clause-found c =
    passed_from c.args.graph.now c.args.trail.now c.loop-k.trail c.args.from c.args.start c.group_at.result c.loop-k.k c.deps_of-deps.result.now c.group_at.ensures c.loop-k.invariant.more c.deps_of-deps.ensures (omega arith) c.loop-k.invariant.looked

pub follow_to-found-requires-clause-met : goal.follow_to-found-requires-clause-met
follow_to-found-requires-clause-met c =
    let graph = c.args.graph.now in
    let deps = c.deps_of-deps.result.now in
    let same : deps ≡ deps_in graph c.group_at.result = c.deps_of-deps.ensures in
    let less : c.loop-k.k < length deps = omega (arith, c.loop-k-test.true) in
    let to : ℕ = get_or deps c.loop-k.k 0 in
    met_named graph c.loop-k.trail _ c.args.from to c.requires.wired c.loop-k.invariant.trail (record {
      visit = c.group_at.result;
      is = c.loop-k.invariant.more.kept c.args.from c.group_at.result c.group_at.ensures;
      named = subst (λ (ds : List ℕ). Contains ds to) same (at_contains deps c.loop-k.k to (slice_get-get_or deps c.loop-k.k 0 less));
    })
