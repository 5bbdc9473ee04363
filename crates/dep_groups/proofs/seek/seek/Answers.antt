-- What is found may be waited for.
use Rattle.std.proofs.Common.{◌<◌, List, Contains, subst, sym, vec_len}
use Rattle.orc_ids.specs.declared.ids.InstId.{InstId}
use Rattle.dep_groups.specs.Search.{IsExhausted, IsOpen}
use Rattle.dep_groups.specs.Links.{IsFound}
use Rattle.dep_groups.specs.Seek.{AreOwn, IsOther}
use Rattle.dep_groups.proofs.Trails.{group_within}
use Rattle.dep_groups.proofs.Seeks.{either_way, own_exhausted, found_open, found_other}
use Rattle.dep_groups.proofs.seek.seek.Goals as goal

pub first_other-requires-clause-within : goal.first_other-requires-clause-within
first_other-requires-clause-within c = subst (λ n. c.args.group < n) (sym c.requires.sizes) (group_within c.args.graph.now c.args.trail.now 0 c.args.group c.requires.trail c.requires.first)

pub returns-then-is_wanted-clause-found : goal.returns-then-is_wanted-clause-found
returns-then-is_wanted-clause-found c =
    let graph = c.args.graph.now in
    let trail = c.search.new.trail in
    let all = IsExhausted graph trail (vec_len trail.order) in
    either_way c.search.result all all (λ to. IsOpen graph trail to) (λ to. IsFound graph c.args.heads.now c.args.group to) (λ e. e)
    (λ to o. found_open graph c.args.heads.now trail c.args.group to (c.search.ensures.more.kept 0 c.args.group c.requires.first) o) c.search.ensures.found

pub returns-clause-found : goal.returns-clause-found
returns-clause-found c =
    let graph = c.args.graph.now in
    let trail = c.args.trail.now in
    let g = c.args.group in
    either_way c.first_other.result (AreOwn graph g) (IsExhausted graph trail (vec_len trail.order)) (λ to. IsOther graph g to) (λ to. IsFound graph c.args.heads.now g to)
    (own_exhausted graph trail g c.requires.trail c.requires.first c.requires.one)
    (λ to o. found_other graph c.args.heads.now _ g to c.requires.wired c.requires.members
    (λ m named. c.is_wanted.ensures c.if-is_wanted.false m (subst (λ (ms : List InstId). Contains ms m) (sym c.members_of.ensures) named)) o) c.first_other.ensures.found
