-- The write is a change of what is there.
use Rattle.std.proofs.Common.{◌∙◌, ◌<◌, ◌++◌, ◌∷◌, [], List, Some, length, set, ap, arith}
use Rattle.orc_ids.specs.declared.ids.GenId.{GenId}
use Rattle.tracker.specs.declared.owned.Owned.{Owned}
use Rattle.tracker.proofs.Changes.{change_some, change_none}
use Rattle.tracker.proofs.chains.add_generator_at.Goals as goal

pub returns-in_ok-push_back-clause-ok : goal.returns-in_ok-push_back-clause-ok
returns-in_ok-push_back-clause-ok c =
    let less : c.args.at < length c.args.tracks.now.items = omega (arith, c.requires, c.args.tracks.now.ok.0) in
    ap (λ (gs : List GenId). set c.args.tracks.now.items c.args.at (Some (record c.in-Some.owned { generators = gs }))) c.in_ok-push_back.ensures.items
    ∙ change_some (λ (o : Owned). record o { generators = o.generators ++ c.args.g ∷ [] }) c.args.tracks.now.items c.args.at c.index_mut.result.now c.in-Some.owned less c.index_mut.ensures.value c.in-Some.is

pub returns-in_default-clause-ok : goal.returns-in_default-clause-ok
returns-in_default-clause-ok c =
    let less : c.args.at < length c.args.tracks.now.items = omega (arith, c.requires, c.args.tracks.now.ok.0) in
    change_none (λ (o : Owned). record o { generators = o.generators ++ c.args.g ∷ [] }) c.args.tracks.now.items c.args.at c.index_mut.result.now less c.index_mut.ensures.value c.in_default.is
