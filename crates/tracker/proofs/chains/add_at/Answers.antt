-- The write is a change of what is there.
use Rattle.std.proofs.Common.{◌∙◌, ◌<◌, ◌++◌, ◌∷◌, [], List, Some, length, set, ap, arith}
use Rattle.orc_ids.specs.declared.ids.UnitId.{UnitId}
use Rattle.tracker.specs.declared.owned.Owned.{Owned}
use Rattle.tracker.proofs.Changes.{change_some, change_none}
use Rattle.tracker.proofs.chains.add_at.Goals as goal

pub returns-in-Some-clause-tracks : goal.returns-in-Some-clause-tracks
returns-in-Some-clause-tracks c =
    let less : c.args.at < length c.args.tracks.now.items = omega (arith, c.requires.at, c.args.tracks.now.ok.0) in
    ap (λ (us : List UnitId). set c.args.tracks.now.items c.args.at (Some (record c.in-Some.owned { units = us }))) c.add.ensures.units
    ∙ change_some (λ (o : Owned). record o { units = o.units ++ c.args.u ∷ [] }) c.args.tracks.now.items c.args.at c.index_mut.result.now c.in-Some.owned less c.index_mut.ensures.value c.in-Some.is

pub returns-in_default-clause-tracks : goal.returns-in_default-clause-tracks
returns-in_default-clause-tracks c =
    let less : c.args.at < length c.args.tracks.now.items = omega (arith, c.requires.at, c.args.tracks.now.ok.0) in
    change_none (λ (o : Owned). record o { units = o.units ++ c.args.u ∷ [] }) c.args.tracks.now.items c.args.at c.index_mut.result.now less c.index_mut.ensures.value c.in_default.is
