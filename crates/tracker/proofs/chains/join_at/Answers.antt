-- The write is a change of what is there.
use Rattle.std.proofs.Common.{◌∙◌, ◌<◌, Some, length, set, ap, arith}
use Rattle.tracker.specs.declared.owned.Owned.{Owned}
use Rattle.tracker.specs.Owners.{and_all_of}
use Rattle.tracker.proofs.Changes.{change_some, change_none}
use Rattle.tracker.proofs.chains.join_at.Goals as goal

pub returns-in-Some : goal.returns-in-Some
returns-in-Some c =
    let less : c.args.at < length c.args.tracks.now.items = omega (arith, c.requires.at, c.args.tracks.now.ok.0) in
    ap (λ (o : Owned). set c.args.tracks.now.items c.args.at (Some o)) c.join.ensures
    ∙ change_some (and_all_of c.args.more.now) c.args.tracks.now.items c.args.at c.index_mut.result.now c.in-Some.owned less c.index_mut.ensures.value c.in-Some.is

pub returns-in_default : goal.returns-in_default
returns-in_default c =
    let less : c.args.at < length c.args.tracks.now.items = omega (arith, c.requires.at, c.args.tracks.now.ok.0) in
    change_none (and_all_of c.args.more.now) c.args.tracks.now.items c.args.at c.index_mut.result.now less c.index_mut.ensures.value c.in_default.is
