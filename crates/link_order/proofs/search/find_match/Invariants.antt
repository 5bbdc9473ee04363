use Rattle.std.proofs.Common.{◌≡◌, drop}
use Rattle.session_model.specs.Match.{match_of}
use Rattle.link_order.proofs.search.find_match.Given as goal

abbrev pub invariant-loop-item : goal.invariant-loop-item
invariant-loop-item g l =
    let m = g.R.RowSource.source l.rows in
    match_of m (drop l.item-index l.order) l.name.0 ≡ match_of m l.order l.name.0
