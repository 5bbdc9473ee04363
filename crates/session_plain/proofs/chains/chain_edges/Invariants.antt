use Rattle.std.proofs.Common.{◌≡◌, map, take}
use Rattle.session_plain.specs.Chains.{chain_list}
use Rattle.session_plain.specs.Meant.{meant}
use Rattle.session_plain.proofs.chains.chain_edges.Given as goal

abbrev pub invariant-loop-row : goal.invariant-loop-row
invariant-loop-row g l =
    let chain = chain_list (meant g.U.UnitKind.meaning l.s).units l.s.queries.items in
    l.edges.items ≡ map chain (take l.row-index l.s.rows.items)
