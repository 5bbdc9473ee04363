use Rattle.std.proofs.Common.{List, ap}
use Rattle.session_model.specs.Change.{claimed_row}
use Rattle.session_model.specs.declared.rows.InstRow.{InstRow}
use Rattle.instances.specs.Table.{Table, AreChanged}
use Rattle.instances.specs.Tied.{IsTied}
use Rattle.instances.proofs.Readiness.{tied_changed, ready_kept}
use Rattle.instances.proofs.Standings.{mapped, tells_changed, claim_alike, claim_entry}
use Rattle.instances.proofs.graph.InstanceGraph.claim.Goals as goal

pub returns-clause-tells : goal.returns-clause-tells
returns-clause-tells c =
    let rows : List InstRow = c.self.inside.instances.rows in
    let new : List InstRow = c.claim.new.self.rows in
    let step : AreChanged (λ _ r. claimed_row c.args.u.0 r) rows new = mapped (claimed_row c.args.u.0) rows new (ap (λ (t : Table). t.rows) c.claim.ensures) in
    let tied : IsTied new c.self.inside.frontier.entries = tied_changed (λ _ r. claimed_row c.args.u.0 r) rows new c.self.inside.frontier.entries step (λ i r e. claim_entry c.args.u.0 r) c.self.invariant.tied in
    rw (← c.self.view_is)
    (tells_changed (λ _ r. claimed_row c.args.u.0 r) step (λ i r e n. claim_alike c.args.u.0 r)
    (λ i b n. ready_kept c.ready_is_tested.ensures rows new c.self.inside.frontier.entries c.self.invariant.tied tied i) (λ i e. e))
