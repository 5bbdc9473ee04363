use Rattle.std.proofs.Common.{◌&&◌, not, ap, sym, ◌∙◌}
use Rattle.session_model.specs.Reach.{is_ready}
use Rattle.instances.proofs.Readiness.{flag_is}
use Rattle.instances.proofs.roots.is_unready.Goals as goal

pub returns-then-present_at : goal.returns-then-present_at
returns-then-present_at c =
    ap not (flag_is c.ready_is_tested.ensures c.args.rows.now c.args.frontier.now.entries c.requires c.args.i.0 c.is_ready.result c.is_ready.ensures)
    ∙ sym (ap (λ b. b && not (is_ready c.args.rows.now c.args.i.0)) (sym c.present_at.ensures ∙ c.if-present_at.true))
