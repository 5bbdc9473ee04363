use Rattle.std.proofs.Common.{◌∙◌, ap, sym}
use Rattle.session_plain.specs.Chains.{marked_cycle}
use Rattle.session_plain.specs.Meant.{meant, unit_row}
use Rattle.session_plain.proofs.ChainLemmas.{cycle_marked}
use Rattle.session_plain.proofs.chains.cycle_reply.Goals as goal

pub returns : goal.returns
returns g c = let means = g.U.UnitKind.meaning in
    c.first_cycle-cycle.ensures ∙ (ap (λ ms. marked_cycle ms c.as_slice.result.now) c.deref.ensures.value
    ∙ cycle_marked (meant means c.args.s.now) c.args.u.0 (unit_row means c.args.x.now) c.in_ok-marks.marks.items c.as_slice.result.now c.args.found.now (sym c.alias.ensures ∙ c.if-not-alias.false)
    c.in_ok-marks.ensures c.requires (c.as_slice.ensures ∙ c.in_ok-targets.ensures))
