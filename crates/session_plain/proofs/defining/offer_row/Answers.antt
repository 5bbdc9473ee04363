use Rattle.std.proofs.Common.{sym, ◌∙◌}
use Rattle.session_plain.proofs.DefineLemmas.{offer_judged, offer_unjudged}
use Rattle.session_plain.proofs.defining.offer_row.Goals as goal

pub returns-in_ok-add_row : goal.returns-in_ok-add_row
returns-in_ok-add_row g c = offer_judged c.args.d.0 c.args.u.0 c.args.k c.offer-offer.result (g.U.UnitKind.meaning c.args.unit.now).offers c.in-Some.verdict c.args.found.now c.keeps.result c.row_of_offer.result c.args.rows.now.items c.add_row.new.rows.items
    c.offer-offer.ensures (sym c.verdict_at.ensures ∙ c.in-Some.is) c.keeps.ensures c.row_of_offer.ensures c.in_ok-add_row.ensures

pub returns-in_default : goal.returns-in_default
returns-in_default g c = offer_unjudged c.args.d.0 c.args.u.0 c.args.k (g.U.UnitKind.meaning c.args.unit.now).offers c.args.found.now c.args.rows.now.items (sym c.verdict_at.ensures ∙ c.in_default.is)
