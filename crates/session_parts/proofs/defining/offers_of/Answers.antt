use Rattle.std.proofs.Common.{ap, sym, ◌∙◌, ◌++◌, ◌∷◌, []}
use Rattle.list_laws.proofs.Lists.{taken_more}
use Rattle.session_parts.proofs.defining.offers_of.Goals as goal

pub loop-k-preserved : goal.loop-k-preserved
loop-k-preserved g c = c.in_ok-push.ensures.items ∙ (ap (λ xs. xs ++ c.offer.result ∷ []) c.loop-k.invariant ∙ sym (taken_more (g.U.UnitKind.meaning c.args.unit.now).offers c.loop-k.k c.offer.result c.offer.ensures))
