use Rattle.std.proofs.Common.{◌≡◌, drop}
use Rattle.std.specs.List.{list_any}
use Rattle.session_model.specs.Match.{offers_name}
use Rattle.session_plain.specs.Find.{is_offer}
use Rattle.session_plain.proofs.find.unit_offers.Given as goal

abbrev pub invariant-loop-k : goal.invariant-loop-k
invariant-loop-k g l =
    list_any (is_offer l.name.0 l.scope) (drop l.k (g.U.UnitKind.meaning l.unit).offers) ≡ offers_name (g.U.UnitKind.meaning l.unit) l.name.0 l.scope
