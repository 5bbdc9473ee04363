use Rattle.std.proofs.Common.{◌∷◌, ◌++◌, [], subst, sym}
use Rattle.session_past.specs.Ends.{AreEnds}
use Rattle.session_plain.specs.Meant.{meant}
use Rattle.session_past.proofs.EndLemmas.{ends_after}
use Rattle.session_past.proofs.ends.update_ends.Goals as goal

pub returns : goal.returns
returns g c = λ past e is a. let m = meant g.U.UnitKind.meaning c.args.s.now in
    subst (AreEnds (past ++ e ∷ []) m) (sym c.in_ok-end_queries.ensures) (ends_after past e m c.args.ends.now.items is a)
