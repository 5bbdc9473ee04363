use Rattle.std.proofs.Common.{sym, subst}
use Rattle.session_model.specs.Change.{spent}
use Rattle.session_parts.specs.Parts.{kept_of}
use Rattle.session_parts.specs.Tied.{IsTied}
use Rattle.session_parts.proofs.Others.{generator_spent}
use Rattle.session_parts.proofs.parts.Parts.spend.Goals as goal

pub returns-clause-parts : goal.returns-clause-parts
returns-clause-parts g c = let a = c.requires.1.1 in
    record { kept = subst (λ rows. IsTied g.U.UnitKind.meaning (record (kept_of c.args.self.now) { generators = rows }) (spent c.args.g.0 g.m)) (sym c.spend.ensures) (generator_spent g.U.UnitKind.meaning (kept_of c.args.self.now) g.m c.args.g.0 a.kept); spans = a.spans }
