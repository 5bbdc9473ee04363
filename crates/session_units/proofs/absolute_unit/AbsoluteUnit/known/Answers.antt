use Rattle.std.proofs.Common.{List, ℕ, subst}
use Rattle.orc_ids.specs.declared.ids.NameId.{NameId}
use Rattle.session_model.specs.Meaning.{IsLawful}
use Rattle.session_units.specs.Others.{absolutes_meaning}
use Rattle.session_units.proofs.OtherLaws.{absolutes_lawful}
use Rattle.session_units.proofs.absolute_unit.AbsoluteUnit.known.Goals as goal

pub returns : goal.returns
returns c = subst (λ (symbols : List (NameId × ℕ)). IsLawful (absolutes_meaning c.args.self.now.name symbols)) c.deref.ensures (absolutes_lawful c.args.self.now.name c.deref.result.now c.known.ensures)
