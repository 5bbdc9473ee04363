use Rattle.std.proofs.Common.{◌≡◌, true, sym, subst, rules}
use Rattle.session_model.specs.Plain.{present_at}
use Rattle.session_laws.specs.Sound.{AllMatched}
use Rattle.session_parts.specs.Parts.{AreParts}
use Rattle.session_parts.proofs.Links.{with_book}
use Rattle.session_parts.proofs.parts.Parts.ask.Goals as goal

pub claim_all-requires : goal.claim_all-requires
claim_all-requires g c κs within =
    let r = c.requires.1.1 in
    let same : c.deref.result.now ≡ c.args.matched = search rules in (
      within.0,
      (
        within.1,
        (
          subst (λ p. AreParts g.U.UnitKind.meaning p g.m) (sym c.lodge.ensures.rest) (with_book g.U.UnitKind.meaning c.args.self.now c.lodge.new.self.book g.m r.0),
          (r.1.0, subst (AllMatched (λ i. present_at g.m.rows i ≡ true)) (sym same) r.1.1.1.1.0),
        ),
      ),
    )
