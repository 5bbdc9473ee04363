use Rattle.std.proofs.Common.{ap, sym, subst, ◌∙◌, ◌+◌, drop, Some, None}
use Rattle.std.proofs.lemmas.Option.{slice_get-get_or}
use Rattle.list_laws.proofs.Lists.{drop_some}
use Rattle.session_parts.proofs.Claims.{Claiming, one_claimed, one_unmatched}
use Rattle.session_parts.proofs.parts.Parts.claim_all.Goals.{in-Some, in_default}
use Rattle.session_parts.proofs.parts.Parts.claim_all.Goals as goal

pub loop-found-preserved : goal.loop-found-preserved
loop-found-preserved g c =
    let k = c.loop-found.found-index in
    let all = c.args.matched.now in
    let there = slice_get-get_or all k None c.loop-found-test.true in
    elim c.match-found.branch [
      | in-Some w ↦ subst (Claiming g.U.UnitKind.meaning g.m all (drop (k + 1) all) c.args.self.now) (sym w.self-is)
          (one_claimed g.U.UnitKind.meaning g.m all (drop (k + 1) all) w.in-Some.i c.args.self.now c.loop-found.self w.claim_for.new.self
          (subst (λ rest. Claiming g.U.UnitKind.meaning g.m all rest c.args.self.now c.loop-found.self) (drop_some all k (Some w.in-Some.i) (there ∙ ap Some w.in-Some.is)) c.loop-found.invariant)
          w.claim_for.ensures.parts w.claim_for.ensures.tells w.claim_for.ensures.rest)
      | in_default w ↦ subst (Claiming g.U.UnitKind.meaning g.m all (drop (k + 1) all) c.args.self.now) (sym w.self-is)
          (one_unmatched g.U.UnitKind.meaning g.m all (drop (k + 1) all) c.args.self.now c.loop-found.self
          (subst (λ rest. Claiming g.U.UnitKind.meaning g.m all rest c.args.self.now c.loop-found.self) (drop_some all k None (there ∙ ap Some w.in_default.is)) c.loop-found.invariant))
    ]
