use Rattle.std.proofs.Common.{◌+◌, ◌≤◌, length, sym, subst}
use Rattle.orc_ids.specs.declared.limits.TheConstants.{INSTANCE_LIMIT}
use Rattle.session_steps.proofs.NewUnits.{refused_back}
use Rattle.session_steps.proofs.Standing.{refused_step}
use Rattle.session_steps.proofs.live.Live.define.Goals as goal

pub returns-in-Some-clause-step : goal.returns-in-Some-clause-step
returns-in-Some-clause-step g c = λ s. refused_step g.U.UnitKind.meaning g.m s _ _ c.args.self.now.parts c.requires.1.1.0
    (c.in-Some.ensures.refused (g.U.UnitKind.meaning c.args.unit) c.requires.1.1.1 (sym c.count.ensures))

pub returns-in-Some-clause-back : goal.returns-in-Some-clause-back
returns-in-Some-clause-back g c = refused_back g.U.UnitKind.meaning g.m c.args.d c.args.t c.args.unit c.in-Some.refusal
    (c.in-Some.ensures.refused (g.U.UnitKind.meaning c.args.unit) c.requires.1.1.1 (sym c.count.ensures))

pub define-requires : goal.define-requires
define-requires g c κs within =
    let at = c.requires.1.1.0 in
    let a = c.in_default.ensures.accepted in (
      within.0,
      (
        within.1,
        (
          at.parts,
          (
            at.sound,
            (
              at.once,
              (
                a.there,
                (
                  a.tracker,
                  (
                    a.units,
                    subst (λ n. length g.m.rows + n ≤ INSTANCE_LIMIT) c.count.ensures a.instances,
                  ),
                ),
              ),
            ),
          ),
        ),
      ),
    )
