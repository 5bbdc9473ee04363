use Rattle.std.proofs.Common.{ap, sym, subst}
use Rattle.session_parts.specs.Parts.{AreParts}
use Rattle.session_steps.proofs.Generating.{room_units, room_instances, after_ready, told_through, clashed}
use Rattle.session_steps.proofs.live.Live.define_generated.Goals as goal

pub define-requires : goal.define-requires
define-requires g c κs within =
    let at = c.requires.1.1.0 in
    let ready = c.requires.1.1.1.0 in (
      within.0,
      (
        within.1,
        (
          at.parts,
          (
            at.sound,
            (
              at.once,
              (
                (at.homes.generators c.args.g.0 _ ready.there).dylib,
                (
                  ready.tracker,
                  (
                    room_units g.m _ c.requires.1.1.1.1,
                    room_instances g.m _ c.requires.1.1.1.1,
                  ),
                ),
              ),
            ),
          ),
        ),
      ),
    )

pub spend-requires : goal.spend-requires
spend-requires g c κs within = (
  within.0,
  (
    within.1,
    subst (AreParts g.U.UnitKind.meaning c.define.new.self) (sym (after_ready g.m c.args.g c.args.unit.dylib c.args.unit.tracker (g.U.UnitKind.meaning c.args.unit.unit) c.requires.1.1.1.0)) c.in-Ok.ensures.ok,
  ),
)

pub returns-in-Err-clause-step : goal.returns-in-Err-clause-step
returns-in-Err-clause-step g c = clashed g.U.UnitKind.meaning g.m c.args.g c.args.unit.dylib c.args.unit.tracker (g.U.UnitKind.meaning c.args.unit.unit) c.in-Err.undefined.why c.spend_clashing.result c.args.self.now.parts c.spend_clashing.new.self.parts
    c.requires.1.1.0 c.requires.1.1.1.0 c.requires.1.1.1.1 c.in-Err.ensures.refused c.spend_clashing.ensures.clash c.spend_clashing.ensures.spent
    (told_through c.args.self.now.parts c.define.new.self c.spend_clashing.new.self.parts (record { tells = c.define.ensures.tells; book = ap (λ p. p.book) c.define.ensures.rest }) (ap (λ l. l.parts) c.spend_clashing.ensures.rest))
