use Rattle.std.proofs.Common.{sym, subst, ◌<◌, ◌∙◌}
use Rattle.orc_ids.specs.declared.limits.TheConstants.{UNIT_LIMIT}
use Rattle.session_parts.proofs.LostNames.{lost_count}
use Rattle.session_parts.proofs.parts.Parts.enter.Goals as goal

pub add-unit-requires-clause-few : goal.add-unit-requires-clause-few
add-unit-requires-clause-few g c = subst (λ n. n < UNIT_LIMIT) (sym (lost_count c.rows-2.result.now c.as_slice.result.now c.args.self.now.units.units c.lose_names.new.units.units c.lose_names.ensures.lost)) c.requires.units

pub returns-clause-unit : goal.returns-clause-unit
returns-clause-unit g c = c.add-unit.ensures.number ∙ lost_count c.rows-2.result.now c.as_slice.result.now c.args.self.now.units.units c.lose_names.new.units.units c.lose_names.ensures.lost
