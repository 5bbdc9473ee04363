use Rattle.session_units.specs.Units.{meaning_of}
use Rattle.generated_session.proofs.set_up.put_definition.Goals as goal

pub returns : goal.returns
returns c = (meaning_of c.in_ok-unit.unit, c.in_ok-unit.ensures, c.in_ok-put_unit.ensures)
