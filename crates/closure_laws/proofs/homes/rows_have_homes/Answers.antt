use Rattle.closure_laws.proofs.Homing.{rows_have_homes}
use Rattle.closure_laws.proofs.homes.rows_have_homes.Goals as goal

pub returns : goal.returns
returns c = rows_have_homes
