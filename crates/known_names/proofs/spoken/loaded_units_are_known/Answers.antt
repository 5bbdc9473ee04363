use Rattle.known_names.proofs.LoadedUnits.{loaded_known}
use Rattle.known_names.proofs.spoken.loaded_units_are_known.Goals as goal

pub returns : goal.returns
returns c = loaded_known
