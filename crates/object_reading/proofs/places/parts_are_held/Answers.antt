use Rattle.object_reading.proofs.Fits.{parts_are_held}
use Rattle.object_reading.proofs.places.parts_are_held.Goals as goal

pub returns : goal.returns
returns c = parts_are_held
