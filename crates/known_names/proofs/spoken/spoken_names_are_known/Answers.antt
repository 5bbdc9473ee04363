use Rattle.known_names.proofs.Seats.{spoken_known}
use Rattle.known_names.proofs.spoken.spoken_names_are_known.Goals as goal

pub returns : goal.returns
returns c = spoken_known
